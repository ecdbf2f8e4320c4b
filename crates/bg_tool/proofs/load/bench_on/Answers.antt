use Rattle.std.proofs.Common.{◌∙◌}
use Rattle.bg_ast.specs.Meaning.{meaning_of}
use Rattle.bg_tool.proofs.load.bench_on.Goals as goal

pub returns-in-Ok-clause-lines : goal.returns-in-Ok-clause-lines
returns-in-Ok-clause-lines g c =
    let on = c.in_ok-outcome.ensures.outcome in
    let p = on.program in
    record {
      program = p;
      spelled = on.spelled;
      inferred = c.in_ok-outcome.outcome;
      right = on.right;
      sound = on.sound;
      is = c.in-Ok.ensures p (on.right.opened, on.right.globals, on.right.bodies);
      gives = c.status_of.ensures.gives ∙ c.word_of.ensures (meaning_of p);
    }
