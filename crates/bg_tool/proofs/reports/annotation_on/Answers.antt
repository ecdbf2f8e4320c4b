use Rattle.std.proofs.Common.{◌≡◌, ◌∙◌, subst}
use Rattle.bg_text.specs.Views.{decls_of}
use Rattle.bg_ast.specs.Meaning.{meaning_of}
use Rattle.bg_ast.specs.Views.{program_of}
use Rattle.bg_ast.specs.Resolved.{Program}
use Rattle.bg_front.specs.Programs.{IsProgramFrom}
use Rattle.bg_tool.proofs.reports.annotation_on.Goals as goal

pub returns-in-Ok-clause-annotation : goal.returns-in-Ok-clause-annotation
returns-in-Ok-clause-annotation g c =
    let on = c.in_ok-outcome.ensures.outcome in
    let guess = c.args.how.now.asked.guess in
    let bytes = c.args.bytes.now in
    let ds = decls_of c.in_ok-written.written.tree.decls.items in
    let p = program_of c.in_ok-written.written.typed.program in
    let from = c.in_ok-written.ensures.program in
    let same : p ≡ on.program = c.a_text_has_one_program_or_one_refusal.ensures.program guess bytes p on.program from.0 on.spelled in
    record {
      decls = ds;
      program = on.program;
      spelled = subst (λ (q : Program). IsProgramFrom guess bytes ds q) same from;
      inferred = c.in_ok-outcome.outcome;
      right = on.right;
      sound = on.sound;
      is = c.in-Ok.ensures guess bytes from;
      gives = c.status_of.ensures.gives ∙ c.word_of.ensures (meaning_of on.program);
    }
