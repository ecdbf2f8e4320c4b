use Rattle.std.proofs.Common.{refl, ◌∙◌}
use Rattle.bg_ast.specs.Meaning.{meaning_of}
use Rattle.bg_check.specs.Kept.{why_of}
use Rattle.bg_inference.specs.Told.{outcome_of}
use Rattle.bg_told.specs.Report.{result_text}
use Rattle.bg_tool.proofs.reports.report_on.Goals as goal

pub returns-in-Ok-clause-report : goal.returns-in-Ok-clause-report
returns-in-Ok-clause-report g c =
    let on = c.in_ok-outcome.ensures.outcome in
    let p = on.program in
    let found = c.in_ok-outcome.outcome in
    let told = outcome_of why_of (meaning_of p) found in
    let text = c.in-Ok.ensures p (on.right.opened, on.right.globals, on.right.bodies) in
    record {
      sound = record {
        front = result_text p told;
        report = record {
          program = p;
          spelled = on.spelled;
          outcome = told;
          sound = on.sound;
          is = refl;
          gives = c.status_of.ensures.gives ∙ c.word_of.ensures (meaning_of p);
        };
        behind = text.behind;
        is = text.is;
        none = text.none;
      };
      accounted = record { inferred = found; right = on.right; told = refl };
      all = text.all;
    }
