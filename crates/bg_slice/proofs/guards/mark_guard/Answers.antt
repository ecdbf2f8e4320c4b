use Rattle.std.proofs.Common.{rules, sym, ap, ◌∙◌}
use Rattle.bg_text.specs.Views.{option_of}
use Rattle.bg_ast.specs.Views.{candidate_of}
use Rattle.bg_slice.specs.Slices.{is_guard}
use Rattle.bg_slice.specs.Marks.{marked}
use Rattle.bg_slice.proofs.Marking.{marked_none, first_at, first_over}
use Rattle.bg_slice.proofs.guards.mark_guard.Goals as goal

pub returns-then-i-marks : goal.returns-then-i-marks
returns-then-i-marks c =
    first_at c.in-Some.b.0 c.args.marks.now (search rules)
    ∙ ap (λ b. marked (λ j. is_guard j (option_of candidate_of b)) 0 c.args.marks.now) (sym c.in-Some.is)

pub returns-else-i-marks : goal.returns-else-i-marks
returns-else-i-marks c =
    first_over c.in-Some.b.0 c.args.marks.now (search rules)
    ∙ ap (λ b. marked (λ j. is_guard j (option_of candidate_of b)) 0 c.args.marks.now) (sym c.in-Some.is)

pub returns-in_default : goal.returns-in_default
returns-in_default c =
    sym (marked_none 0 c.args.marks.now)
    ∙ ap (λ b. marked (λ j. is_guard j (option_of candidate_of b)) 0 c.args.marks.now) (sym c.in_default.is)
