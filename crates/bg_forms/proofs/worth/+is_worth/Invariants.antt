use Rattle.std.proofs.Common.{◌≡◌, ◌≤◌}
use Rattle.bg_formula.specs.Meaning.{same}
use Rattle.bg_forms.specs.declared.form.Form.{size-Form}
use Rattle.bg_forms.specs.Forms.{form_true}
use Rattle.bg_forms.specs.Worth.{bools_at}
use Rattle.bg_forms.specs.Views.{form_in}
use Rattle.bg_forms.proofs.worth.+is_worth.Given as goal

abbrev pub invariant-loop-left : goal.invariant-loop-left
invariant-loop-left l =
    (same (form_true (bools_at l.truths) (form_in l.left)) l.sign ≡ form_true (bools_at l.truths) (form_in l.f))
    × (size-Form l.left ≤ size-Form l.f)

abbrev pub decreases-loop-left : goal.decreases-loop-left
decreases-loop-left l = size-Form l.left
