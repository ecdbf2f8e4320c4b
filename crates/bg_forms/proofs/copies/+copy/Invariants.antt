use Rattle.std.proofs.Common.{◌≡◌, ◌≤◌}
use Rattle.bg_forms.specs.declared.form.Form.{size-Form}
use Rattle.bg_forms.specs.Views.{form_in}
use Rattle.bg_forms.specs.Spines.{wrapped}
use Rattle.bg_forms.proofs.copies.+copy.Given as goal

abbrev pub invariant-loop-left : goal.invariant-loop-left
invariant-loop-left l = (wrapped l.parts.items (form_in l.left) ≡ form_in l.f) × (size-Form l.left ≤ size-Form l.f)

abbrev pub decreases-loop-left : goal.decreases-loop-left
decreases-loop-left l = size-Form l.left
