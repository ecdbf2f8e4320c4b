use Rattle.std.proofs.Common.{◌≡◌, ◌≤◌}
use Rattle.bg_forms.specs.declared.form.Form.{size-Form}
use Rattle.bg_forms.specs.Views.{form_in}
use Rattle.bg_ahead.specs.Moved.{moved_form}
use Rattle.bg_ahead.specs.Spines.{wrapped}
use Rattle.bg_ahead.proofs.moved.+form.Given as goal

abbrev pub invariant-loop-left : goal.invariant-loop-left
invariant-loop-left l = (wrapped l.parts.items (moved_form l.goes (form_in l.left)) ≡ moved_form l.goes (form_in l.f)) × (size-Form l.left ≤ size-Form l.f)

abbrev pub decreases-loop-left : goal.decreases-loop-left
decreases-loop-left l = size-Form l.left
