use Rattle.std.proofs.Common.{◌≡◌, length}
use Rattle.bg_forms.specs.ChainForms.{signed_form}
use Rattle.bg_forms.specs.Views.{form_in}
use Rattle.bg_forms.proofs.formed.signed.Given as goal

abbrev pub invariant-loop-last : goal.invariant-loop-last
invariant-loop-last l = signed_form l.left (form_in l.made) ≡ signed_form l.signs (form_in l.fn.f)

abbrev pub decreases-loop-last : goal.decreases-loop-last
decreases-loop-last l = length l.left
