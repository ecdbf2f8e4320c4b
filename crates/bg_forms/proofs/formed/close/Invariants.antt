use Rattle.std.proofs.Common.{◌≡◌, map, vec_len}
use Rattle.bg_forms.specs.ChainForms.{folded}
use Rattle.bg_forms.specs.Views.{form_in}
use Rattle.bg_forms.proofs.formed.close.Given as goal

abbrev pub invariant-loop-p : goal.invariant-loop-p
invariant-loop-p l = folded (map form_in l.waiting.items) (form_in l.made) ≡ folded (map form_in l.fn.waiting.items) (form_in l.fn.f)

abbrev pub decreases-loop-p : goal.decreases-loop-p
decreases-loop-p l = vec_len l.waiting
