use Rattle.std.proofs.Common.{◌≡◌, length}
use Rattle.bg_forms.specs.Views.{form_in}
use Rattle.bg_ahead.specs.Spines.{wrapped}
use Rattle.bg_ahead.proofs.moved.wrapped.Given as goal

abbrev pub invariant-loop-p : goal.invariant-loop-p
invariant-loop-p l = wrapped l.parts.items (form_in l.made) ≡ wrapped l.fn.parts.items (form_in l.fn.f)

abbrev pub decreases-loop-p : goal.decreases-loop-p
decreases-loop-p l = length l.parts.items
