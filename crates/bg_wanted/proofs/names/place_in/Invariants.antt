use Rattle.std.proofs.Common.{◌-◌, ◌≡◌, ◌<◌, ℕ, false, Some, length}
use Rattle.std.specs.Prelude.{slice_get}
use Rattle.bg_kinds.specs.Views.{keys_of, ref_of}
use Rattle.bg_wanted.specs.declared.names.Group.{Group}
use Rattle.bg_wanted.specs.Alike.{is_group}
use Rattle.bg_wanted.proofs.names.place_in.Given as goal

abbrev pub invariant-loop-i : goal.invariant-loop-i
invariant-loop-i l =
    (k : ℕ) (g : Group) → k < l.i → slice_get l.groups k ≡ Some g → is_group g (keys_of l.keys) (ref_of l.gives) ≡ false

abbrev pub decreases-loop-i : goal.decreases-loop-i
decreases-loop-i l = length l.groups - l.i
