use Rattle.std.proofs.Common.{◌≡◌, length, map}
use Rattle.bg_certtext.specs.Views.{value_of}
use Rattle.bg_certtext.specs.Spellable.{key_lt}
use Rattle.bg_certtext.proofs.sorted.key_lt.Given as goal

abbrev pub invariant-loop-left : goal.invariant-loop-left
invariant-loop-left l = key_lt (map value_of l.left) (map value_of l.right) ≡ key_lt (map value_of l.a) (map value_of l.b)

abbrev pub decreases-loop-left : goal.decreases-loop-left
decreases-loop-left l = length l.left
