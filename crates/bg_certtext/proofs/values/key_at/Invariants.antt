use Rattle.std.proofs.Common.{◌≡◌, map, length}
use Rattle.bg_certtext.specs.Views.{value_of}
use Rattle.bg_certtext.proofs.ReadsKeys.{values_at}
use Rattle.bg_certtext.proofs.ReadsLoops.{in_front}
use Rattle.bg_certtext.proofs.values.key_at.Given as goal

abbrev pub invariant-loop-values : goal.invariant-loop-values
invariant-loop-values l = in_front (map value_of l.values.items) (values_at l.rest) ≡ values_at l.bytes

abbrev pub decreases-loop-values : goal.decreases-loop-values
decreases-loop-values l = length l.rest
