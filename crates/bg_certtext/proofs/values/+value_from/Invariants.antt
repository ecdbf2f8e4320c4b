use Rattle.std.proofs.Common.{◌≡◌, ◌+◌, ◌*◌, length, map}
use Rattle.bg_certtext.specs.Views.{slot_of}
use Rattle.bg_certtext.specs.Got.{slots_at, prefix}
use Rattle.bg_certtext.proofs.values.+value_from.Given as goal

abbrev pub decreases-value_from : goal.decreases-value_from
decreases-value_from l = 4 * l.depth

abbrev pub decreases-default_from : goal.decreases-default_from
decreases-default_from l = 4 * l.depth + 1

abbrev pub decreases-slot_from : goal.decreases-slot_from
decreases-slot_from l = 4 * l.depth + 1

abbrev pub decreases-closed_from : goal.decreases-closed_from
decreases-closed_from l = 4 * l.depth + 2

abbrev pub decreases-map_from : goal.decreases-map_from
decreases-map_from l = 4 * l.depth + 3

abbrev pub invariant-map_from-loop-last : goal.invariant-map_from-loop-last
invariant-map_from-loop-last l = prefix (map slot_of l.slots.items) (slots_at l.rest) ≡ slots_at l.bytes

abbrev pub decreases-map_from-loop-last : goal.decreases-map_from-loop-last
decreases-map_from-loop-last l = length l.rest
