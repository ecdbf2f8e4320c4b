use Rattle.std.proofs.Common.{◌≡◌, ◌-◌, map, drop, length}
use Rattle.bg_model.specs.Behind.{stretch_of}
use Rattle.bg_model.specs.Turns as spec
use Rattle.bg_model.specs.Views.{walk_in}
use Rattle.bg_model.proofs.turns.turns.Given as goal

abbrev pub invariant-loop-i : goal.invariant-loop-i
invariant-loop-i l =
    l.later.items ≡ spec.turns (walk_in l.trial) (map stretch_of (drop (length l.blocks - l.i) l.blocks))
