use Rattle.std.proofs.Common.{◌≡◌, length, map}
use Rattle.bg_scalar.specs.Views.{worth_in}
use Rattle.bg_replay.specs.Levels.{level_of, put_back}
use Rattle.bg_replay.proofs.values.put_back.Given as goal

abbrev pub invariant-loop-level : goal.invariant-loop-level
invariant-loop-level l =
    put_back (map level_of l.levels.items) (worth_in l.new) ≡ put_back (map level_of l.initial.levels.items) (worth_in l.initial.new)

abbrev pub decreases-loop-level : goal.decreases-loop-level
decreases-loop-level l = length l.levels.items
