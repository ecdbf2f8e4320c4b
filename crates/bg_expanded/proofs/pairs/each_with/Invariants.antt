use Rattle.std.proofs.Common.{◌+◌, map, drop}
use Rattle.bg_kinds.specs.Views.{ref_of}
use Rattle.bg_opening.specs.Constants.{unique_of}
use Rattle.bg_expanded.specs.Bodies.{IsAlike}
use Rattle.bg_expanded.specs.Pairs.{count_with}
use Rattle.bg_expanded.proofs.pairs.each_with.Given as goal

abbrev pub invariant-loop-u : goal.invariant-loop-u
invariant-loop-u l =
    IsAlike (l.count + count_with (ref_of l.t) (map unique_of (drop l.u-index l.told))) (count_with (ref_of l.t) (map unique_of l.told))
