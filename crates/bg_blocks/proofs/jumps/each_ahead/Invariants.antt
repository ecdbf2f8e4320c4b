use Rattle.std.proofs.Common.{◌≡◌, ◌++◌, map, drop}
use Rattle.bg_blocks.specs.EmittedViews.{label_in}
use Rattle.bg_blocks.proofs.jumps.each_ahead.Given as goal

abbrev pub invariant-loop-l : goal.invariant-loop-l
invariant-loop-l l = l.to.items ++ map (label_in l.state) (drop l.l-index l.labels) ≡ map (label_in l.state) l.labels
