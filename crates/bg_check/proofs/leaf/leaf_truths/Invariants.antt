use Rattle.std.proofs.Common.{◌≡◌, false, replicate, drop}
use Rattle.bg_check.specs.Leaves.{marked}
use Rattle.bg_check.proofs.leaf.leaf_truths.Given as goal

abbrev pub invariant-loop-d : goal.invariant-loop-d
invariant-loop-d l = marked (drop l.d-index l.path) l.truths.items ≡ marked l.path (replicate l.count false)
