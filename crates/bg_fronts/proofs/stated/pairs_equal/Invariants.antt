use Rattle.std.proofs.Common.{◌≡◌, ◌≤◌, length}
use Rattle.bg_terms.specs.Instances.{all_equal}
use Rattle.bg_term_table.specs.Views.{meaning}
use Rattle.bg_fronts.proofs.Pairs.{from}
use Rattle.bg_fronts.proofs.stated.pairs_equal.Given as goal

abbrev pub invariant-loop-k : goal.invariant-loop-k
invariant-loop-k l =
    (l.k ≤ length l.xs) × ((l.k ≤ length l.ys) × (meaning l.made ≡ all_equal (from l.k l.xs) (from l.k l.ys)))

abbrev pub decreases-loop-k : goal.decreases-loop-k
decreases-loop-k l = l.k
