use Rattle.std.proofs.Common.{◌≡◌, ◌-◌, suc, length}
use Rattle.bg_passive.specs.Incarnations.{Env}
use Rattle.bg_passive.specs.Arrivals.{way_to}
use Rattle.bg_incarnate.specs.Walked.{open_of}
use Rattle.bg_incarnate.proofs.walk.open.Given as goal

abbrev pub invariant-loop-alloc : goal.invariant-loop-alloc
invariant-loop-alloc l = (v : Env) → way_to l.k v (open_of l.ways.items) ≡ way_to l.k v (open_of l.fn.ways.items)

abbrev pub decreases-loop-alloc : goal.decreases-loop-alloc
decreases-loop-alloc l = suc l.k - length l.ways.items
