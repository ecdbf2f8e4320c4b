use Rattle.std.proofs.Common.{◌≡◌, drop}
use Rattle.bg_passive.specs.Arrivals.{ways_to}
use Rattle.bg_incarnate.specs.Views.{held_env}
use Rattle.bg_incarnate.specs.Walked.{open_of}
use Rattle.bg_incarnate.proofs.walk.open_each.Given as goal

abbrev pub invariant-loop-k : goal.invariant-loop-k
invariant-loop-k l = ways_to (drop l.k-index l.ks) (held_env l.held) (open_of l.ways.items) ≡ ways_to l.ks (held_env l.held) (open_of l.fn.ways.items)
