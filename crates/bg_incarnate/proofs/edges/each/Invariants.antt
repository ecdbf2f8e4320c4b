use Rattle.std.proofs.Common.{◌≡◌, [], map, take}
use Rattle.bg_passive.specs.Incarnations.{edge_to}
use Rattle.bg_incarnate.specs.Views.{edge_of, held_env}
use Rattle.bg_incarnate.specs.Arrived.{arrival_of}
use Rattle.bg_incarnate.proofs.edges.each.Given as goal

abbrev pub invariant-loop-k : goal.invariant-loop-k
invariant-loop-k l = map edge_of l.made.items ≡ map (edge_to (held_env l.held) (map arrival_of l.later.items) []) (take l.k-index l.ks)
