use Rattle.std.proofs.Common.{◌≡◌, ◌-◌, drop, map}
use Rattle.bg_ast.specs.Views.{clause_of}
use Rattle.bg_places.specs.Counts.{clause_nodes}
use Rattle.bg_places.proofs.sized.spend_clauses.Given as goal

abbrev pub invariant-loop-k : goal.invariant-loop-k
invariant-loop-k l = l.rest - clause_nodes (map clause_of (drop l.k-index l.clauses)) ≡ l.left - clause_nodes (map clause_of l.clauses)
