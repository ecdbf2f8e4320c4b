use Rattle.std.proofs.Common.{◌+◌, [], drop, map}
use Rattle.bg_ast.specs.Resolved.{Ex}
use Rattle.bg_ast.specs.Views.{clause_of}
use Rattle.bg_places.specs.Counts.{clause_nodes}
use Rattle.bg_opened.specs.Written.{opened_clause}
use Rattle.bg_expanded.specs.Bodies.{IsAlike, IsCountOf, worth}
use Rattle.bg_expanded.proofs.sized.add_clauses.Given as goal

abbrev pub invariant-loop-k : goal.invariant-loop-k
invariant-loop-k l =
    (o : Ex → Ex) → IsCountOf l.table o →
    IsAlike (worth l.count [] + clause_nodes (map (opened_clause o) (map clause_of (drop l.k-index l.clauses))))
    (worth l.fn.count [] + clause_nodes (map (opened_clause o) (map clause_of l.clauses)))
