use Rattle.std.proofs.Common.{◌≡◌, ◌++◌, map, drop}
use Rattle.bg_ast.specs.Views.{clause_of}
use Rattle.bg_places.specs.Placed.{placed_clauses}
use Rattle.bg_places.specs.Views.{placed_in, spot_in}
use Rattle.bg_places.proofs.clauses.push_checks.Given as goal

abbrev pub invariant-loop-k : goal.invariant-loop-k
invariant-loop-k l = placed_in l.out.items ++ placed_clauses l.implementation (spot_in l.group) l.call (map clause_of (drop l.k-index l.clauses)) ≡ placed_in l.fn.out.items ++ placed_clauses l.implementation (spot_in l.group) l.call (map clause_of l.clauses)
