use Rattle.std.proofs.Common.{◌≡◌, ◌+◌, ◌≤◌, drop, map}
use Rattle.bg_ast.specs.Views.{clause_of}
use Rattle.bg_places.specs.Checks.{checked}
use Rattle.bg_places.proofs.checks.checked.Given as goal

abbrev pub invariant-loop-k : goal.invariant-loop-k
invariant-loop-k l = record {
  few : l.count ≤ l.k-index;
  whole : l.count + checked (map clause_of (drop l.k-index l.clauses)) ≡ checked (map clause_of l.clauses);
}
