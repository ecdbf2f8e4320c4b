use Rattle.std.proofs.Common.{◌≡◌, drop, map}
use Rattle.bg_ast.specs.Views.{clause_of}
use Rattle.bg_guess.specs.Calls.{above}
use Rattle.bg_guess.proofs.calls.above.Given as goal

abbrev pub invariant-loop-k : goal.invariant-loop-k
invariant-loop-k l = above l.most (map clause_of (drop l.k-index l.clauses)) ≡ above l.n (map clause_of l.clauses)
