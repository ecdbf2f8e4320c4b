use Rattle.std.proofs.Common.{◌≡◌, ◌+◌, ◌++◌, drop, length, map}
use Rattle.bg_ast.specs.Views.{clause_of}
use Rattle.bg_guess.specs.Loops.{guesses}
use Rattle.bg_guess.proofs.loops.push_claims.Given as goal

abbrev pub invariant-loop-claim : goal.invariant-loop-claim
invariant-loop-claim l = record {
  clauses :
      map clause_of l.out.items ++ guesses l.desk.above l.pos l.at (drop l.claim-index l.claims)
      ≡ map clause_of l.fn.out.items ++ guesses l.desk.above l.pos l.next l.claims;
  number : l.at + length (drop l.claim-index l.claims) ≡ l.next + length l.claims;
}
