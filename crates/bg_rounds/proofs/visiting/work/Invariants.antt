use Rattle.bg_rounds.specs.Crews.{Works}
use Rattle.bg_rounds.proofs.visiting.work.Given as goal

abbrev pub invariant-loop-turn : goal.invariant-loop-turn
invariant-loop-turn g l = let k = g.C.Checker in Works (k.cands l.checker) (k.targets l.checker) (k.cand l.checker) (k.passes l.checker) (k.finds l.checker) l.round.claims.now l.round.shared.now l.w
