use Rattle.std.proofs.Common.{◌≡◌, drop}
use Rattle.bg_cert.specs.Paths.{clause_false}
use Rattle.bg_cert.proofs.leaf.clause_false.Given as goal

abbrev pub invariant-loop-l : goal.invariant-loop-l
invariant-loop-l l = clause_false l.trail.decisions.items (drop l.l-index l.clause) ≡ clause_false l.trail.decisions.items l.clause
