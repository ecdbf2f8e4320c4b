use Rattle.std.proofs.Common.{◌≡◌, drop}
use Rattle.bg_cert.specs.Paths.{clause_false}
use Rattle.bg_cert.specs.Certs.{lemma_of}
use Rattle.bg_cert.proofs.lemma.lemma_false.Given as goal

abbrev pub invariant-loop-l : goal.invariant-loop-l
invariant-loop-l l = clause_false l.trail.decisions.items (lemma_of l.atoms (drop l.l-index l.lemma)) ≡ clause_false l.trail.decisions.items (lemma_of l.atoms l.lemma)
