use Rattle.std.proofs.Common.{◌≡◌, drop, length, ◌++◌}
use Rattle.bg_cert.specs.Paths.{denials}
use Rattle.bg_cert.specs.Certs.{lemma_of}
use Rattle.bg_cert.specs.Tours.{all_below}
use Rattle.bg_cert.proofs.lemma.deny_all.Given as goal

abbrev pub invariant-loop-l : goal.invariant-loop-l
invariant-loop-l l =
    record {
      sized : length l.trail.counts.items ≡ length l.fn.trail.counts.items;
      there : all_below (length l.fn.trail.counts.items) (lemma_of l.atoms (drop l.l-index l.lemma)) ≡ all_below (length l.fn.trail.counts.items) (lemma_of l.atoms l.lemma);
      denied : l.trail.decisions.items ++ denials (lemma_of l.atoms (drop l.l-index l.lemma)) ≡ l.fn.trail.decisions.items ++ denials (lemma_of l.atoms l.lemma);
    }
