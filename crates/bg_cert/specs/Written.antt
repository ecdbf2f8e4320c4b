-- Certificates that are checked while they are written.
use Rattle.std.specs.Prelude.{◌≡◌, ℕ, ◌<◌, Bool, true, false, List, [], ◌∷◌, ◌++◌, All}
use Rattle.bg_formula.specs.Formulas.{Formula}
use Rattle.bg_formula.specs.Meaning.{AtomsAgree}
use Rattle.bg_cert.specs.declared.cert.Cert.{Cert}
use Rattle.bg_cert.specs.declared.tour.Turn.{Turn}
use Rattle.bg_cert.specs.declared.tour.Turn.TheVariants.{Decides, Learns}
use Rattle.bg_cert.specs.declared.tour.Tour.{Tour}
use Rattle.bg_cert.specs.Certs.{NodeOf, Learns as IsLemma, CertOf, Accepts, accepts, cert_of, root_with}
use Rattle.bg_cert.specs.Walks.{no_instance}
use Rattle.bg_cert.specs.Tours.{path_in, stack_of, known_on}

-- some certificate is accepted, in whose table each row stands with its denial
pub record IsClosed (f : Formula) (set : ℕ → Bool) : Type 0 where
  pub cert : CertOf
  pub agree : AtomsAgree cert.table
  pub accepted : Accepts f set no_instance cert

-- each lemma that a path knows or is to know is one of the first m nodes
abbrev pub TurnBelow : ℕ → Turn → Type 0
TurnBelow m (Decides d) = Unit {0}
TurnBelow m (Learns k) = k < m

pub record KnowsBelow (m : ℕ) (t : Tour) : Type 0 where
  pub known : All (λ k. k < m) (known_on t)
  pub waiting : All (λ w. TurnBelow m w.turn) t.waiting.items

abbrev pub is_lemma : NodeOf → Bool
is_lemma (IsLemma ls) = true
is_lemma n = false

-- the nodes that are seen make these paths of the tree with this table: what nodes behind them are, they are with them
pub record Seen (f : Formula) (set : ℕ → Bool) (kept : Cert) (t : Tour) : Type 0 where
  pub nodes : List NodeOf
  pub told : (rest : List NodeOf) → accepts f set no_instance (root_with f (cert_of kept).table ∷ []) (nodes ++ rest) ≡ accepts f set no_instance (stack_of (path_in f kept) t) rest
