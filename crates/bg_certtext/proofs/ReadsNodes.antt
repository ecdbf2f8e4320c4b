-- A node is read back from its words, and its words are its own.
use Rattle.std.proofs.Common.{◌≡◌, ⊎_elim, ℕ, List, [], ◌∷◌, Some, codes, bytes_eq, refl}
use Rattle.bg_certtext.specs.Views.{NodeOf, Splits, Cuts, Learns, IsClause, IsKnown}
use Rattle.bg_certtext.specs.Machine.{then_, literals_in, plain_in, node_in}
use Rattle.bg_certtext.proofs.ReadsOptions.{if_made}
use Rattle.bg_certtext.proofs.ReadsSteps.{IsNodeLine, of_number, of_bound, of_name, of_lemma}

plain_back : (key : List ℕ) (ws : List (List ℕ)) (n : NodeOf) → plain_in key ws ≡ Some n → IsNodeLine (key ∷ ws) n
plain_back key ws n h =
    ⊎_elim (λ p. of_number Splits (codes "split") key ws n (λ a. refl) (λ a. refl) p.0 p.1) (λ q.
    ⊎_elim (λ p. of_bound key ws n p.0 p.1) (λ q.
    ⊎_elim (λ p. of_number Cuts (codes "cut") key ws n (λ a. refl) (λ a. refl) p.0 p.1) (λ q.
    ⊎_elim (λ p. of_number IsClause (codes "clause") key ws n (λ a. refl) (λ a. refl) p.0 p.1) (λ q.
    ⊎_elim (λ p. of_name key ws n p.0 p.1) (λ q.
    ⊎_elim (λ p. of_number IsKnown (codes "known") key ws n (λ a. refl) (λ a. refl) p.0 p.1) (λ q. absurd (cc q.1))
    (if_made (bytes_eq key (codes "known")) _ _ n q.1))
    (if_made (bytes_eq key (codes "unit")) _ _ n q.1))
    (if_made (bytes_eq key (codes "clause")) _ _ n q.1))
    (if_made (bytes_eq key (codes "cut")) _ _ n q.1))
    (if_made (bytes_eq key (codes "bound")) _ _ n q.1))
    (if_made (bytes_eq key (codes "split")) _ _ n h)

pub node_back : (ws : List (List ℕ)) (n : NodeOf) → node_in ws ≡ Some n → IsNodeLine ws n
node_back [] n h = absurd (cc)
node_back (key ∷ ws) n h =
    ⊎_elim (λ p. of_lemma key ws n p.0 p.1) (λ q. plain_back key ws n q.1)
    (if_made (bytes_eq key (codes "lemma")) (then_ (literals_in ws) (λ ls. Some (Learns ls))) (plain_in key ws) n h)
