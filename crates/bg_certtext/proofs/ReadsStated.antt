-- Lines of terms and instances are read back from their words, and their words are theirs.
use Rattle.std.proofs.Common.{◌≡◌, ⊎_elim, ℕ, ◌&&◌, List, [], ◌∷◌, ◌++◌, true, Some, codes, bytes_eq, refl, ap, sym, subst, ◌∙◌}
use Rattle.std.specs.Fmt.{decimal}
use Rattle.bg_certtext.specs.declared.text.Stated.{Stated}
use Rattle.bg_certtext.specs.declared.text.Stated.TheVariants as said
use Rattle.bg_certtext.specs.Spellable.{is_number, is_stated}
use Rattle.bg_certtext.specs.Texts.{stated_words}
use Rattle.bg_certtext.specs.Words.{natural}
use Rattle.bg_certtext.specs.Machine.{two, pair_in, triple_in, instance_in, stated_in}
use Rattle.bg_certtext.proofs.ReadsOptions.{then_made, if_made, same_some, both, all_of}
use Rattle.bg_certtext.proofs.ReadsNumbers.{natural_back, natural_read}
use Rattle.bg_certtext.proofs.ReadsWords.{same_word, two_back}

abbrev pub IsStatedLine : List (List ℕ) → Stated → Type 0
IsStatedLine ws s = (ws ≡ stated_words s) × (is_stated s ≡ true)

-- a line of these words and two numbers
pair_back : (f : ℕ → ℕ → Stated) (front ws : List (List ℕ)) (s : Stated) → ((a b : ℕ) → stated_words (f a b) ≡ front ++ decimal a ∷ decimal b ∷ []) → ((a b : ℕ) → is_stated (f a b) ≡ (is_number a && is_number b)) → pair_in f ws ≡ Some s → IsStatedLine (front ++ ws) s
pair_back f front ws s words test h =
    let (p, e, g) = then_made (two ws) (λ (p : ℕ × ℕ). Some (f p.0 p.1)) s h in
    let q = two_back ws p e in
    subst (IsStatedLine (front ++ ws)) (same_some (f p.0 p.1) s g) (
      ap (λ (us : List (List ℕ)). front ++ us) q.0 ∙ sym (words p.0 p.1),
      test p.0 p.1 ∙ all_of (is_number p.0) (is_number p.1) q.1 q.2,
    )

triple_back : (ws : List (List ℕ)) (s : Stated) → triple_in said.Elsewhere ws ≡ Some s → IsStatedLine (codes "inst" ∷ codes "d" ∷ ws) s
triple_back [] s h = absurd (cc)
triple_back (a ∷ []) s h = absurd (cc)
triple_back (a ∷ b ∷ []) s h = absurd (cc)
triple_back (a ∷ b ∷ c ∷ []) s h =
    let (i, e, h1) = then_made (natural a) _ s h in
    let (j, f, h2) = then_made (natural b) _ s h1 in
    let (k, g, h3) = then_made (natural c) _ s h2 in
    let p = natural_back a i e in
    let q = natural_back b j f in
    let r = natural_back c k g in
    subst (IsStatedLine (codes "inst" ∷ codes "d" ∷ a ∷ b ∷ c ∷ [])) (same_some (said.Elsewhere i j k) s h3) (
      let spelt : codes "inst" ∷ codes "d" ∷ a ∷ b ∷ c ∷ [] ≡ codes "inst" ∷ codes "d" ∷ decimal i ∷ decimal j ∷ decimal k ∷ [] = cc (p.0, q.0, r.0) in spelt,
      all_of (is_number i) (is_number j && is_number k) p.1 (all_of (is_number j) (is_number k) q.1 r.1),
    )
triple_back (a ∷ b ∷ c ∷ d ∷ ws) s h = absurd (cc)

-- the first word is this one, and the second
keyed : (key word : List ℕ) (ws : List (List ℕ)) (s : Stated) → bytes_eq key word ≡ true → IsStatedLine (word ∷ ws) s → IsStatedLine (key ∷ ws) s
keyed key word ws s e h = subst (λ (k : List ℕ). IsStatedLine (k ∷ ws) s) (sym (same_word key word e)) h

formed : (key word : List ℕ) (ws : List (List ℕ)) (s : Stated) → bytes_eq key word ≡ true → IsStatedLine (codes "inst" ∷ word ∷ ws) s → IsStatedLine (codes "inst" ∷ key ∷ ws) s
formed key word ws s e h = subst (λ (k : List ℕ). IsStatedLine (codes "inst" ∷ k ∷ ws) s) (sym (same_word key word e)) h

instance_back : (ws : List (List ℕ)) (s : Stated) → instance_in ws ≡ Some s → IsStatedLine (codes "inst" ∷ ws) s
instance_back [] s h = absurd (cc)
instance_back (key ∷ ws) s h =
    ⊎_elim (λ p. formed key (codes "c") ws s p.0 (pair_back said.Congruent (codes "inst" ∷ codes "c" ∷ []) ws s (λ a b. refl) (λ a b. refl) p.1)) (λ q.
    ⊎_elim (λ p. formed key (codes "s") ws s p.0 (pair_back said.AtIndex (codes "inst" ∷ codes "s" ∷ []) ws s (λ a b. refl) (λ a b. refl) p.1)) (λ q.
    ⊎_elim (λ p. formed key (codes "d") ws s p.0 (triple_back ws s p.1)) (λ q.
    ⊎_elim (λ p. formed key (codes "x") ws s p.0 (pair_back said.Apart (codes "inst" ∷ codes "x" ∷ []) ws s (λ a b. refl) (λ a b. refl) p.1)) (λ q. absurd (cc q.1))
    (if_made (bytes_eq key (codes "x")) _ _ s q.1))
    (if_made (bytes_eq key (codes "d")) _ _ s q.1))
    (if_made (bytes_eq key (codes "s")) _ _ s q.1))
    (if_made (bytes_eq key (codes "c")) _ _ s h)

pub stated_back : (ws : List (List ℕ)) (s : Stated) → stated_in ws ≡ Some s → IsStatedLine ws s
stated_back [] s h = absurd (cc)
stated_back (key ∷ ws) s h =
    ⊎_elim (λ p. keyed key (codes "inst") ws s p.0 (instance_back ws s p.1)) (λ q.
    ⊎_elim (λ p. keyed key (codes "pick") ws s p.0 (pair_back said.Pick (codes "pick" ∷ []) ws s (λ a b. refl) (λ a b. refl) p.1)) (λ q.
    ⊎_elim (λ p. keyed key (codes "names") ws s p.0 (pair_back said.Names (codes "names" ∷ []) ws s (λ a b. refl) (λ a b. refl) p.1)) (λ q.
    ⊎_elim (λ p. keyed key (codes "apart") ws s p.0 (pair_back said.Unequal (codes "apart" ∷ []) ws s (λ a b. refl) (λ a b. refl) p.1)) (λ q. absurd (cc q.1))
    (if_made (bytes_eq key (codes "apart")) _ _ s q.1))
    (if_made (bytes_eq key (codes "names")) _ _ s q.1))
    (if_made (bytes_eq key (codes "pick")) _ _ s q.1))
    (if_made (bytes_eq key (codes "inst")) _ _ s h)

pub stated_read : (s : Stated) → is_stated s ≡ true → stated_in (stated_words s) ≡ Some s
stated_read (said.Pick m a) h = let p = both (is_number m) (is_number a) h in rw (natural_read m p.0, natural_read a p.1) refl
stated_read (said.Names m n) h = let p = both (is_number m) (is_number n) h in rw (natural_read m p.0, natural_read n p.1) refl
stated_read (said.Congruent a b) h = let p = both (is_number a) (is_number b) h in rw (natural_read a p.0, natural_read b p.1) refl
stated_read (said.AtIndex u a) h = let p = both (is_number u) (is_number a) h in rw (natural_read u p.0, natural_read a p.1) refl
stated_read (said.Elsewhere u a b) h =
    let p = both (is_number u) (is_number a && is_number b) h in
    let q = both (is_number a) (is_number b) p.1 in
    rw (natural_read u p.0, natural_read a q.0, natural_read b q.1) refl
stated_read (said.Apart a b) h = let p = both (is_number a) (is_number b) h in rw (natural_read a p.0, natural_read b p.1) refl
stated_read (said.Unequal a b) h = let p = both (is_number a) (is_number b) h in rw (natural_read a p.0, natural_read b p.1) refl
