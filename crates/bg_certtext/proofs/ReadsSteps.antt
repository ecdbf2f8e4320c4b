-- Steps and nodes are read back from their words, and their words are theirs.
use Rattle.std.proofs.Common.{◌≡◌, ℕ, Bool, true, false, ◌&&◌, nat_lt, int_le, if◌then◌else◌, List, [], ◌∷◌, map, Some, None, ℤ, pos, codes, bytes_eq, refl, sym, ap, subst, ◌∙◌}
use Rattle.std.specs.Fmt.{decimal, signed_decimal}
use Rattle.bg_base.specs.Exact.{fits}
use Rattle.bg_rows.specs.declared.step.Step.{Step}
use Rattle.bg_rows.specs.declared.step.Step.TheVariants.{Path, Sum, Tight}
use Rattle.bg_cert.specs.declared.cert.Named.{Named}
use Rattle.bg_certtext.specs.Views.{NodeOf, Bounds, Learns, IsUnit}
use Rattle.bg_certtext.specs.Spellable.{is_number, is_step, is_node}
use Rattle.bg_certtext.specs.Texts.{literal_word, step_words, node_lines}
use Rattle.bg_certtext.specs.Words.{natural, integer}
use Rattle.bg_certtext.specs.Machine.{then_, when, one, with_sign, name_in, literals_in, sum_in, step_in}
use Rattle.bg_certtext.proofs.ReadsOptions.{then_made, when_made, same_some, both, all_of}
use Rattle.bg_certtext.proofs.ReadsNumbers.{natural_back, natural_read, integer_back, integer_read}
use Rattle.bg_certtext.proofs.ReadsWords.{same_word, one_back, signed_back, name_back}
use Rattle.bg_certtext.proofs.ReadsLists.{literals_back}

-- a line of this first word
abbrev Keyed : List ℕ → List (List ℕ) → List ℕ → List (List ℕ) → Type 0
Keyed key ws word words = key ∷ ws ≡ word ∷ words

keyed : (key word : List ℕ) (ws words : List (List ℕ)) → bytes_eq key word ≡ true → ws ≡ words → Keyed key ws word words
keyed key word ws words e h = let same : key ≡ word = same_word key word e in cc

-- ---- steps

abbrev pub IsStepLine : ℕ → List (List ℕ) → Step → Type 0
IsStepLine n ws s = (ws ≡ step_words s) × (is_step n s ≡ true)

abbrev IsSum : ℕ → List (List ℕ) → Step → Type 0
IsSum n ws s = (codes "sum" ∷ ws ≡ step_words s) × (is_step n s ≡ true)

sum_fine : (n r s : ℕ) (p q : ℤ) → is_number r ≡ true → is_number s ≡ true → fits p ≡ true → fits q ≡ true → (nat_lt r n && (int_le (pos 0) p && (nat_lt s n && int_le (pos 0) q))) ≡ true → is_step n (Sum r p s q) ≡ true
sum_fine n r s p q a b c d h =
    let k = both (nat_lt r n) _ h in
    let l = both (int_le (pos 0) p) _ k.1 in
    let m = both (nat_lt s n) _ l.1 in
    rw (k.0, a, m.0, b, c, l.0, d, m.1) refl

sum_back : (n : ℕ) (ws : List (List ℕ)) (s : Step) → sum_in n ws ≡ Some s → IsSum n ws s
sum_back n [] s h = absurd (cc)
sum_back n (a ∷ []) s h = absurd (cc)
sum_back n (a ∷ b ∷ []) s h = absurd (cc)
sum_back n (a ∷ b ∷ c ∷ []) s h = absurd (cc)
sum_back n (a ∷ b ∷ c ∷ d ∷ []) s h =
    let (r, e, h1) = then_made (natural a) _ s h in
    let (p, f, h2) = then_made (integer b) _ s h1 in
    let (t, g, h3) = then_made (natural c) _ s h2 in
    let (q, i, h4) = then_made (integer d) _ s h3 in
    let k = when_made (nat_lt r n && (int_le (pos 0) p && (nat_lt t n && int_le (pos 0) q))) (Sum r p t q) s h4 in
    let r_is = natural_back a r e in
    let p_is = integer_back b p f in
    let t_is = natural_back c t g in
    let q_is = integer_back d q i in
    subst (IsSum n (a ∷ b ∷ c ∷ d ∷ [])) k.1 (
      let spelt : codes "sum" ∷ a ∷ b ∷ c ∷ d ∷ [] ≡ codes "sum" ∷ decimal r ∷ signed_decimal p ∷ decimal t ∷ signed_decimal q ∷ [] = cc (r_is.0, p_is.0, t_is.0, q_is.0) in spelt,
      sum_fine n r t p q r_is.1 t_is.1 p_is.1 q_is.1 k.0,
    )
sum_back n (a ∷ b ∷ c ∷ d ∷ e ∷ ws) s h = absurd (cc)

path_back : (n : ℕ) (key : List ℕ) (ws : List (List ℕ)) (s : Step) → bytes_eq key (codes "path") ≡ true → then_ (one ws) (λ j. Some (Path j)) ≡ Some s → IsStepLine n (key ∷ ws) s
path_back n key ws s e h =
    let (j, f, g) = then_made (one ws) (λ (j : ℕ). Some (Path j)) s h in
    let k = one_back ws j f in
    subst (IsStepLine n (key ∷ ws)) (same_some (Path j) s g) (keyed key (codes "path") ws (decimal j ∷ []) e k.0, k.1)

tight_back : (n : ℕ) (key : List ℕ) (ws : List (List ℕ)) (s : Step) → bytes_eq key (codes "tight") ≡ true → then_ (one ws) (λ r. when (nat_lt r n) (Tight r)) ≡ Some s → IsStepLine n (key ∷ ws) s
tight_back n key ws s e h =
    let (r, f, g) = then_made (one ws) (λ (r : ℕ). when (nat_lt r n) (Tight r)) s h in
    let k = one_back ws r f in
    let l = when_made (nat_lt r n) (Tight r) s g in
    subst (IsStepLine n (key ∷ ws)) l.1 (keyed key (codes "tight") ws (decimal r ∷ []) e k.0, all_of (nat_lt r n) (is_number r) l.0 k.1)

step_by : (n : ℕ) (key : List ℕ) (ws : List (List ℕ)) (s : Step) (t u v : Bool) → bytes_eq key (codes "path") ≡ t → bytes_eq key (codes "sum") ≡ u → bytes_eq key (codes "tight") ≡ v → (if t then then_ (one ws) (λ j. Some (Path j)) else (if u then sum_in n ws else (if v then then_ (one ws) (λ r. when (nat_lt r n) (Tight r)) else None))) ≡ Some s → IsStepLine n (key ∷ ws) s
step_by n key ws s true u v e f g h = path_back n key ws s e h
step_by n key ws s false true v e f g h = subst (λ (k : List ℕ). IsStepLine n (k ∷ ws) s) (sym (same_word key (codes "sum") f)) (sum_back n ws s h)
step_by n key ws s false false true e f g h = tight_back n key ws s g h
step_by n key ws s false false false e f g h = absurd (cc)

pub step_back : (n : ℕ) (ws : List (List ℕ)) (s : Step) → step_in n ws ≡ Some s → IsStepLine n ws s
step_back n [] s h = absurd (cc)
step_back n (key ∷ ws) s h = step_by n key ws s (bytes_eq key (codes "path")) (bytes_eq key (codes "sum")) (bytes_eq key (codes "tight")) refl refl refl h

pub step_read : (n : ℕ) (s : Step) → is_step n s ≡ true → step_in n (step_words s) ≡ Some s
step_read n (Path j) h = rw (natural_read j h) refl
step_read n (Sum r p s q) h =
    let h1 = both (nat_lt r n) _ h in
    let h2 = both (is_number r) _ h1.1 in
    let h3 = both (nat_lt s n) _ h2.1 in
    let h4 = both (is_number s) _ h3.1 in
    let h5 = both (fits p) _ h4.1 in
    let h6 = both (int_le (pos 0) p) _ h5.1 in
    let h7 = both (fits q) (int_le (pos 0) q) h6.1 in
    rw (natural_read r h2.0, integer_read p h5.0, natural_read s h4.0, integer_read q h7.0, h1.0, h6.0, h3.0, h7.1) refl
step_read n (Tight r) h = let p = both (nat_lt r n) (is_number r) h in rw (natural_read r p.1, p.0) refl

-- ---- nodes that no steps follow

abbrev pub IsNodeLine : List (List ℕ) → NodeOf → Type 0
IsNodeLine ws n = (ws ∷ [] ≡ node_lines n) × (is_node n ≡ true)

alone : {us ws : List (List ℕ)} → us ≡ ws → us ∷ [] ≡ ws ∷ []
alone e = ap (λ (ws : List (List ℕ)). ws ∷ []) e

-- a node of one number
pub of_number : (f : ℕ → NodeOf) (word key : List ℕ) (ws : List (List ℕ)) (n : NodeOf) → ((a : ℕ) → node_lines (f a) ≡ (word ∷ decimal a ∷ []) ∷ []) → ((a : ℕ) → is_node (f a) ≡ is_number a) → bytes_eq key word ≡ true → then_ (one ws) (λ a. Some (f a)) ≡ Some n → IsNodeLine (key ∷ ws) n
of_number f word key ws n words test e h =
    let (a, k, g) = then_made (one ws) (λ (a : ℕ). Some (f a)) n h in
    let p = one_back ws a k in
    subst (IsNodeLine (key ∷ ws)) (same_some (f a) n g) (alone (keyed key word ws (decimal a ∷ []) e p.0) ∙ sym (words a), test a ∙ p.1)

pub of_bound : (key : List ℕ) (ws : List (List ℕ)) (n : NodeOf) → bytes_eq key (codes "bound") ≡ true → then_ (with_sign ws) (λ p. Some (Bounds p.0 p.1)) ≡ Some n → IsNodeLine (key ∷ ws) n
of_bound key ws n e h =
    let (p, k, g) = then_made (with_sign ws) (λ (p : ℕ × ℤ). Some (Bounds p.0 p.1)) n h in
    let q = signed_back ws p k in
    subst (IsNodeLine (key ∷ ws)) (same_some (Bounds p.0 p.1) n g) (alone (keyed key (codes "bound") ws (decimal p.0 ∷ signed_decimal p.1 ∷ []) e q.0), all_of (is_number p.0) (fits p.1) q.1 q.2)

pub of_name : (key : List ℕ) (ws : List (List ℕ)) (n : NodeOf) → bytes_eq key (codes "unit") ≡ true → then_ (name_in ws) (λ name. Some (IsUnit name)) ≡ Some n → IsNodeLine (key ∷ ws) n
of_name key ws n e h =
    let (name, k, g) = then_made (name_in ws) (λ (name : List ℕ). Some (IsUnit name)) n h in
    let p = name_back ws name k in
    subst (IsNodeLine (key ∷ ws)) (same_some (IsUnit name) n g) (alone (keyed key (codes "unit") ws (name ∷ []) e p.0), p.1)

pub of_lemma : (key : List ℕ) (ws : List (List ℕ)) (n : NodeOf) → bytes_eq key (codes "lemma") ≡ true → then_ (literals_in ws) (λ ls. Some (Learns ls)) ≡ Some n → IsNodeLine (key ∷ ws) n
of_lemma key ws n e h =
    let (ls, k, g) = then_made (literals_in ws) (λ (ls : List Named). Some (Learns ls)) n h in
    let p = literals_back ws ls k in
    subst (IsNodeLine (key ∷ ws)) (same_some (Learns ls) n g) (alone (keyed key (codes "lemma") ws (map literal_word ls) e p.0), p.1)
