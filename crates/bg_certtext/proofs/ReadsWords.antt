-- The words behind a line's first one are those of the numbers and names that are read from them.
use Rattle.std.proofs.Common.{◌≡◌, ℕ, Bool, true, false, not, ◌==◌, if◌then◌else◌, List, [], ◌∷◌, ◌++◌, Some, None, ℤ, bytes_eq, refl, ap, subst, ◌∙◌}
use Rattle.std.proofs.lemmas.Bool.{eqb-true}
use Rattle.std.proofs.lemmas.Slice.Eq.{bytes_eq-Decides}
use Rattle.std.specs.Fmt.{decimal, signed_decimal}
use Rattle.bg_base.specs.Exact.{fits}
use Rattle.bg_cert.specs.declared.cert.Named.{Named}
use Rattle.bg_cert.specs.declared.cert.Named.TheVariants.{OfAtom, OfRow}
use Rattle.bg_certtext.specs.Spellable.{is_name, is_number, is_literal}
use Rattle.bg_certtext.specs.Texts.{literal_word, sign_text}
use Rattle.bg_certtext.specs.Words.{natural, integer}
use Rattle.bg_certtext.specs.Machine.{then_, when, one, count, two, with_sign, name_in, count_in, sign_in, signed_in, literal_in}
use Rattle.bg_certtext.proofs.ReadsOptions.{then_made, when_made, same_some}
use Rattle.bg_certtext.proofs.ReadsNumbers.{natural_back, natural_read, integer_back}

pub same_word : (a b : List ℕ) → bytes_eq a b ≡ true → a ≡ b
same_word a b = (bytes_eq-Decides a b).0

-- ---- numbers and names

abbrev pub IsOne : List (List ℕ) → ℕ → Type 0
IsOne ws n = (ws ≡ decimal n ∷ []) × (is_number n ≡ true)

pub one_back : (ws : List (List ℕ)) (n : ℕ) → one ws ≡ Some n → IsOne ws n
one_back [] n h = absurd (cc)
one_back (a ∷ []) n h = let k = natural_back a n h in (ap (λ (w : List ℕ). w ∷ []) k.0, k.1)
one_back (a ∷ b ∷ ws) n h = absurd (cc)

abbrev pub IsCount : List (List ℕ) → ℕ → Type 0
IsCount ws n = (ws ≡ decimal n ∷ []) × (is_number n ≡ true) × (not (n == 0) ≡ true)

pub count_back : (ws : List (List ℕ)) (n : ℕ) → count ws ≡ Some n → IsCount ws n
count_back ws n h =
    let (m, e, k) = then_made (one ws) (λ (n : ℕ). when (not (n == 0)) n) n h in
    let p = when_made (not (m == 0)) m n k in
    let q = one_back ws m e in
    subst (IsCount ws) p.1 (q.0, q.1, p.0)

pub count_read : (n : ℕ) → is_number n ≡ true → not (n == 0) ≡ true → count (decimal n ∷ []) ≡ Some n
count_read n h k = rw (natural_read n h, k) refl

abbrev pub IsTwo : List (List ℕ) → ℕ × ℕ → Type 0
IsTwo ws p = (ws ≡ decimal p.0 ∷ decimal p.1 ∷ []) × (is_number p.0 ≡ true) × (is_number p.1 ≡ true)

pub two_back : (ws : List (List ℕ)) (p : ℕ × ℕ) → two ws ≡ Some p → IsTwo ws p
two_back [] p h = absurd (cc)
two_back (a ∷ []) p h = absurd (cc)
two_back (a ∷ b ∷ []) p h =
    let (m, e, k) = then_made (natural a) (λ (m : ℕ). then_ (natural b) (λ n. Some (m, n))) p h in
    let (n, f, l) = then_made (natural b) (λ (n : ℕ). Some (m, n)) p k in
    let q = natural_back a m e in
    let r = natural_back b n f in
    subst (IsTwo (a ∷ b ∷ [])) (same_some (m, n) p l) (let spelt : a ∷ b ∷ [] ≡ decimal m ∷ decimal n ∷ [] = cc (q.0, r.0) in spelt, q.1, r.1)
two_back (a ∷ b ∷ c ∷ ws) p h = absurd (cc)

abbrev pub IsSigned : List (List ℕ) → ℕ × ℤ → Type 0
IsSigned ws p = (ws ≡ decimal p.0 ∷ signed_decimal p.1 ∷ []) × (is_number p.0 ≡ true) × (fits p.1 ≡ true)

pub signed_back : (ws : List (List ℕ)) (p : ℕ × ℤ) → with_sign ws ≡ Some p → IsSigned ws p
signed_back [] p h = absurd (cc)
signed_back (a ∷ []) p h = absurd (cc)
signed_back (a ∷ b ∷ []) p h =
    let (n, e, k) = then_made (natural a) (λ (n : ℕ). then_ (integer b) (λ z. Some (n, z))) p h in
    let (z, f, l) = then_made (integer b) (λ (z : ℤ). Some (n, z)) p k in
    let q = natural_back a n e in
    let r = integer_back b z f in
    subst (IsSigned (a ∷ b ∷ [])) (same_some (n, z) p l) (let spelt : a ∷ b ∷ [] ≡ decimal n ∷ signed_decimal z ∷ [] = cc (q.0, r.0) in spelt, q.1, r.1)
signed_back (a ∷ b ∷ c ∷ ws) p h = absurd (cc)

abbrev pub IsNamed : List (List ℕ) → List ℕ → Type 0
IsNamed ws name = (ws ≡ name ∷ []) × (is_name name ≡ true)

pub name_back : (ws : List (List ℕ)) (name : List ℕ) → name_in ws ≡ Some name → IsNamed ws name
name_back [] name h = absurd (cc)
name_back (w ∷ []) name h = let p = when_made (is_name w) w name h in subst (IsNamed (w ∷ [])) p.1 (refl, p.0)
name_back (w ∷ v ∷ ws) name h = absurd (cc)

abbrev pub IsCountLine : List ℕ → List (List ℕ) → ℕ → Type 0
IsCountLine key ws n = (ws ≡ key ∷ decimal n ∷ []) × (is_number n ≡ true) × (not (n == 0) ≡ true)

pub count_in_back : (key : List ℕ) (ws : List (List ℕ)) (n : ℕ) → count_in key ws ≡ Some n → IsCountLine key ws n
count_in_back key [] n h = absurd (cc)
count_in_back key (w ∷ ws) n h = count_by key w ws n (bytes_eq w key) refl h
  where
    count_by : (key w : List ℕ) (ws : List (List ℕ)) (n : ℕ) (t : Bool) → bytes_eq w key ≡ t → (if t then count ws else None) ≡ Some n → IsCountLine key (w ∷ ws) n
    count_by key w ws n false e h = absurd (cc)
    count_by key w ws n true e h =
        let k = count_back ws n h in
        let same : w ≡ key = same_word w key e in
        (let spelt : w ∷ ws ≡ key ∷ decimal n ∷ [] = cc (k.0, same) in spelt, k.1, k.2)

-- ---- literals

abbrev pub IsLiteral : List ℕ → Named → Type 0
IsLiteral w l = (w ≡ literal_word l) × (is_literal l ≡ true)

hash_spelt : (s : Bool) (b r : ℕ) (bs : List ℕ) → b ≡ 35 → bs ≡ decimal r → sign_text s ++ b ∷ bs ≡ literal_word (OfRow r s)
hash_spelt true b r bs e h = cc
hash_spelt false b r bs e h = cc

signed_by : (s : Bool) (b : ℕ) (bs : List ℕ) (l : Named) (t : Bool) → (b == 35) ≡ t → (if t then then_ (natural bs) (λ r. Some (OfRow r s)) else then_ (natural (b ∷ bs)) (λ a. Some (OfAtom a s))) ≡ Some l → (sign_text s ++ b ∷ bs ≡ literal_word l) × (is_literal l ≡ true)
signed_by s b bs l true e h =
    let (r, k, g) = then_made (natural bs) (λ (r : ℕ). Some (OfRow r s)) l h in
    let p = natural_back bs r k in
    let hash : b ≡ 35 = eqb-true b 35 e in
    let P : Named → Type 0 = λ l. (sign_text s ++ b ∷ bs ≡ literal_word l) × (is_literal l ≡ true) in
    subst P (same_some (OfRow r s) l g) (hash_spelt s b r bs hash p.0, p.1)
signed_by s b bs l false e h =
    let (a, k, g) = then_made (natural (b ∷ bs)) (λ (a : ℕ). Some (OfAtom a s)) l h in
    let p = natural_back (b ∷ bs) a k in
    let P : Named → Type 0 = λ l. (sign_text s ++ b ∷ bs ≡ literal_word l) × (is_literal l ≡ true) in
    subst P (same_some (OfAtom a s) l g) (ap (λ (ds : List ℕ). sign_text s ++ ds) p.0, p.1)

signed_part : (s : Bool) (bs : List ℕ) (l : Named) → signed_in s bs ≡ Some l → (sign_text s ++ bs ≡ literal_word l) × (is_literal l ≡ true)
signed_part s [] l h = absurd (cc)
signed_part s (b ∷ bs) l h = signed_by s b bs l (b == 35) refl h

sign_back : (b : ℕ) (s : Bool) → sign_in b ≡ Some s → b ∷ [] ≡ sign_text s
sign_back b s h = sign_by b s (b == 43) (b == 45) refl refl h
  where
    sign_by : (b : ℕ) (s t u : Bool) → (b == 43) ≡ t → (b == 45) ≡ u → (if t then Some true else (if u then Some false else None)) ≡ Some s → b ∷ [] ≡ sign_text s
    sign_by b s true u e f h = ap (λ (c : ℕ). c ∷ []) (eqb-true b 43 e) ∙ ap sign_text (same_some true s h)
    sign_by b s false true e f h = ap (λ (c : ℕ). c ∷ []) (eqb-true b 45 f) ∙ ap sign_text (same_some false s h)
    sign_by b s false false e f h = absurd (cc)

pub literal_back : (w : List ℕ) (l : Named) → literal_in w ≡ Some l → IsLiteral w l
literal_back [] l h = absurd (cc)
literal_back (b ∷ bs) l h =
    let (s, e, k) = then_made (sign_in b) (λ (s : Bool). signed_in s bs) l h in
    let p = signed_part s bs l k in
    (ap (λ (cs : List ℕ). cs ++ bs) (sign_back b s e) ∙ p.0, p.1)
