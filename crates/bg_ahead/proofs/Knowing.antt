-- Literals by the keys of rows, row by row.
use Rattle.std.proofs.Common.{◌≡◌, ◌<◌, ◌+◌, ℕ, suc, Bool, true, false, List, [], ◌∷◌, ◌++◌, length, map, take, get_or, refl, sym, ap, ◌∙◌, arith, cond, subst}
use Rattle.std.proofs.lemmas.List.{take_more, length-take-le, map-append}
use Rattle.std.specs.Prelude.{Option, Some, None, is_some}
use Rattle.std.specs.Ordering.{is_eq}
use Rattle.bg_rows.specs.Rows.{RowOf, row_of}
use Rattle.bg_rows.specs.Keys.{KeyOf, key_cmp, key_of}
use Rattle.bg_rows.proofs.Keyed.{key_is, key_same, equal_keys}
use Rattle.bg_formula.specs.declared.atom.Literal.{Literal}
use Rattle.bg_formula.specs.declared.atom.Linear.{Linear}
use Rattle.bg_formula.specs.Atoms.{AtomOf, IsTruth, IsRow, view_linear, row_eq}
use Rattle.bg_atoms.specs.Literals.{literal_of}
use Rattle.bg_atoms.specs.Tables.{literal_by, or_else, only_at, key_eq}
use Rattle.bg_atoms.proofs.Keys.{key_eq_is}
use Rattle.bg_ahead.proofs.Denials.{same_rows, row_itself}

-- ---- keys tell rows

-- two tests that hold alike are equal
alike : (a b : Bool) → (a ≡ true → b ≡ true) → (b ≡ true → a ≡ true) → a ≡ b
alike true b f g = sym (f refl)
alike false true f g = g refl
alike false false f g = refl

key_tells : (r a : RowOf) → is_eq (key_cmp (key_of r) (key_of a)) ≡ row_eq a r
key_tells r a = alike _ _ there back
  where
    there : is_eq (key_cmp (key_of r) (key_of a)) ≡ true → row_eq a r ≡ true
    there h = subst (λ s. row_eq s r ≡ true) (equal_keys r a h) (row_itself r)

    back : row_eq a r ≡ true → is_eq (key_cmp (key_of r) (key_of a)) ≡ true
    back h = subst (λ s. is_eq (key_cmp (key_of r) (key_of s)) ≡ true) (sym (same_rows a r h)) (key_same (key_of r))

-- what is found by a row's key is the literal of the row
pub by_key : (r : RowOf) (n : ℕ) (rows : List AtomOf) → literal_by (key_of r) n rows ≡ literal_of r n rows
by_key r n [] = refl
by_key r n (IsTruth x ∷ rs) = by_key r (suc n) rs
by_key r n (IsRow a d ∷ rs) = rw (key_tells r a, key_tells r d, by_key r (suc n) rs) refl

-- ---- a map that is put in

or_none : (o : Option Literal) → o ≡ or_else o None
or_none None = refl
or_none (Some l) = refl

or_some : (o p : Option Literal) → is_some o ≡ true → o ≡ or_else o p
or_some None p h = absurd (let bad : ⊥ = cc in bad)
or_some (Some l) p h = refl

none_or : (o p : Option Literal) → is_some o ≡ false → p ≡ or_else o p
none_or None p h = refl
none_or (Some l) p h = absurd (let bad : ⊥ = cc in bad)

pub put_there : (k q : KeyOf) (l : Literal) (known : KeyOf → Option Literal) → is_some (known k) ≡ true → known q ≡ or_else (known q) (only_at k l q)
put_there k q l known h = by_test (is_eq (key_cmp q k)) refl
  where
    by_test : (b : Bool) → is_eq (key_cmp q k) ≡ b → known q ≡ or_else (known q) (cond b (Some l) None)
    by_test true e = or_some (known q) (Some l) (subst (λ z. is_some (known z) ≡ true) (sym (key_is q k e)) h)
    by_test false e = or_none (known q)

turned : (k q : KeyOf) → is_eq (key_cmp k q) ≡ true → is_eq (key_cmp q k) ≡ true
turned k q h = subst (λ z. is_eq (key_cmp z k) ≡ true) (key_is k q h) (key_same k)

pub put_new : (k q : KeyOf) (l : Literal) (known : KeyOf → Option Literal) (new : Option Literal) → is_some (known k) ≡ false → new ≡ cond (key_eq k q) (Some l) (known q) → new ≡ or_else (known q) (only_at k l q)
put_new k q l known new h is = is ∙ ap (λ b. cond b (Some l) (known q)) (key_eq_is k q) ∙ by_test (is_eq (key_cmp k q)) refl (is_eq (key_cmp q k)) refl
  where
    by_test : (b : Bool) → is_eq (key_cmp k q) ≡ b → (c : Bool) → is_eq (key_cmp q k) ≡ c → cond b (Some l) (known q) ≡ or_else (known q) (cond c (Some l) None)
    by_test true e true f = none_or (known q) (Some l) (subst (λ z. is_some (known z) ≡ false) (key_is k q e) h)
    by_test true e false f = absurd (let g = turned k q e in let bad : ⊥ = cc in bad)
    by_test false e true f = absurd (let g = turned q k f in let bad : ⊥ = cc in bad)
    by_test false e false f = or_none (known q)

-- ---- one more row

-- the literal of a row that is atom m, or of its denial, at one of their keys
abbrev ends : KeyOf → KeyOf → KeyOf → ℕ → Option Literal → Option Literal
ends k r d m o =
    or_else (or_else o (only_at r (record { atom = m; sign = true }) k)) (only_at d (record { atom = m; sign = false }) k)

or_cond : (b : Bool) (l : Literal) (o p : Option Literal) → or_else (cond b (Some l) o) p ≡ cond b (Some l) (or_else o p)
or_cond true l o p = refl
or_cond false l o p = refl

-- a row behind others: its literal and that of its denial are looked for last
by_last : (k : KeyOf) (n m : ℕ) (rows : List AtomOf) (r d : RowOf) → m ≡ n + length rows → literal_by k n (rows ++ IsRow r d ∷ []) ≡ ends k (key_of r) (key_of d) m (literal_by k n rows)
by_last k n m [] r d h =
    let same : m ≡ n = h ∙ omega arith in
    subst (λ x. literal_by k n (IsRow r d ∷ []) ≡ ends k (key_of r) (key_of d) x None) (sym same) (sym (or_cond (is_eq (key_cmp k (key_of r))) _ None _))
by_last k n m (IsTruth x ∷ rs) r d h = by_last k (suc n) m rs r d (h ∙ omega arith)
by_last k n m (IsRow a e ∷ rs) r d h = by_tests (is_eq (key_cmp k (key_of a))) (is_eq (key_cmp k (key_of e))) (by_last k (suc n) m rs r d (h ∙ omega arith))
  where
    by_tests : (b c : Bool) → literal_by k (suc n) (rs ++ IsRow r d ∷ []) ≡ ends k (key_of r) (key_of d) m (literal_by k (suc n) rs) → cond b (Some (record { atom = n; sign = true })) (cond c (Some (record { atom = n; sign = false })) (literal_by k (suc n) (rs ++ IsRow r d ∷ []))) ≡ ends k (key_of r) (key_of d) m (cond b (Some (record { atom = n; sign = true })) (cond c (Some (record { atom = n; sign = false })) (literal_by k (suc n) rs)))
    by_tests true c i = refl
    by_tests false true i = refl
    by_tests false false i = i

same_length : (xs : List Linear) → length (map view_linear xs) ≡ length xs
same_length [] = refl
same_length (x ∷ xs) = ap suc (same_length xs)

-- the rows' literals, where one more row's key and its denial's were put in
pub known_more : (k : KeyOf) (n atom i : ℕ) (rows : List Linear) (a : Linear) (r d : KeyOf) (old one two : Option Literal) → i < length rows → a ≡ get_or rows i a → atom ≡ n + i → r ≡ key_of (row_of a.row) → d ≡ key_of (row_of a.denial) → old ≡ literal_by k n (map view_linear (take i rows)) → one ≡ or_else old (only_at r (record { atom = atom; sign = true }) k) → two ≡ or_else one (only_at d (record { atom = atom; sign = false }) k) → two ≡ literal_by k n (map view_linear (take (i + 1) rows))
known_more k n atom i rows a r d old one two lt is place row denial known first second =
    let xs = take i rows in
    let long : length (map view_linear xs) ≡ i = same_length xs ∙ length-take-le i rows (omega arith) in
    let push : map view_linear (take (i + 1) rows) ≡ map view_linear xs ++ view_linear a ∷ [] = ap (map view_linear) (take_more rows i a lt ∙ ap (λ z. xs ++ z ∷ []) (sym is)) ∙ map-append view_linear xs (a ∷ []) in
    second
    ∙ ap (λ o. or_else o (only_at d (record { atom = atom; sign = false }) k)) first
    ∙ ap (ends k r d atom) known
    ∙ ap (λ q. ends k q d atom (literal_by k n (map view_linear xs))) row
    ∙ ap (λ q. ends k (key_of (row_of a.row)) q atom (literal_by k n (map view_linear xs))) denial
    ∙ sym (ap (literal_by k n) push ∙ by_last k n atom (map view_linear xs) (row_of a.row) (row_of a.denial) (place ∙ ap (λ j. n + j) (sym long)))
