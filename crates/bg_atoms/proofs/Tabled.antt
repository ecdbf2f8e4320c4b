-- Tables of rows: literals by keys, and by rows.
use Rattle.std.proofs.Common.{◌≡◌, ℕ, suc, ◌+◌, Bool, true, false, not, List, [], ◌∷◌, ◌++◌, length, map, ℤ, refl, sym, ap, ◌∙◌, arith, cond, subst, inl, inr}
use Rattle.std.specs.Prelude.{Option, Some, None, is_some, ◌==◌, ◌&&◌, ◌⊎◌}
use Rattle.std.specs.Ordering.{is_eq, int_eq}
use Rattle.std.proofs.lemmas.Int.{ints}
use Rattle.std.proofs.lemmas.Bool.Decides.{nat_tests}
use Rattle.bg_rows.specs.declared.entry.Entry.{Entry}
use Rattle.bg_rows.specs.Rows.{RowOf, row_of}
use Rattle.bg_rows.specs.Keys.{KeyOf, key_cmp, key_of}
use Rattle.bg_rows.proofs.Keyed.{key_is, key_same, equal_keys}
use Rattle.bg_formula.specs.declared.atom.Literal.{Literal}
use Rattle.bg_formula.specs.declared.atom.Linear.{Linear}
use Rattle.bg_formula.specs.Atoms.{AtomOf, IsTruth, IsRow, view_linear, entries_eq, row_eq, at}
use Rattle.bg_formed.proofs.Below.{and_left, and_right, and_both}
use Rattle.bg_atoms.specs.Literals.{literal_of, is_none_of, are_apart}
use Rattle.bg_atoms.specs.Tables.{literal_by, or_else, only_at, key_eq}
use Rattle.bg_atoms.specs.Worlds.{Begins}
use Rattle.bg_atoms.proofs.Equal.{same_rows}
use Rattle.bg_atoms.proofs.Keys.{key_eq_is}
use Rattle.bg_atoms.proofs.Adding.{pushed}

-- ---- keys tell rows

nat_same : (n : ℕ) → (n == n) ≡ true
nat_same n = grind (arith, nat_tests)

whole_same : (z : ℤ) → int_eq z z ≡ true
whole_same z = grind (arith, ints)

entries_same : (ts : List Entry) → entries_eq ts ts ≡ true
entries_same [] = refl
entries_same (t ∷ ts) =
    and_both (t.variable == t.variable) _ (nat_same t.variable) (and_both (int_eq t.by t.by) _ (whole_same t.by) (entries_same ts))

pub row_same : (r : RowOf) → row_eq r r ≡ true
row_same r = and_both (entries_eq r.entries r.entries) _ (entries_same r.entries) (whole_same r.bound)

-- two tests that hold alike are equal
alike : (a b : Bool) → (a ≡ true → b ≡ true) → (b ≡ true → a ≡ true) → a ≡ b
alike true b f g = sym (f refl)
alike false true f g = g refl
alike false false f g = refl

pub key_tells : (r a : RowOf) → is_eq (key_cmp (key_of r) (key_of a)) ≡ row_eq a r
key_tells r a = alike _ _ there back
  where
    there : is_eq (key_cmp (key_of r) (key_of a)) ≡ true → row_eq a r ≡ true
    there h = subst (λ s. row_eq s r ≡ true) (equal_keys r a h) (row_same r)

    back : row_eq a r ≡ true → is_eq (key_cmp (key_of r) (key_of a)) ≡ true
    back h = subst (λ s. is_eq (key_cmp (key_of r) (key_of s)) ≡ true) (sym (same_rows a r h)) (key_same (key_of r))

-- what is found by a row's key is the literal of the row
pub by_key : (r : RowOf) (n : ℕ) (rows : List AtomOf) → literal_by (key_of r) n rows ≡ literal_of r n rows
by_key r n [] = refl
by_key r n (IsTruth x ∷ rs) = by_key r (suc n) rs
by_key r n (IsRow a d ∷ rs) = rw (key_tells r a, key_tells r d, by_key r (suc n) rs) refl

-- ---- one more row

or_cond : (b : Bool) (l : Literal) (o p : Option Literal) → or_else (cond b (Some l) o) p ≡ cond b (Some l) (or_else o p)
or_cond true l o p = refl
or_cond false l o p = refl

-- a row behind others: its literal and that of its denial are looked for last
pub by_last : (k : KeyOf) (n : ℕ) (rows : List AtomOf) (r d : RowOf) → literal_by k n (rows ++ IsRow r d ∷ []) ≡ or_else (or_else (literal_by k n rows) (only_at (key_of r) (record { atom = n + length rows; sign = true }) k)) (only_at (key_of d) (record { atom = n + length rows; sign = false }) k)
by_last k n [] r d = at_first (n + 0) (omega arith)
  where
    at_first : (m : ℕ) → m ≡ n → literal_by k n (IsRow r d ∷ []) ≡ or_else (only_at (key_of r) (record { atom = m; sign = true }) k) (only_at (key_of d) (record { atom = m; sign = false }) k)
    at_first m h = subst (λ x. literal_by k n (IsRow r d ∷ []) ≡ or_else (only_at (key_of r) (record { atom = x; sign = true }) k) (only_at (key_of d) (record { atom = x; sign = false }) k)) (sym h) (sym (or_cond (is_eq (key_cmp k (key_of r))) _ None _))
by_last k n (IsTruth x ∷ rs) r d = by_last k (suc n) rs r d ∙ further (suc n + length rs) (n + suc (length rs)) (omega arith)
  where
    further : (i j : ℕ) → i ≡ j → or_else (or_else (literal_by k (suc n) rs) (only_at (key_of r) (record { atom = i; sign = true }) k)) (only_at (key_of d) (record { atom = i; sign = false }) k) ≡ or_else (or_else (literal_by k (suc n) rs) (only_at (key_of r) (record { atom = j; sign = true }) k)) (only_at (key_of d) (record { atom = j; sign = false }) k)
    further i j h = ap (λ x. or_else (or_else (literal_by k (suc n) rs) (only_at (key_of r) (record { atom = x; sign = true }) k)) (only_at (key_of d) (record { atom = x; sign = false }) k)) h
by_last k n (IsRow a e ∷ rs) r d = by_tests (is_eq (key_cmp k (key_of a))) (is_eq (key_cmp k (key_of e))) (by_last k (suc n) rs r d ∙ further (suc n + length rs) (n + suc (length rs)) (omega arith))
  where
    ends : ℕ → Option Literal → Option Literal
    ends i o = or_else (or_else o (only_at (key_of r) (record { atom = i; sign = true }) k)) (only_at (key_of d) (record { atom = i; sign = false }) k)

    further : (i j : ℕ) → i ≡ j → ends i (literal_by k (suc n) rs) ≡ ends j (literal_by k (suc n) rs)
    further i j h = ap (λ x. ends x (literal_by k (suc n) rs)) h

    by_tests : (b c : Bool) → literal_by k (suc n) (rs ++ IsRow r d ∷ []) ≡ ends (n + suc (length rs)) (literal_by k (suc n) rs) → cond b (Some (record { atom = n; sign = true })) (cond c (Some (record { atom = n; sign = false })) (literal_by k (suc n) (rs ++ IsRow r d ∷ []))) ≡ ends (n + suc (length rs)) (cond b (Some (record { atom = n; sign = true })) (cond c (Some (record { atom = n; sign = false })) (literal_by k (suc n) rs)))
    by_tests true c h = refl
    by_tests false true h = refl
    by_tests false false h = h

pub by_push : (k : KeyOf) (n : ℕ) (xs ys : List Linear) (a : Linear) → ys ≡ xs ++ a ∷ [] → literal_by k n (map view_linear ys) ≡ or_else (or_else (literal_by k n (map view_linear xs)) (only_at (key_of (row_of a.row)) (record { atom = n + length xs; sign = true }) k)) (only_at (key_of (row_of a.denial)) (record { atom = n + length xs; sign = false }) k)
by_push k n xs ys a h = ap (λ l. literal_by k n l) (pushed xs ys a h) ∙ by_last k n (map view_linear xs) (row_of a.row) (row_of a.denial) ∙ counted (length (map view_linear xs)) (same_length xs)
  where
    same_length : (l : List Linear) → length (map view_linear l) ≡ length l
    same_length [] = refl
    same_length (x ∷ l) = ap suc (same_length l)

    counted : (m : ℕ) → m ≡ length xs → or_else (or_else (literal_by k n (map view_linear xs)) (only_at (key_of (row_of a.row)) (record { atom = n + m; sign = true }) k)) (only_at (key_of (row_of a.denial)) (record { atom = n + m; sign = false }) k) ≡ or_else (or_else (literal_by k n (map view_linear xs)) (only_at (key_of (row_of a.row)) (record { atom = n + length xs; sign = true }) k)) (only_at (key_of (row_of a.denial)) (record { atom = n + length xs; sign = false }) k)
    counted m e = ap (λ x. or_else (or_else (literal_by k n (map view_linear xs)) (only_at (key_of (row_of a.row)) (record { atom = n + x; sign = true }) k)) (only_at (key_of (row_of a.denial)) (record { atom = n + x; sign = false }) k)) e

-- ---- rows that are apart

no_row : (r a : RowOf) → row_eq a r ≡ false → not (row_eq a r) ≡ true
no_row r a h = ap not h

none_last : (a : RowOf) (rows : List AtomOf) (r d : RowOf) → is_none_of a rows ≡ true → row_eq a r ≡ false → is_none_of a (rows ++ IsRow r d ∷ []) ≡ true
none_last a [] r d h k = and_both (not (row_eq a r)) true (no_row r a k) refl
none_last a (IsTruth x ∷ rs) r d h k = none_last a rs r d h k
none_last a (IsRow b e ∷ rs) r d h k =
    and_both (not (row_eq a b)) _ (and_left (not (row_eq a b)) (is_none_of a rs) h) (none_last a rs r d (and_right (not (row_eq a b)) (is_none_of a rs) h) k)

-- a row that is not found is neither the first one nor its denial
pub not_first : (r a d : RowOf) (n : ℕ) (rs : List AtomOf) → literal_of r n (IsRow a d ∷ rs) ≡ None → (row_eq a r ≡ false) × ((row_eq d r ≡ false) × (literal_of r (suc n) rs ≡ None))
not_first r a d n rs h = by_tests (row_eq a r) (row_eq d r) refl refl h
  where
    by_tests : (b c : Bool) → row_eq a r ≡ b → row_eq d r ≡ c → cond b (Some (record { atom = n; sign = true })) (cond c (Some (record { atom = n; sign = false })) (literal_of r (suc n) rs)) ≡ None → (row_eq a r ≡ false) × ((row_eq d r ≡ false) × (literal_of r (suc n) rs ≡ None))
    by_tests true c f g k = absurd (let bad : ⊥ = cc in bad)
    by_tests false true f g k = absurd (let bad : ⊥ = cc in bad)
    by_tests false false f g k = (f, (g, k))

pub apart_last : (n : ℕ) (rows : List AtomOf) (r d : RowOf) → are_apart rows ≡ true → literal_of r n rows ≡ None → are_apart (rows ++ IsRow r d ∷ []) ≡ true
apart_last n [] r d h k = refl
apart_last n (IsTruth x ∷ rs) r d h k = apart_last (suc n) rs r d h k
apart_last n (IsRow a e ∷ rs) r d h k =
    let new = not_first r a e n rs k in
    let rest = and_right (is_none_of a rs) (is_none_of e rs && are_apart rs) h in
    and_both (is_none_of a (rs ++ IsRow r d ∷ [])) _ (none_last a rs r d (and_left (is_none_of a rs) (is_none_of e rs && are_apart rs) h) new.0)
    (and_both (is_none_of e (rs ++ IsRow r d ∷ [])) _ (none_last e rs r d (and_left (is_none_of e rs) (are_apart rs) rest) new.1.0) (apart_last (suc n) rs r d (and_right (is_none_of e rs) (are_apart rs) rest) new.1.1))

-- ---- literals stay, and say their rows

pub stays : (r : RowOf) (n : ℕ) (xs ys : List AtomOf) (l : Literal) → Begins xs ys → literal_of r n xs ≡ Some l → literal_of r n ys ≡ Some l
stays r n [] ys l b h = absurd (let bad : ⊥ = cc in bad)
stays r n (x ∷ xs) [] l b h = absurd b
stays r n (IsTruth x ∷ xs) (y ∷ ys) l b h = subst (λ z. literal_of r n (z ∷ ys) ≡ Some l) b.0 (stays r (suc n) xs ys l b.1 h)
stays r n (IsRow a d ∷ xs) (y ∷ ys) l b h = subst (λ z. literal_of r n (z ∷ ys) ≡ Some l) b.0 (by_tests (λ k. stays r (suc n) xs ys l b.1 k) (row_eq a r) (row_eq d r) h)
  where
    by_tests : (literal_of r (suc n) xs ≡ Some l → literal_of r (suc n) ys ≡ Some l) → (t u : Bool) → cond t (Some (record { atom = n; sign = true })) (cond u (Some (record { atom = n; sign = false })) (literal_of r (suc n) xs)) ≡ Some l → cond t (Some (record { atom = n; sign = true })) (cond u (Some (record { atom = n; sign = false })) (literal_of r (suc n) ys)) ≡ Some l
    by_tests f true u k = k
    by_tests f false true k = k
    by_tests f false false k = f k

-- the row itself is at the literal's atom, or a row that it denies
pub record Stands (r : RowOf) (n : ℕ) (rows : List AtomOf) (l : Literal) : Type 0 where
  pub place : ℕ
  pub atom : l.atom ≡ n + place
  pub row : RowOf
  pub denial : RowOf
  pub there : at rows place ≡ Some (IsRow row denial)
  pub is : ((l.sign ≡ true) × (row ≡ r)) ⊎ ((l.sign ≡ false) × (denial ≡ r))

pub stands : (r : RowOf) (n : ℕ) (rows : List AtomOf) (l : Literal) → literal_of r n rows ≡ Some l → Stands r n rows l
stands r n [] l h = absurd (let bad : ⊥ = cc in bad)
stands r n (IsTruth x ∷ rs) l h =
    let s = stands r (suc n) rs l h in
    record { place = suc s.place; atom = s.atom ∙ omega arith; row = s.row; denial = s.denial; there = s.there; is = s.is }
stands r n (IsRow a d ∷ rs) l h = by_tests (λ k. stands r (suc n) rs l k) (row_eq a r) (row_eq d r) refl refl h
  where
    by_tests : (literal_of r (suc n) rs ≡ Some l → Stands r (suc n) rs l) → (t u : Bool) → row_eq a r ≡ t → row_eq d r ≡ u → cond t (Some (record { atom = n; sign = true })) (cond u (Some (record { atom = n; sign = false })) (literal_of r (suc n) rs)) ≡ Some l → Stands r n (IsRow a d ∷ rs) l
    by_tests on true u f g k =
        let e : record { atom = n; sign = true } ≡ l = cc in
        record { place = 0; atom = sym (ap (λ x. x.atom) e) ∙ omega arith; row = a; denial = d; there = refl; is = inl (sym (ap (λ x. x.sign) e), same_rows a r f) }
    by_tests on false true f g k =
        let e : record { atom = n; sign = false } ≡ l = cc in
        record { place = 0; atom = sym (ap (λ x. x.atom) e) ∙ omega arith; row = a; denial = d; there = refl; is = inr (sym (ap (λ x. x.sign) e), same_rows d r g) }
    by_tests on false false f g k =
        let s = on k in
        record { place = suc s.place; atom = s.atom ∙ omega arith; row = s.row; denial = s.denial; there = s.there; is = s.is }

-- ---- a map that is put in

or_none : (o : Option Literal) → o ≡ or_else o None
or_none None = refl
or_none (Some l) = refl

or_some : (o p : Option Literal) → is_some o ≡ true → o ≡ or_else o p
or_some None p h = absurd (let bad : ⊥ = cc in bad)
or_some (Some l) p h = refl

none_or : (o p : Option Literal) → is_some o ≡ false → p ≡ or_else o p
none_or None p h = refl
none_or (Some l) p h = absurd (let bad : ⊥ = cc in bad)

pub put_there : (k q : KeyOf) (l : Literal) (known : KeyOf → Option Literal) → is_some (known k) ≡ true → known q ≡ or_else (known q) (only_at k l q)
put_there k q l known h = by_test (is_eq (key_cmp q k)) refl
  where
    by_test : (b : Bool) → is_eq (key_cmp q k) ≡ b → known q ≡ or_else (known q) (cond b (Some l) None)
    by_test true e = or_some (known q) (Some l) (subst (λ z. is_some (known z) ≡ true) (sym (key_is q k e)) h)
    by_test false e = or_none (known q)

turned : (k q : KeyOf) → is_eq (key_cmp k q) ≡ true → is_eq (key_cmp q k) ≡ true
turned k q h = subst (λ z. is_eq (key_cmp z k) ≡ true) (key_is k q h) (key_same k)

pub put_new : (k q : KeyOf) (l : Literal) (known : KeyOf → Option Literal) (new : Option Literal) → is_some (known k) ≡ false → new ≡ cond (key_eq k q) (Some l) (known q) → new ≡ or_else (known q) (only_at k l q)
put_new k q l known new h is = is ∙ ap (λ b. cond b (Some l) (known q)) (key_eq_is k q) ∙ by_test (is_eq (key_cmp k q)) refl (is_eq (key_cmp q k)) refl
  where
    by_test : (b : Bool) → is_eq (key_cmp k q) ≡ b → (c : Bool) → is_eq (key_cmp q k) ≡ c → cond b (Some l) (known q) ≡ or_else (known q) (cond c (Some l) None)
    by_test true e true f = none_or (known q) (Some l) (subst (λ z. is_some (known z) ≡ false) (key_is k q e) h)
    by_test true e false f = absurd (let g = turned k q e in let bad : ⊥ = cc in bad)
    by_test false e true f = absurd (let g = turned q k f in let bad : ⊥ = cc in bad)
    by_test false e false f = or_none (known q)

pub put_both : (k : KeyOf) (n atom : ℕ) (xs ys : List Linear) (a : Linear) (r d : KeyOf) (old one two : Option Literal) → ys ≡ xs ++ a ∷ [] → atom ≡ n + length xs → r ≡ key_of (row_of a.row) → d ≡ key_of (row_of a.denial) → old ≡ literal_by k n (map view_linear xs) → one ≡ or_else old (only_at r (record { atom = atom; sign = true }) k) → two ≡ or_else one (only_at d (record { atom = atom; sign = false }) k) → two ≡ literal_by k n (map view_linear ys)
put_both k n atom xs ys a r d old one two push place row denial is first second =
    second
    ∙ ap (λ o. or_else o (only_at d (record { atom = atom; sign = false }) k)) first
    ∙ ap (λ o. or_else (or_else o (only_at r (record { atom = atom; sign = true }) k)) (only_at d (record { atom = atom; sign = false }) k)) is
    ∙ ap (λ q. or_else (or_else (literal_by k n (map view_linear xs)) (only_at q (record { atom = atom; sign = true }) k)) (only_at d (record { atom = atom; sign = false }) k)) row
    ∙ ap (λ q. or_else (or_else (literal_by k n (map view_linear xs)) (only_at (key_of (row_of a.row)) (record { atom = atom; sign = true }) k)) (only_at q (record { atom = atom; sign = false }) k)) denial
    ∙ ap (λ m. or_else (or_else (literal_by k n (map view_linear xs)) (only_at (key_of (row_of a.row)) (record { atom = m; sign = true }) k)) (only_at (key_of (row_of a.denial)) (record { atom = m; sign = false }) k)) place
    ∙ sym (by_push k n xs ys a push)

-- the new row's literal is its own
pub literal_push : (n atom : ℕ) (xs ys : List Linear) (a : Linear) → ys ≡ xs ++ a ∷ [] → atom ≡ n + length xs → literal_by (key_of (row_of a.row)) n (map view_linear xs) ≡ None → literal_of (row_of a.row) n (map view_linear ys) ≡ Some (record { atom = atom; sign = true })
literal_push n atom xs ys a push place new =
    sym (by_key (row_of a.row) n (map view_linear ys))
    ∙ by_push (key_of (row_of a.row)) n xs ys a push
    ∙ rw (new, key_same (key_of (row_of a.row)), place) refl
