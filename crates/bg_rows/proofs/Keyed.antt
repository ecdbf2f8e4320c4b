-- Keys that compare equal, and the rows that they are of.
use Rattle.std.proofs.Common.{◌≡◌, ℕ, true, List, [], ◌∷◌, ℤ, refl, ap, ◌∙◌}
use Rattle.std.specs.declared.cmp.Ordering.{Ordering}
use Rattle.std.specs.declared.cmp.Ordering.TheVariants.{Less, Equal, Greater}
use Rattle.std.specs.Ordering.{ordering_reverse, nat_cmp, int_cmp, ordering_then, is_eq}
use Rattle.std.specs.Cmp.Lexicographic.{slice_cmp}
use Rattle.std.proofs.lemmas.Cmp.{nat_cmp_total, int_cmp_total}
use Rattle.std.proofs.lemmas.Map.Lookups.{exact_unsigned, exact_signed, exact_pairs}
use Rattle.bg_rows.specs.declared.entry.Entry.{Entry}
use Rattle.bg_rows.specs.Rows.{RowOf}
use Rattle.bg_rows.specs.Keys.{KeyOf, pair_cmp, key_cmp, pairs_of, key_of}

-- ---- keys that compare equal are equal

first_equal : (o p : Ordering) → is_eq (ordering_then o p) ≡ true → (o ≡ Equal) × (is_eq p ≡ true)
first_equal Less p h = absurd (cc)
first_equal Equal p h = (refl, h)
first_equal Greater p h = absurd (cc)

equal_is : (o : Ordering) → is_eq o ≡ true → o ≡ Equal
equal_is Less h = absurd (cc)
equal_is Equal h = refl
equal_is Greater h = absurd (cc)

pair_is : (p q : ℕ × ℤ) → pair_cmp p q ≡ Equal → p ≡ q
pair_is p q h = exact_pairs nat_cmp int_cmp exact_unsigned exact_signed p q h

list_is : (xs ys : List (ℕ × ℤ)) → is_eq (slice_cmp pair_cmp xs ys) ≡ true → xs ≡ ys
list_is [] [] h = refl
list_is [] (y ∷ ys) h = absurd (cc)
list_is (x ∷ xs) [] h = absurd (cc)
list_is (x ∷ xs) (y ∷ ys) h =
    let e = first_equal (pair_cmp x y) (slice_cmp pair_cmp xs ys) h in
    let a = pair_is x y e.0 in
    let b = list_is xs ys e.1 in
    cc

pub key_is : (x y : KeyOf) → is_eq (key_cmp x y) ≡ true → x ≡ y
key_is x y h =
    let e = first_equal (slice_cmp pair_cmp x.0 y.0) (int_cmp x.1 y.1) h in
    let a = list_is x.0 y.0 (ap is_eq e.0) in
    let b = exact_signed x.1 y.1 (equal_is (int_cmp x.1 y.1) e.1) in
    ap (λ z. (z, x.1)) a ∙ ap (λ z. (y.0, z)) b

-- ---- and the other way round

reversed : (o : Ordering) → o ≡ ordering_reverse o → o ≡ Equal
reversed Less h = absurd (cc)
reversed Equal h = refl
reversed Greater h = absurd (cc)

nat_same : (n : ℕ) → nat_cmp n n ≡ Equal
nat_same n = reversed (nat_cmp n n) (nat_cmp_total.antisymm n n)

int_same : (z : ℤ) → int_cmp z z ≡ Equal
int_same z = reversed (int_cmp z z) (int_cmp_total.antisymm z z)

pairs_same : (xs : List (ℕ × ℤ)) → slice_cmp pair_cmp xs xs ≡ Equal
pairs_same [] = refl
pairs_same (x ∷ xs) = rw (nat_same x.0, int_same x.1) (pairs_same xs)

pub key_same : (x : KeyOf) → is_eq (key_cmp x x) ≡ true
key_same x = rw (pairs_same x.0) (rw (int_same x.1) refl)

-- ---- rows by their keys

entries_from_pairs : (ts us : List Entry) → pairs_of ts ≡ pairs_of us → ts ≡ us
entries_from_pairs [] [] h = refl
entries_from_pairs [] (u ∷ us) h = absurd (cc)
entries_from_pairs (t ∷ ts) [] h = absurd (cc)
entries_from_pairs (t ∷ ts) (u ∷ us) h =
    let p : ℕ × ℤ = (t.variable, t.by) in
    let q : ℕ × ℤ = (u.variable, u.by) in
    let a : p ≡ q = cc in
    let x : t.variable ≡ u.variable = ap (λ (z : ℕ × ℤ). z.0) a in
    let y : t.by ≡ u.by = ap (λ (z : ℕ × ℤ). z.1) a in
    let e : t ≡ u = ap (λ (z : ℕ). record { variable = z; by = t.by }) x ∙ ap (λ (z : ℤ). record { variable = u.variable; by = z }) y in
    let b = entries_from_pairs ts us (cc) in
    ap (λ z. z ∷ ts) e ∙ ap (λ z. u ∷ z) b

pub row_from_key : (r s : RowOf) → key_of r ≡ key_of s → r ≡ s
row_from_key r s h =
    let a = entries_from_pairs r.entries s.entries (ap (λ k. k.0) h) in
    let b : r.bound ≡ s.bound = ap (λ k. k.1) h in
    ap (λ (z : List Entry). record { entries = z; bound = r.bound }) a ∙ ap (λ (z : ℤ). record { entries = s.entries; bound = z }) b

pub equal_keys : (r s : RowOf) → is_eq (key_cmp (key_of r) (key_of s)) ≡ true → r ≡ s
equal_keys r s h = row_from_key r s (key_is (key_of r) (key_of s) h)
