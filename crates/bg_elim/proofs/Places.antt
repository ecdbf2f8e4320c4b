-- Rows found by their keys.
use Rattle.std.proofs.Common.{◌≡◌, ℕ, zero, suc, ◌+◌, ◌<◌, Bool, true, false, not, ◌&&◌, List, [], ◌∷◌, ◌++◌, length, map, ℤ, refl, sym, ap, ◌∙◌, arith, cond, subst, get_or, ◌≤◌}
use Rattle.std.specs.Prelude.{Option, Some, None, ◌==◌}
use Rattle.std.specs.Ordering.{int_eq, is_eq}
use Rattle.std.proofs.lemmas.Bool.{and_parts, and_from, eqb-true}
use Rattle.std.proofs.lemmas.Int.{ints}
use Rattle.bg_rows.specs.declared.entry.Entry.{Entry}
use Rattle.bg_rows.specs.Rows.{RowOf}
use Rattle.bg_rows.specs.Steps.{row_at}
use Rattle.bg_rows.specs.Keys.{KeyOf, key_cmp, key_of}
use Rattle.bg_rows.proofs.Keyed.{key_is, key_same, row_from_key}
use Rattle.bg_elim.specs.Keys.{place_of}
use Rattle.bg_elim.specs.Kept.{entries_eq, row_eq, is_new}

pub found_from : (r : RowOf) (n i : ℕ) (rows : List RowOf) → place_of (key_of r) n rows ≡ Some i → (j : ℕ) × (i ≡ n + j) × (row_at rows j ≡ Some r)
found_from r n i [] h = absurd (cc)
found_from r n i (s ∷ rows) h = by_test (λ g. found_from r (suc n) i rows g) (is_eq (key_cmp (key_of r) (key_of s))) refl h
  where
    by_test : (place_of (key_of r) (suc n) rows ≡ Some i → (j : ℕ) × (i ≡ suc n + j) × (row_at rows j ≡ Some r)) → (b : Bool) → is_eq (key_cmp (key_of r) (key_of s)) ≡ b → cond b (Some n) (place_of (key_of r) (suc n) rows) ≡ Some i → (j : ℕ) × (i ≡ n + j) × (row_at (s ∷ rows) j ≡ Some r)
    by_test f true e g = let m : n ≡ i = cc in (0, omega arith, ap Some (sym (row_from_key r s (key_is (key_of r) (key_of s) e))))
    by_test f false e g = let x = f g in (suc x.0, omega (arith, x.1), x.2)

pub found : (r : RowOf) (i : ℕ) (rows : List RowOf) → place_of (key_of r) 0 rows ≡ Some i → row_at rows i ≡ Some r
found r i rows h = let x = found_from r 0 i rows h in let e : i ≡ x.0 = omega (arith, x.1) in rw e x.2

pub entries_eq_is : (ts us : List Entry) → entries_eq ts us ≡ true → ts ≡ us
entries_eq_is [] [] h = refl
entries_eq_is [] (u ∷ us) h = absurd (cc)
entries_eq_is (t ∷ ts) [] h = absurd (cc)
entries_eq_is (t ∷ ts) (u ∷ us) h =
    let a = and_parts (t.variable == u.variable) _ h in
    let b = and_parts (int_eq t.by u.by) _ a.1 in
    let x : t.variable ≡ u.variable = eqb-true t.variable u.variable a.0 in
    let y : t.by ≡ u.by = grind (arith, ints) in
    let e : t ≡ u = ap (λ (z : ℕ). record { variable = z; by = t.by }) x ∙ ap (λ (z : ℤ). record { variable = u.variable; by = z }) y in
    ap (λ z. z ∷ ts) e ∙ ap (λ z. u ∷ z) (entries_eq_is ts us b.1)

pub row_eq_is : (r s : RowOf) → row_eq r s ≡ true → r ≡ s
row_eq_is r s h =
    let a = and_parts (entries_eq r.entries s.entries) _ h in
    let x = entries_eq_is r.entries s.entries a.0 in
    let y : r.bound ≡ s.bound = grind (arith, ints) in
    ap (λ (z : List Entry). record { entries = z; bound = r.bound }) x ∙ ap (λ (z : ℤ). record { entries = s.entries; bound = z }) y

pub rows_same : (r s : RowOf) → entries_eq r.entries s.entries ≡ true → r.bound ≡ s.bound → r ≡ s
rows_same r s h b = ap (λ (z : List Entry). record { entries = z; bound = r.bound }) (entries_eq_is r.entries s.entries h) ∙ ap (λ (z : ℤ). record { entries = s.entries; bound = z }) b

new_test : (r s : RowOf) (n : ℕ) (rows : List RowOf) (b : Bool) → (place_of (key_of r) (suc n) rows ≡ None → is_new r rows ≡ true) → is_eq (key_cmp (key_of r) (key_of s)) ≡ b → cond b (Some n) (place_of (key_of r) (suc n) rows) ≡ None → (not (row_eq s r) && is_new r rows) ≡ true
new_test r s n rows true f e g = absurd (cc)
new_test r s n rows false f e g = and_from (not (row_eq s r)) _ (differs (row_eq s r) refl) (f g)
  where
    differs : (b : Bool) → row_eq s r ≡ b → not b ≡ true
    differs true g =
        let same : key_of r ≡ key_of s = ap key_of (sym (row_eq_is s r g)) in
        let f : is_eq (key_cmp (key_of r) (key_of s)) ≡ true = subst (λ (k : KeyOf). is_eq (key_cmp k (key_of s)) ≡ true) (sym same) (key_same (key_of s)) in
        absurd (cc)
    differs false g = refl

pub new_from : (r : RowOf) (n : ℕ) (rows : List RowOf) → place_of (key_of r) n rows ≡ None → is_new r rows ≡ true
new_from r n [] h = refl
new_from r n (s ∷ rows) h = new_test r s n rows (is_eq (key_cmp (key_of r) (key_of s))) (λ g. new_from r (suc n) rows g) refl h

-- ---- one more row

abbrev pub or_last : Option ℕ → Bool → ℕ → Option ℕ
or_last None b n = cond b (Some n) None
or_last (Some i) b n = Some i

pub place_last : (k : KeyOf) (n : ℕ) (rows : List RowOf) (r : RowOf) → place_of k n (rows ++ (r ∷ [])) ≡ or_last (place_of k n rows) (is_eq (key_cmp k (key_of r))) (n + length rows)
place_last k n [] r = elim (is_eq (key_cmp k (key_of r))) as (λ b. cond b (Some n) None ≡ cond b (Some (n + 0)) None) [ true ↦ ap Some (omega arith) | false ↦ refl ]
place_last k n (s ∷ rows) r = by_test (place_last k (suc n) rows r) (is_eq (key_cmp k (key_of s)))
  where
    by_test : place_of k (suc n) (rows ++ (r ∷ [])) ≡ or_last (place_of k (suc n) rows) (is_eq (key_cmp k (key_of r))) (suc n + length rows) → (b : Bool) → cond b (Some n) (place_of k (suc n) (rows ++ (r ∷ []))) ≡ or_last (cond b (Some n) (place_of k (suc n) rows)) (is_eq (key_cmp k (key_of r))) (n + length (s ∷ rows))
    by_test h true = refl
    by_test h false = h ∙ ap (or_last (place_of k (suc n) rows) (is_eq (key_cmp k (key_of r)))) (omega arith)

-- a key that was put in is found at its row; each other one where it was
pub place_put : (k q : KeyOf) (r : RowOf) (rows : List RowOf) (old new : Option ℕ) (m : ℕ) → m ≡ length rows → k ≡ key_of r → place_of (key_of r) 0 rows ≡ None → old ≡ place_of q 0 rows → new ≡ cond (is_eq (key_cmp k q)) (Some m) old → new ≡ place_of q 0 (rows ++ (r ∷ []))
place_put k q r rows old new m len e none o h = h ∙ (by_test (is_eq (key_cmp k q)) refl (is_eq (key_cmp q (key_of r))) refl ∙ sym (place_last q 0 rows r))
  where
    by_test : (b : Bool) → is_eq (key_cmp k q) ≡ b → (d : Bool) → is_eq (key_cmp q (key_of r)) ≡ d → cond b (Some m) old ≡ or_last (place_of q 0 rows) d (0 + length rows)
    by_test true f true g =
        let same : key_of r ≡ q = sym e ∙ key_is k q f in
        let p : place_of q 0 rows ≡ None = subst (λ (z : KeyOf). place_of z 0 rows ≡ None) same none in
        rw p (ap Some (omega arith))
    by_test true f false g =
        let same : q ≡ key_of r = sym (key_is k q f) ∙ e in
        let p : is_eq (key_cmp q (key_of r)) ≡ true = subst (λ (z : KeyOf). is_eq (key_cmp q z) ≡ true) same (key_same q) in
        absurd (cc)
    by_test false f true g =
        let same : q ≡ k = key_is q (key_of r) g ∙ sym e in
        let p : is_eq (key_cmp k q) ≡ true = subst (λ (z : KeyOf). is_eq (key_cmp k z) ≡ true) (sym same) (key_same k) in
        absurd (cc)
    by_test false f false g = o ∙ still (place_of q 0 rows)
      where
        still : (x : Option ℕ) → x ≡ or_last x false (0 + length rows)
        still None = refl
        still (Some i) = refl

pub map_last : {A B : Type 0} (f : A → B) (xs : List A) (x : A) → map f (xs ++ (x ∷ [])) ≡ map f xs ++ (f x ∷ [])
map_last f [] x = refl
map_last f (y ∷ xs) x = ap (λ z. f y ∷ z) (map_last f xs x)

pub at_map : {A : Type 0} (f : A → RowOf) (xs : List A) (n : ℕ) (d : A) → n < length xs → row_at (map f xs) n ≡ Some (f (get_or xs n d))
at_map f [] n d h = absurd (omega arith)
at_map f (x ∷ xs) zero d h = refl
at_map f (x ∷ xs) (suc n) d h = at_map f xs n d (omega arith)

pub at_below : {A : Type 0} (f : A → RowOf) (xs : List A) (n : ℕ) (r : RowOf) → row_at (map f xs) n ≡ Some r → n < length xs
at_below f [] n r h = absurd (cc)
at_below f (x ∷ xs) zero r h = omega arith
at_below f (x ∷ xs) (suc n) r h = let k = at_below f xs n r h in omega arith

pub at_is : {A : Type 0} (f : A → RowOf) (xs : List A) (n : ℕ) (d : A) (r : RowOf) → row_at (map f xs) n ≡ Some r → d ≡ get_or xs n d → f d ≡ r
at_is f xs n d r h e =
    let a = at_map f xs n d (at_below f xs n r h) in
    let b : f (get_or xs n d) ≡ r = cc in
    ap f e ∙ b

pub at_none : {A : Type 0} (f : A → RowOf) (xs : List A) (n : ℕ) → length xs ≤ n → row_at (map f xs) n ≡ None
at_none f [] n h = refl
at_none f (x ∷ xs) zero h = absurd (omega arith)
at_none f (x ∷ xs) (suc n) h = at_none f xs n (omega arith)
