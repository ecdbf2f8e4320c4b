-- Lists of variables, each once.
use Rattle.std.proofs.Common.{◌≡◌, ℕ, zero, suc, ◌+◌, ◌<◌, Bool, true, false, not, ◌||◌, List, [], ◌∷◌, ◌++◌, length, drop, take, get_or, refl, sym, ap, ◌∙◌, arith, nat_eq, subst, below_more}
use Rattle.std.specs.Prelude.{Some}
use Rattle.std.proofs.lemmas.Bool.{and_parts, and_from, not-true, eqb-true, eq-eqb}
use Rattle.bg_rows.specs.declared.entry.Entry.{Entry}
use Rattle.bg_rows.specs.Rows.{RowOf}
use Rattle.bg_rows.specs.Steps.{row_at}
use Rattle.bg_elim.specs.Kept.{is_in, no_twice, entries_in, rows_in}
use Rattle.bg_elim.specs.Work.{AllInside}
use Rattle.bg_elim.proofs.Orders.{is_in_last}

or_false : (b : Bool) → (b || false) ≡ b
or_false true = refl
or_false false = refl

eq_turns : (x y : ℕ) → nat_eq x y ≡ nat_eq y x
eq_turns x y = by_test (nat_eq x y) refl (nat_eq y x) refl
  where
    by_test : (b : Bool) → nat_eq x y ≡ b → (d : Bool) → nat_eq y x ≡ d → b ≡ d
    by_test true e true f = refl
    by_test true e false f = let same : y ≡ x = sym (eqb-true x y e) in let g = eq-eqb y x same in absurd (cc)
    by_test false e true f = let same : x ≡ y = sym (eqb-true y x f) in let g = eq-eqb x y same in absurd (cc)
    by_test false e false f = refl

none_of_two : (a b : Bool) → (a || b) ≡ false → (a ≡ false) × (b ≡ false)
none_of_two true b h = absurd (cc)
none_of_two false b h = (refl, h)

pub once_last : (ys : List ℕ) (x : ℕ) → no_twice ys ≡ true → is_in x ys ≡ false → no_twice (ys ++ (x ∷ [])) ≡ true
once_last [] x h n = refl
once_last (y ∷ ys) x h n =
    let p = and_parts (not (is_in y ys)) _ h in
    let m = none_of_two (nat_eq x y) (is_in x ys) n in
    let a : is_in y (ys ++ (x ∷ [])) ≡ false = is_in_last y ys x ∙ ap (λ b. b || nat_eq y x) (not-true _ p.0) ∙ eq_turns y x ∙ m.0 in
    and_from (not (is_in y (ys ++ (x ∷ [])))) _ (ap not a) (once_last ys x p.1 m.1)

-- ---- a variable taken out of the middle

pub in_middle : (q : ℕ) (a : List ℕ) (x : ℕ) (b : List ℕ) → is_in q (a ++ (x ∷ b)) ≡ (nat_eq q x || is_in q (a ++ b))
in_middle q [] x b = refl
in_middle q (y ∷ a) x b = by_test (nat_eq q y) (nat_eq q x) (in_middle q a x b)
  where
    by_test : (c d : Bool) → is_in q (a ++ (x ∷ b)) ≡ (d || is_in q (a ++ b)) → (c || is_in q (a ++ (x ∷ b))) ≡ (d || (c || is_in q (a ++ b)))
    by_test true true h = refl
    by_test true false h = refl
    by_test false d h = h

pub once_middle : (a : List ℕ) (x : ℕ) (b : List ℕ) → no_twice (a ++ (x ∷ b)) ≡ true → (no_twice (a ++ b) ≡ true) × (is_in x (a ++ b) ≡ false)
once_middle [] x b h = let p = and_parts (not (is_in x b)) _ h in (p.1, not-true _ p.0)
once_middle (y ∷ a) x b h =
    let p = and_parts (not (is_in y (a ++ (x ∷ b)))) _ h in
    let r = once_middle a x b p.1 in
    let n = none_of_two (nat_eq y x) _ (sym (in_middle y a x b) ∙ not-true _ p.0) in
    (and_from (not (is_in y (a ++ b))) _ (ap not n.1) r.0, ap (λ z. z || is_in x (a ++ b)) (eq_turns x y ∙ n.0) ∙ r.1)

pub taken_out : (xs : List ℕ) (i d : ℕ) → i < length xs → xs ≡ take i xs ++ (get_or xs i d ∷ drop (suc i) xs)
taken_out [] i d h = absurd (omega arith)
taken_out (x ∷ xs) zero d h = refl
taken_out (x ∷ xs) (suc i) d h = ap (λ z. x ∷ z) (taken_out xs i d (omega arith))

-- ---- variables of rows

pub entries_more : (a b : List ℕ) (ts : List Entry) → ((q : ℕ) → is_in q a ≡ true → is_in q b ≡ true) → entries_in a ts ≡ true → entries_in b ts ≡ true
entries_more a b [] f h = refl
entries_more a b (t ∷ ts) f h =
    let p = and_parts (is_in t.variable a) _ h in
    and_from (is_in t.variable b) _ (f t.variable p.0) (entries_more a b ts f p.1)

pub entries_last : (all : List ℕ) (ts : List Entry) (t : Entry) → entries_in all ts ≡ true → is_in t.variable all ≡ true → entries_in all (ts ++ (t ∷ [])) ≡ true
entries_last all [] t h k = and_from (is_in t.variable all) _ k refl
entries_last all (u ∷ ts) t h k = let p = and_parts (is_in u.variable all) _ h in and_from (is_in u.variable all) _ p.0 (entries_last all ts t p.1 k)

pub rows_in_from : (all : List ℕ) (rows : List RowOf) → AllInside all rows → rows_in all rows ≡ true
rows_in_from all [] h = refl
rows_in_from all (r ∷ rows) h = and_from (entries_in all r.entries) _ (h 0 r refl) (rows_in_from all rows (λ n s e. h (suc n) s e))

pub row_entries : (all : List ℕ) (a r : RowOf) → a ≡ r → (ts : List Entry) → ts ≡ a.entries → entries_in all ts ≡ true → entries_in all r.entries ≡ true
row_entries all a r e ts f h = subst (λ (z : RowOf). entries_in all z.entries ≡ true) e (subst (λ (z : List Entry). entries_in all z ≡ true) f h)

pub rows_below : (rows : List RowOf) (all : List ℕ) (i : ℕ) → ((n : ℕ) (r : RowOf) → n < i → row_at rows n ≡ Some r → entries_in all r.entries ≡ true) → ((r : RowOf) → row_at rows i ≡ Some r → entries_in all r.entries ≡ true) → (n : ℕ) (r : RowOf) → n < i + 1 → row_at rows n ≡ Some r → entries_in all r.entries ≡ true
rows_below rows all i f g n r lt h = below_more (λ n. (r : RowOf) → row_at rows n ≡ Some r → entries_in all r.entries ≡ true) i (λ n lt r h. f n r lt h) g n lt r h

-- ---- variables that are done, and those that are left

pub record Parted (all order rest : List ℕ) : Type 0 where
  pub once : no_twice rest ≡ true
  pub done : no_twice order ≡ true
  pub apart : (q : ℕ) → is_in q rest ≡ true → is_in q order ≡ false
  pub whole : (q : ℕ) → is_in q all ≡ (is_in q order || is_in q rest)

or_true : (a b : Bool) → b ≡ true → (a || b) ≡ true
or_true true b h = refl
or_true false b h = h

regroup : (a b c : Bool) → (a || (b || c)) ≡ ((a || b) || c)
regroup true b c = refl
regroup false b c = refl

middle_parted : (all order a : List ℕ) (x : ℕ) (b : List ℕ) → Parted all order (a ++ (x ∷ b)) → Parted all (order ++ (x ∷ [])) (a ++ b)
middle_parted all order a x b p =
    let m = once_middle a x b p.once in
    let here : is_in x (a ++ (x ∷ b)) ≡ true = in_middle x a x b ∙ ap (λ z. z || is_in x (a ++ b)) (eq-eqb x x refl) in
    record {
      once = m.0;
      done = once_last order x p.done (p.apart x here);
      apart = λ q h. is_in_last q order x ∙ ap (λ z. z || nat_eq q x) (p.apart q (in_middle q a x b ∙ or_true (nat_eq q x) (is_in q (a ++ b)) h)) ∙ differs q h m.1 (nat_eq q x) refl;
      whole = λ q. p.whole q ∙ ap (λ z. is_in q order || z) (in_middle q a x b) ∙ regroup (is_in q order) (nat_eq q x) (is_in q (a ++ b)) ∙ ap (λ z. z || is_in q (a ++ b)) (sym (is_in_last q order x));
    }
  where
    differs : (q : ℕ) → is_in q (a ++ b) ≡ true → is_in x (a ++ b) ≡ false → (z : Bool) → nat_eq q x ≡ z → z ≡ false
    differs q h n true e = let same : q ≡ x = eqb-true q x e in absurd (let g = rw same at h in cc)
    differs q h n false e = refl

pub parted_step : (all order rest made left : List ℕ) (i x : ℕ) → Parted all order rest → i < length rest → x ≡ get_or rest i x → made ≡ order ++ (x ∷ []) → left ≡ take i rest ++ drop (suc i) rest → Parted all made left
parted_step all order rest made left i x p lt v e f =
    let is : rest ≡ take i rest ++ (x ∷ drop (suc i) rest) = taken_out rest i x lt ∙ ap (λ z. take i rest ++ (z ∷ drop (suc i) rest)) (sym v) in
    let q = middle_parted all order (take i rest) x (drop (suc i) rest) (subst (Parted all order) is p) in
    subst (λ z. Parted all z left) (sym e) (subst (Parted all (order ++ (x ∷ []))) (sym f) q)

-- ---- an element taken out of a list

pub removed_length : (xs left : List ℕ) (i : ℕ) → i < length xs → left ≡ take i xs ++ drop (suc i) xs → suc (length left) ≡ length xs
removed_length xs left i h e = rw e (shorter xs i h)
  where
    shorter : (xs : List ℕ) (i : ℕ) → i < length xs → suc (length (take i xs ++ drop (suc i) xs)) ≡ length xs
    shorter [] i h = absurd (omega arith)
    shorter (x ∷ xs) zero h = refl
    shorter (x ∷ xs) (suc i) h = ap suc (shorter xs i (omega arith))
