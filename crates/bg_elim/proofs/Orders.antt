-- Orders that grow, and kept rows that grow with them.
use Rattle.std.proofs.Common.{◌≡◌, ℕ, zero, suc, ◌<◌, Bool, true, false, not, ◌&&◌, ◌||◌, List, [], ◌∷◌, ◌++◌, length, refl, sym, ap, ◌∙◌, arith, cond, nat_eq, subst, get_or}
use Rattle.std.specs.Prelude.{Option, Some, None}
use Rattle.std.proofs.lemmas.Bool.{and_parts, and_from, not-true, eqb-true, eq-eqb}
use Rattle.bg_rows.specs.Entries.{mentions, coefficient}
use Rattle.bg_rows.specs.Rows.{RowOf, is_false, eliminated, opposite}
use Rattle.bg_rows.specs.Steps.{row_at, ok_of}
use Rattle.bg_elim.specs.declared.order.Reason.{Reason}
use Rattle.bg_elim.specs.declared.order.Reason.TheVariants.{Given, Tightened, Eliminated}
use Rattle.bg_elim.specs.Kept.{is_in, none_before, may_eliminate, gone_of, reason_row, made_rows, none_false, all_different, is_new, row_eq}
use Rattle.bg_elim.specs.Work.{free}
use Rattle.bg_elim.proofs.Places.{row_eq_is}

-- ---- membership

pub is_in_last : (x : ℕ) (ys : List ℕ) (y : ℕ) → is_in x (ys ++ (y ∷ [])) ≡ (is_in x ys || nat_eq x y)
is_in_last x [] y = by_test (nat_eq x y)
  where
    by_test : (b : Bool) → (b || false) ≡ b
    by_test true = refl
    by_test false = refl
is_in_last x (z ∷ ys) y = by_test (nat_eq x z) (is_in_last x ys y)
  where
    by_test : (b : Bool) → is_in x (ys ++ (y ∷ [])) ≡ (is_in x ys || nat_eq x y) → (b || is_in x (ys ++ (y ∷ []))) ≡ ((b || is_in x ys) || nat_eq x y)
    by_test true h = refl
    by_test false h = h

pub in_more : (x : ℕ) (ys : List ℕ) (y : ℕ) → is_in x ys ≡ true → is_in x (ys ++ (y ∷ [])) ≡ true
in_more x ys y h = rw (is_in_last x ys y, h) refl

pub in_last : (ys : List ℕ) (y : ℕ) → is_in y (ys ++ (y ∷ [])) ≡ true
in_last ys y = rw (is_in_last y ys y, eq-eqb y y refl) (by_test (is_in y ys))
  where
    by_test : (b : Bool) → (b || true) ≡ true
    by_test true = refl
    by_test false = refl

-- ---- rows free of an order

pub free_none : (y : ℕ) (order : List ℕ) (r : RowOf) → free order r ≡ true → is_in y order ≡ true → mentions y r.entries ≡ false
free_none y [] r f h = absurd (cc)
free_none y (z ∷ order) r f h =
    let p = and_parts (not (mentions z r.entries)) _ f in
    by_test (nat_eq y z) refl p.0 (free_none y order r p.1) h
  where
    by_test : (b : Bool) → nat_eq y z ≡ b → not (mentions z r.entries) ≡ true → (is_in y order ≡ true → mentions y r.entries ≡ false) → (b || is_in y order) ≡ true → mentions y r.entries ≡ false
    by_test true e n g k = let same : y ≡ z = eqb-true y z e in rw same (not-true _ n)
    by_test false e n g k = g k

pub free_last : (order : List ℕ) (x : ℕ) (r : RowOf) → free (order ++ (x ∷ [])) r ≡ (free order r && not (mentions x r.entries))
free_last [] x r = by_test (not (mentions x r.entries))
  where
    by_test : (b : Bool) → (b && true) ≡ b
    by_test true = refl
    by_test false = refl
free_last (y ∷ order) x r = by_test (not (mentions y r.entries)) (free_last order x r)
  where
    by_test : (b : Bool) → free (order ++ (x ∷ [])) r ≡ (free order r && not (mentions x r.entries)) → (b && free (order ++ (x ∷ [])) r) ≡ ((b && free order r) && not (mentions x r.entries))
    by_test true h = h
    by_test false h = refl

-- from the variables of a row
pub free_from : (order : List ℕ) (r : RowOf) → ((y : ℕ) → is_in y order ≡ true → mentions y r.entries ≡ false) → free order r ≡ true
free_from [] r h = refl
free_from (y ∷ order) r h =
    and_from (not (mentions y r.entries)) _ (ap not (h y (by_same (nat_eq y y) (eq-eqb y y refl))))
    (free_from order r (λ z g. h z (by_other z (nat_eq z y) g)))
  where
    by_same : (b : Bool) → b ≡ true → (b || is_in y order) ≡ true
    by_same true e = refl
    by_same false e = cc

    by_other : (z : ℕ) (b : Bool) → is_in z order ≡ true → (b || is_in z order) ≡ true
    by_other z true g = refl
    by_other z false g = g

-- ---- variables before another

pub before_in : (order : List ℕ) (x : ℕ) (r : RowOf) → none_before order x r ≡ true → is_in x order ≡ true
before_in [] x r h = absurd (cc)
before_in (y ∷ order) x r h = by_test (nat_eq x y) (before_in order x r) h
  where
    by_test : (b : Bool) → (none_before order x r ≡ true → is_in x order ≡ true) → cond b true (not (mentions y r.entries) && none_before order x r) ≡ true → (b || is_in x order) ≡ true
    by_test true f h = refl
    by_test false f h = f (and_parts (not (mentions y r.entries)) _ h).1

pub before_grows : (order : List ℕ) (x z : ℕ) (r : RowOf) → is_in x order ≡ true → none_before (order ++ (z ∷ [])) x r ≡ none_before order x r
before_grows [] x z r h = absurd (cc)
before_grows (y ∷ order) x z r h = by_test (nat_eq x y) (before_grows order x z r) h
  where
    by_test : (b : Bool) → (is_in x order ≡ true → none_before (order ++ (z ∷ [])) x r ≡ none_before order x r) → (b || is_in x order) ≡ true → cond b true (not (mentions y r.entries) && none_before (order ++ (z ∷ [])) x r) ≡ cond b true (not (mentions y r.entries) && none_before order x r)
    by_test true f h = refl
    by_test false f h = ap (λ b. not (mentions y r.entries) && b) (f h)

-- of the last variable
pub before_last : (order : List ℕ) (x : ℕ) (r : RowOf) → is_in x order ≡ false → none_before (order ++ (x ∷ [])) x r ≡ free order r
before_last [] x r h = rw (eq-eqb x x refl) refl
before_last (y ∷ order) x r h = by_test (nat_eq x y) (before_last order x r) h
  where
    by_test : (b : Bool) → (is_in x order ≡ false → none_before (order ++ (x ∷ [])) x r ≡ free order r) → (b || is_in x order) ≡ false → cond b true (not (mentions y r.entries) && none_before (order ++ (x ∷ [])) x r) ≡ (not (mentions y r.entries) && free order r)
    by_test true f h = absurd (cc)
    by_test false f h = ap (λ b. not (mentions y r.entries) && b) (f h)

pub before_kept : (order : List ℕ) (x z : ℕ) (r : RowOf) → none_before order x r ≡ true → none_before (order ++ (z ∷ [])) x r ≡ true
before_kept order x z r h = before_grows order x z r (before_in order x r h) ∙ h

-- ---- reasons

opposite_kept : (order : List ℕ) (x z : ℕ) (r s : RowOf) → may_eliminate order x r s ≡ true → may_eliminate (order ++ (z ∷ [])) x r s ≡ true
opposite_kept order x z r s h =
    let a = and_parts (opposite (coefficient x r.entries) (coefficient x s.entries)) _ h in
    let b = and_parts (none_before order x r) _ a.1 in
    and_from (opposite (coefficient x r.entries) (coefficient x s.entries)) _ a.0
    (and_from (none_before (order ++ (z ∷ [])) x r) _ (before_kept order x z r b.0) (before_kept order x z s b.1))

gone_kept : (order : List ℕ) (x z : ℕ) (a b : Option RowOf) (t : RowOf) → gone_of order x a b ≡ Some t → gone_of (order ++ (z ∷ [])) x a b ≡ Some t
gone_kept order x z None b t h = absurd (cc)
gone_kept order x z (Some r) None t h = absurd (cc)
gone_kept order x z (Some r) (Some s) t h = by_test (may_eliminate order x r s) refl h
  where
    by_test : (b : Bool) → may_eliminate order x r s ≡ b → cond b (ok_of (eliminated r s x)) None ≡ Some t → cond (may_eliminate (order ++ (z ∷ [])) x r s) (ok_of (eliminated r s x)) None ≡ Some t
    by_test true e g = rw (opposite_kept order x z r s e) g
    by_test false e g = absurd (cc)

reason_kept : (given : List RowOf) (order : List ℕ) (z : ℕ) (made : List RowOf) (reason : Reason) (t : RowOf) → reason_row given order made reason ≡ Some t → reason_row given (order ++ (z ∷ [])) made reason ≡ Some t
reason_kept given order z made (Given j) t h = h
reason_kept given order z made (Tightened i) t h = h
reason_kept given order z made (Eliminated i j x) t h = gone_kept order x z (row_at made i) (row_at made j) t h

-- the rows are made under a longer order as well
pub made_kept : (given : List RowOf) (order : List ℕ) (z : ℕ) (made : List RowOf) (reasons : List Reason) (rows : List RowOf) → made_rows given order made reasons ≡ Some rows → made_rows given (order ++ (z ∷ [])) made reasons ≡ Some rows
made_kept given order z made [] rows h = h
made_kept given order z made (reason ∷ reasons) rows h = by_row (λ row. made_kept given order z (made ++ (row ∷ [])) reasons rows) (reason_row given order made reason) refl h
  where
    by_row : ((row : RowOf) → made_rows given order (made ++ (row ∷ [])) reasons ≡ Some rows → made_rows given (order ++ (z ∷ [])) (made ++ (row ∷ [])) reasons ≡ Some rows) → (x : Option RowOf) → reason_row given order made reason ≡ x → (elim x [ None ↦ None | Some row ↦ made_rows given order (made ++ (row ∷ [])) reasons ]) ≡ Some rows → (elim (reason_row given (order ++ (z ∷ [])) made reason) [ None ↦ None | Some row ↦ made_rows given (order ++ (z ∷ [])) (made ++ (row ∷ [])) reasons ]) ≡ Some rows
    by_row f None e g = absurd (cc)
    by_row f (Some row) e g = rw (reason_kept given order z made reason row e) (f row g)

-- one more row with its reason
pub made_last : (given : List RowOf) (order : List ℕ) (made : List RowOf) (reasons : List Reason) (rows : List RowOf) (reason : Reason) (row : RowOf) → made_rows given order made reasons ≡ Some rows → reason_row given order rows reason ≡ Some row → made_rows given order made (reasons ++ (reason ∷ [])) ≡ Some (rows ++ (row ∷ []))
made_last given order made [] rows reason row h k =
    let is : rows ≡ made = cc in
    let e : reason_row given order made reason ≡ Some row = rw is at k in
    start (reason_row given order made reason) e ∙ ap (λ (z : List RowOf). Some (z ++ (row ∷ []))) (sym is)
  where
    start : (x : Option RowOf) → x ≡ Some row → (elim x [ None ↦ None | Some q ↦ Some (made ++ (q ∷ [])) ]) ≡ Some (made ++ (row ∷ []))
    start None e = absurd (cc)
    start (Some q) e = let is : q ≡ row = cc in ap (λ (z : RowOf). Some (made ++ (z ∷ []))) is
made_last given order made (first ∷ reasons) rows reason row h k = by_row (λ q g. made_last given order (made ++ (q ∷ [])) reasons rows reason row g k) (reason_row given order made first) h
  where
    by_row : ((q : RowOf) → made_rows given order (made ++ (q ∷ [])) reasons ≡ Some rows → made_rows given order (made ++ (q ∷ [])) (reasons ++ (reason ∷ [])) ≡ Some (rows ++ (row ∷ []))) → (x : Option RowOf) → (elim x [ None ↦ None | Some q ↦ made_rows given order (made ++ (q ∷ [])) reasons ]) ≡ Some rows → (elim x [ None ↦ None | Some q ↦ made_rows given order (made ++ (q ∷ [])) (reasons ++ (reason ∷ [])) ]) ≡ Some (rows ++ (row ∷ []))
    by_row f None g = absurd (cc)
    by_row f (Some q) g = f q g

-- ---- lists of rows that grow

pub at_more : (rows : List RowOf) (r : RowOf) (n : ℕ) (s : RowOf) → row_at rows n ≡ Some s → row_at (rows ++ (r ∷ [])) n ≡ Some s
at_more [] r n s h = absurd (cc)
at_more (q ∷ rows) r zero s h = h
at_more (q ∷ rows) r (suc n) s h = at_more rows r n s h

pub at_last : (rows : List RowOf) (r : RowOf) → row_at (rows ++ (r ∷ [])) (length rows) ≡ Some r
at_last [] r = refl
at_last (q ∷ rows) r = at_last rows r

-- a row of the longer list is the last one, or was there
pub at_back : {P : Type 0} (rows : List RowOf) (r : RowOf) (n : ℕ) (s : RowOf) → row_at (rows ++ (r ∷ [])) n ≡ Some s → (row_at rows n ≡ Some s → P) → (s ≡ r → P) → P
at_back [] r zero s h f g = g (cc)
at_back [] r (suc n) s h f g = absurd (cc)
at_back (q ∷ rows) r zero s h f g = f h
at_back (q ∷ rows) r (suc n) s h f g = at_back rows r n s h f g

pub fine_last : (rows : List RowOf) (r : RowOf) → none_false rows ≡ true → is_false r ≡ false → none_false (rows ++ (r ∷ [])) ≡ true
fine_last [] r h f = rw f refl
fine_last (q ∷ rows) r h f =
    let p = and_parts (not (is_false q)) _ h in
    and_from (not (is_false q)) _ p.0 (fine_last rows r p.1 f)

new_last : (q : RowOf) (rows : List RowOf) (r : RowOf) → is_new q rows ≡ true → not (row_eq r q) ≡ true → is_new q (rows ++ (r ∷ [])) ≡ true
new_last q [] r h n = and_from (not (row_eq r q)) true n refl
new_last q (s ∷ rows) r h n =
    let p = and_parts (not (row_eq s q)) _ h in
    and_from (not (row_eq s q)) _ p.0 (new_last q rows r p.1 n)

turned : (r q : RowOf) (b : Bool) → row_eq r q ≡ b → not (row_eq q r) ≡ true → not b ≡ true
turned r q true e n =
    let same = row_eq_is r q e in
    let a : row_eq q q ≡ true = subst (λ (z : RowOf). row_eq z q ≡ true) same e in
    let b : row_eq q r ≡ true = subst (λ (z : RowOf). row_eq q z ≡ true) (sym same) a in
    absurd (let c = rw b at n in cc)
turned r q false e n = refl

pub different_last : (rows : List RowOf) (r : RowOf) → all_different rows ≡ true → is_new r rows ≡ true → all_different (rows ++ (r ∷ [])) ≡ true
different_last [] r h n = refl
different_last (q ∷ rows) r h n =
    let p = and_parts (is_new q rows) _ h in
    let m = and_parts (not (row_eq q r)) _ n in
    and_from (is_new q (rows ++ (r ∷ []))) _ (new_last q rows r p.0 (turned r q (row_eq r q) refl m.0)) (different_last rows r p.1 m.1)

-- ---- membership by places

pub in_at : (ys : List ℕ) (i : ℕ) → i < length ys → is_in (get_or ys i 0) ys ≡ true
in_at [] i h = absurd (omega arith)
in_at (y ∷ ys) zero h = rw (eq-eqb y y refl) refl
in_at (y ∷ ys) (suc i) h = by_test (nat_eq (get_or ys i 0) y) (in_at ys i (omega arith))
  where
    by_test : (b : Bool) → is_in (get_or ys i 0) ys ≡ true → (b || is_in (get_or ys i 0) ys) ≡ true
    by_test true g = refl
    by_test false g = g
