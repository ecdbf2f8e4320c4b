-- A bound that the path has already is no gap: its row is kept, and agrees with the others.
use Rattle.std.proofs.Common.{◌≡◌, ℕ, zero, suc, ◌<◌, ◌/◌, Bool, true, false, not, ◌&&◌, ◌||◌, ◌==◌, cond, List, [], ◌∷◌, ℤ, pos, negsuc, ◌+ℤ◌, ◌-ℤ◌, ◌*ℤ◌, neg_ℤ, ◌≤ℤ◌, ◌<ℤ◌, map, refl, ap, ◌∙◌, arith, subst, nat_eq, ◌⊎◌, inl, inr}
use Rattle.std.specs.Prelude.{Option, Some, None}
use Rattle.std.specs.Ordering.{int_eq}
use Rattle.std.proofs.lemmas.Int.{ints}
use Rattle.std.proofs.lemmas.Bool.{not-true, eqb-true, eq-eqb}
use Rattle.std.proofs.lemmas.Bool.Decides.{nat_tests}
use Rattle.std.proofs.Math.IntN.{zero-*ℤ, suc_ℤ-*ℤ, pred_ℤ-*ℤ}
use Rattle.bg_base.specs.Exact.{floor_quotient, gcd_of}
use Rattle.bg_base.proofs.Ring.{product_of_negation, negation_of_product}
use Rattle.bg_rows.specs.declared.entry.Entry.{Entry}
use Rattle.bg_rows.specs.Entries.{coefficient, total}
use Rattle.bg_rows.specs.Rows.{RowOf, row_of, IsNormal, holds, left_for, gcd_from, divided, tightened, entry}
use Rattle.bg_rows.specs.Steps.{row_at}
use Rattle.bg_rows.proofs.Normal.{Normal, from_rising}
use Rattle.bg_elim.specs.Kept.{is_in, none_before, entries_in, rows_in, is_true_row, Among, AllKept}
use Rattle.bg_point.specs.Points.{value_of, with_value, bounds_above, bounds_below, keeps_above, keeps_below, pair_agrees, agrees_below, bounds_agree}
use Rattle.bg_point.proofs.Limits.{without_x}
use Rattle.bg_point.proofs.Upto.{rows_normal}
use Rattle.bg_formula.specs.Atoms.{AtomOf}
use Rattle.bg_cert.specs.declared.cert.Decision.{Decision}
use Rattle.bg_cert.specs.declared.cert.Decision.TheVariants.{Atom, AtMost}
use Rattle.bg_cert.specs.Causes.{has_bound}
use Rattle.bg_cert.specs.Paths.{at_most, above, row_of_decision, in_front, rows_on}
use Rattle.bg_cert.proofs.Follow.{both, either, le_yes}
use Rattle.bg_tree.specs.declared.part.Kept.{Kept}
use Rattle.bg_tree.specs.Ends.{KeepsGap}

-- ---- the row of a bound is tight

one_gcd : gcd_of 0 1 ≡ 1
unfolding gcd_of
one_gcd = refl

floor_one : (z : ℤ) → floor_quotient z 1 ≡ z
floor_one (pos n) = ap pos (whole n)
  where
    whole : (n : ℕ) → n / 1 ≡ n
    whole n = omega arith
floor_one (negsuc n) = ap negsuc (whole n)
  where
    whole : (n : ℕ) → n / 1 ≡ n
    whole n = omega arith

tight_by : (r : RowOf) → gcd_from 0 r.entries ≡ 1 → divided 1 r.entries ≡ r.entries → tightened r ≡ r
tight_by r e d =
    ap (λ g. cond (nat_eq g 0) r (record { entries = divided g r.entries; bound = floor_quotient r.bound g })) e
    ∙ ap (λ ts. record { entries = ts; bound = floor_quotient r.bound 1 }) d
    ∙ ap (λ b. record { entries = r.entries; bound = b }) (floor_one r.bound)

tight_at_most : (x : ℕ) (k : ℤ) → tightened (at_most x k) ≡ at_most x k
tight_at_most x k = tight_by (at_most x k) one_gcd (ap (λ c. entry x c ∷ []) (floor_one (pos 1)))

tight_above : (x : ℕ) (k : ℤ) → tightened (above x k) ≡ above x k
tight_above x k = tight_by (above x k) one_gcd (ap (λ c. entry x c ∷ []) (floor_one (negsuc 0)))

-- ---- so it is kept

same_bound : (x y : ℕ) (k j : ℤ) → (x == y && int_eq k j) ≡ true → (x ≡ y) × (k ≡ j)
same_bound x y k j h =
    let p = both (x == y) (int_eq k j) h in
    (grind (arith, nat_tests, p.0), grind (arith, ints, p.1))

abbrev IsKept : ℕ → ℤ → List RowOf → Type 0
IsKept x k rows = Among (at_most x k) rows ⊎ Among (above x k) rows

behind_front : (o : Option RowOf) (given rows : List RowOf) → AllKept (in_front o given) rows → AllKept given rows
behind_front None given rows h = h
behind_front (Some r) given rows h = h.1

bound_kept : (xs : List AtomOf) (ds : List Decision) (rows : List RowOf) (x : ℕ) (k : ℤ) → has_bound x k ds ≡ true → AllKept (rows_on xs ds) rows → IsKept x k rows
bound_kept xs [] rows x k h a = absurd (cc)
bound_kept xs (Atom b s ∷ ds) rows x k h a = bound_kept xs ds rows x k h (behind_front (row_of_decision xs (Atom b s)) (rows_on xs ds) rows a)
bound_kept xs (AtMost y j true ∷ ds) rows x k h a =
    elim (either (x == y && int_eq k j) (has_bound x k ds) h) [ inl e ↦ here e a.0 | inr e ↦ bound_kept xs ds rows x k e a.1 ]
  where
    here : (x == y && int_eq k j) ≡ true → (is_true_row (at_most y j) ≡ true) ⊎ (Among (at_most y j) rows ⊎ Among (tightened (at_most y j)) rows) → IsKept x k rows
    here e (inl t) = absurd (cc)
    here e (inr (inl m)) = let q = same_bound x y k j e in inl (rw (q.0, q.1) m)
    here e (inr (inr m)) = let q = same_bound x y k j e in inl (rw (q.0, q.1) (subst (λ (r : RowOf). Among r rows) (tight_at_most y j) m))
bound_kept xs (AtMost y j false ∷ ds) rows x k h a =
    elim (either (x == y && int_eq k j) (has_bound x k ds) h) [ inl e ↦ here e a.0 | inr e ↦ bound_kept xs ds rows x k e a.1 ]
  where
    here : (x == y && int_eq k j) ≡ true → (is_true_row (above y j) ≡ true) ⊎ (Among (above y j) rows ⊎ Among (tightened (above y j)) rows) → IsKept x k rows
    here e (inl t) = absurd (cc)
    here e (inr (inl m)) = let q = same_bound x y k j e in inr (rw (q.0, q.1) m)
    here e (inr (inr m)) = let q = same_bound x y k j e in inr (rw (q.0, q.1) (subst (λ (r : RowOf). Among r rows) (tight_above y j) m))

-- ---- and bounds its variable

before_only : (order : List ℕ) (x : ℕ) (c b : ℤ) → is_in x order ≡ true → none_before order x (record { entries = entry x c ∷ []; bound = b }) ≡ true
before_only [] x c b h = absurd (cc)
before_only (y ∷ ys) x c b h = by_same (λ g. before_only ys x c b g) (nat_eq x y) h
  where
    by_same : (is_in x ys ≡ true → none_before ys x (record { entries = entry x c ∷ []; bound = b }) ≡ true) → (t : Bool) → (t || is_in x ys) ≡ true → cond t true (not (t || false) && none_before ys x (record { entries = entry x c ∷ []; bound = b })) ≡ true
    by_same f true g = refl
    by_same f false g = f g

inside_at : (order : List ℕ) (rows : List RowOf) (n : ℕ) (r : RowOf) → rows_in order rows ≡ true → row_at rows n ≡ Some r → entries_in order r.entries ≡ true
inside_at order [] n r h e = absurd (cc)
inside_at order (q ∷ rows) zero r h e = let is : q ≡ r = cc in subst (λ (z : RowOf). entries_in order z.entries ≡ true) is (both (entries_in order q.entries) (rows_in order rows) h).0
inside_at order (q ∷ rows) (suc n) r h e = inside_at order rows n r (both (entries_in order q.entries) (rows_in order rows) h).1 e

only_coefficient : (x : ℕ) (c : ℤ) → coefficient x (entry x c ∷ []) ≡ c
only_coefficient x c = rw (eq-eqb x x refl) refl

only_left : (v : ℕ → ℤ) (x : ℕ) (c b : ℤ) → left_for v x (record { entries = entry x c ∷ []; bound = b }) ≡ b
only_left v x c b = rw (only_coefficient x c) (omega (arith, ints))

agrees_at : (order : List ℕ) (v : ℕ → ℤ) (x : ℕ) (up : RowOf) (rows : List RowOf) (n : ℕ) (low : RowOf) → agrees_below order v x up rows ≡ true → row_at rows n ≡ Some low → bounds_below order x low ≡ true → pair_agrees v x up low ≡ true
agrees_at order v x up [] n low h e b = absurd (cc)
agrees_at order v x up (q ∷ rows) zero low h e b =
    let is : q ≡ low = cc in
    let p = (both (not (bounds_below order x q) || pair_agrees v x up q) (agrees_below order v x up rows) h).0 in
    by_bound (bounds_below order x low) b (subst (λ (z : RowOf). (not (bounds_below order x z) || pair_agrees v x up z) ≡ true) is p)
  where
    by_bound : (t : Bool) → t ≡ true → (not t || pair_agrees v x up low) ≡ true → pair_agrees v x up low ≡ true
    by_bound true t g = g
    by_bound false t g = absurd (cc)
agrees_at order v x up (q ∷ rows) (suc n) low h e b = agrees_at order v x up rows n low (both (not (bounds_below order x q) || pair_agrees v x up q) (agrees_below order v x up rows) h).1 e b

agree_at : (order : List ℕ) (v : ℕ → ℤ) (x : ℕ) (rows us : List RowOf) (m n : ℕ) (up low : RowOf) → bounds_agree order v x rows us ≡ true → row_at us m ≡ Some up → row_at rows n ≡ Some low → bounds_above order x up ≡ true → bounds_below order x low ≡ true → pair_agrees v x up low ≡ true
agree_at order v x rows [] m n up low h e g a b = absurd (cc)
agree_at order v x rows (q ∷ us) zero n up low h e g a b =
    let is : q ≡ up = cc in
    let p = (both (not (bounds_above order x q) || agrees_below order v x q rows) (bounds_agree order v x rows us) h).0 in
    agrees_at order v x up rows n low (by_bound (bounds_above order x up) a (subst (λ (z : RowOf). (not (bounds_above order x z) || agrees_below order v x z rows) ≡ true) is p)) g b
  where
    by_bound : (t : Bool) → t ≡ true → (not t || agrees_below order v x up rows) ≡ true → agrees_below order v x up rows ≡ true
    by_bound true t g = g
    by_bound false t g = absurd (cc)
agree_at order v x rows (q ∷ us) (suc m) n up low h e g a b = agree_at order v x rows us m n up low (both (not (bounds_above order x q) || agrees_below order v x q rows) (bounds_agree order v x rows us) h).1 e g a b

-- ---- against a row that another value of the variable doesn't meet

pub one_times : (z : ℤ) → pos 1 *ℤ z ≡ z
one_times z = omega (arith, ints, suc_ℤ-*ℤ (pos zero) z, zero-*ℤ z)

pub minus_one_times : (z : ℤ) → negsuc 0 *ℤ z ≡ neg_ℤ z
minus_one_times z = omega (arith, ints, pred_ℤ-*ℤ (pos zero) z, zero-*ℤ z)

total_change : (v : ℕ → ℤ) (x : ℕ) (z : ℤ) (low : ℕ) (ts : List Entry) → Normal low ts → total (with_value v x z) ts +ℤ (coefficient x ts *ℤ v x) ≡ total v ts +ℤ (coefficient x ts *ℤ z)
total_change v x z low [] n = omega (arith, ints, zero-*ℤ z, zero-*ℤ (v x))
total_change v x z low (t ∷ ts) n = by_test (total_change v x z (suc t.variable) ts n.2) (nat_eq t.variable x) refl
  where
    by_test : total (with_value v x z) ts +ℤ (coefficient x ts *ℤ v x) ≡ total v ts +ℤ (coefficient x ts *ℤ z) → (d : Bool) → nat_eq t.variable x ≡ d → ((t.by *ℤ cond d z (v t.variable)) +ℤ total (with_value v x z) ts) +ℤ (cond d t.by (coefficient x ts) *ℤ v x) ≡ ((t.by *ℤ v t.variable) +ℤ total v ts) +ℤ (cond d t.by (coefficient x ts) *ℤ z)
    by_test f true d =
        let same : t.variable ≡ x = eqb-true t.variable x d in
        let lt : x < suc t.variable = omega arith in
        let w = without_x v x z (suc t.variable) ts lt n.2 in
        let p : t.by *ℤ v t.variable ≡ t.by *ℤ v x = ap (λ y. t.by *ℤ v y) same in
        omega (arith, ints, w, p)
    by_test f false d = omega (arith, ints, f)

fails_at : (v : ℕ → ℤ) (r : RowOf) → not (holds v r) ≡ true → r.bound <ℤ total v r.entries
fails_at v r h = let e = not-true (holds v r) h in grind (arith, ints)

-- what is left for the variable is less than its coefficient takes at that value
short : (v : ℕ → ℤ) (x : ℕ) (z : ℤ) (r : RowOf) → IsNormal r → not (holds (with_value v x z) r) ≡ true → left_for v x r <ℤ (coefficient x r.entries *ℤ z)
short v x z r n h =
    let f = fails_at (with_value v x z) r h in
    let t = total_change v x z 0 r.entries (from_rising 0 r.entries n) in
    omega (arith, ints, f, t)

clash_at_most : (v : ℕ → ℤ) (x : ℕ) (k : ℤ) (low : RowOf) → IsNormal low → pair_agrees v x (at_most x k) low ≡ true → not (holds (with_value v x k) low) ≡ true → ⊥
clash_at_most v x k low n p h =
    let c = coefficient x low.entries in
    let s = short v x k low n h in
    let e : (neg_ℤ (pos 1) *ℤ left_for v x low) ≤ℤ (neg_ℤ (coefficient x low.entries) *ℤ k) = le_yes _ _ (rw (only_left v x (pos 1) k, only_coefficient x (pos 1)) at p) in
    omega (arith, ints, s, e, minus_one_times (left_for v x low), negation_of_product (coefficient x low.entries) k)

clash_above : (v : ℕ → ℤ) (x : ℕ) (k : ℤ) (up : RowOf) → IsNormal up → pair_agrees v x up (above x k) ≡ true → not (holds (with_value v x (k +ℤ pos 1)) up) ≡ true → ⊥
clash_above v x k up n p h =
    let c = coefficient x up.entries in
    let s = short v x (k +ℤ pos 1) up n h in
    let e : (neg_ℤ (coefficient x up.entries) *ℤ (negsuc 0 -ℤ k)) ≤ℤ (neg_ℤ (negsuc 0) *ℤ left_for v x up) = le_yes _ _ (rw (only_left v x (negsuc 0) (negsuc 0 -ℤ k), only_coefficient x (negsuc 0)) at p) in
    let w : negsuc 0 -ℤ k ≡ neg_ℤ (k +ℤ pos 1) = omega (arith, ints) in
    let q : coefficient x up.entries *ℤ (negsuc 0 -ℤ k) ≡ neg_ℤ (coefficient x up.entries *ℤ (k +ℤ pos 1)) = ap (λ z. coefficient x up.entries *ℤ z) w ∙ product_of_negation (coefficient x up.entries) (k +ℤ pos 1) in
    omega (arith, ints, s, e, q, one_times (left_for v x up), negation_of_product (coefficient x up.entries) (negsuc 0 -ℤ k))

abbrev AllNormal : List RowOf → Type 0
AllNormal rows = (n : ℕ) (r : RowOf) → row_at rows n ≡ Some r → IsNormal r

kept_at_most : (order : List ℕ) (rows : List RowOf) (v : ℕ → ℤ) (x : ℕ) (k : ℤ) (n : ℕ) → AllNormal rows → rows_in order rows ≡ true → bounds_agree order v x rows rows ≡ true → Among (at_most x k) rows → (o : Option RowOf) → row_at rows n ≡ o → keeps_above order v x k o ≡ true → ⊥
kept_at_most order rows v x k n l i a m None e h = cc
kept_at_most order rows v x k n l i a m (Some low) e h =
    let p = both (bounds_below order x low) _ h in
    let y = (both (is_in x order) true (inside_at order rows m.0 (at_most x k) i m.1)).0 in
    let b : bounds_above order x (at_most x k) ≡ true = rw (before_only order x (pos 1) k y, only_coefficient x (pos 1)) refl in
    clash_at_most v x k low (l n low e) (agree_at order v x rows rows m.0 n (at_most x k) low a m.1 e b p.0) p.1

kept_above : (order : List ℕ) (rows : List RowOf) (v : ℕ → ℤ) (x : ℕ) (k : ℤ) (n : ℕ) → AllNormal rows → rows_in order rows ≡ true → bounds_agree order v x rows rows ≡ true → Among (above x k) rows → (o : Option RowOf) → row_at rows n ≡ o → keeps_below order v x (k +ℤ pos 1) o ≡ true → ⊥
kept_above order rows v x k n l i a m None e h = cc
kept_above order rows v x k n l i a m (Some up) e h =
    let p = both (bounds_above order x up) _ h in
    let y = (both (is_in x order) true (inside_at order rows m.0 (above x k) i m.1)).0 in
    let b : bounds_below order x (above x k) ≡ true = rw (before_only order x (negsuc 0) (negsuc 0 -ℤ k) y, only_coefficient x (negsuc 0)) refl in
    clash_above v x k up (l n up e) (agree_at order v x rows rows n m.0 up (above x k) a e m.1 p.0 b) p.1

pub gap_is_new : (targets : ℕ → ℤ) (xs : List AtomOf) (ds : List Decision) (k : Kept) → KeepsGap targets (rows_on xs ds) k → has_bound k.gap.variable k.gap.below ds ≡ false
gap_is_new targets xs ds k g = by_test (has_bound k.gap.variable k.gap.below ds) refl
  where
    rows : List RowOf
    rows = map row_of k.order.rows.items

    clash : IsKept k.gap.variable k.gap.below (map row_of k.order.rows.items) → ⊥
    clash (inl m) = kept_at_most k.order.variables.items (map row_of k.order.rows.items) (value_of k.spots.items) k.gap.variable k.gap.below k.gap.low (rows_normal k.order.rows.items) g.solved.inside g.gap.near.agrees m (row_at (map row_of k.order.rows.items) k.gap.low) refl g.gap.above
    clash (inr m) = kept_above k.order.variables.items (map row_of k.order.rows.items) (value_of k.spots.items) k.gap.variable k.gap.below k.gap.up (rows_normal k.order.rows.items) g.solved.inside g.gap.near.agrees m (row_at (map row_of k.order.rows.items) k.gap.up) refl g.gap.below

    by_test : (t : Bool) → has_bound k.gap.variable k.gap.below ds ≡ t → t ≡ false
    by_test false e = refl
    by_test true e = absurd (clash (bound_kept xs ds (map row_of k.order.rows.items) k.gap.variable k.gap.below e g.solved.kept))
