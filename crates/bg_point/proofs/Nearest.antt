-- A row that keeps out the number one step nearer to a target keeps out each nearer one.
use Rattle.std.proofs.Common.{◌≡◌, ℕ, suc, ◌<◌, Bool, true, false, not, ◌&&◌, List, [], ◌∷◌, ℤ, pos, negsuc, ◌+ℤ◌, ◌-ℤ◌, ◌*ℤ◌, neg_ℤ, ◌≤ℤ◌, ◌<ℤ◌, ◌⊎◌, inl, inr, refl, arith, cond, nat_eq, subst}
use Rattle.std.specs.Prelude.{Option, Some, None, unsigned_abs, int_lt}
use Rattle.std.specs.Ordering.{int_eq}
use Rattle.std.proofs.lemmas.Bool.{and_parts, not-true, or_cases, eqb-true}
use Rattle.std.proofs.lemmas.Int.{ints}
use Rattle.std.proofs.Math.IntN.{zero-*ℤ, *ℤ_comm}
use Rattle.bg_base.proofs.Ring.{keeps_order, negation_of_product}
use Rattle.bg_rows.specs.declared.entry.Entry.{Entry}
use Rattle.bg_rows.specs.Entries.{total, coefficient}
use Rattle.bg_rows.specs.Rows.{RowOf, Meets, holds, IsNormal}
use Rattle.bg_rows.specs.Steps.{row_at}
use Rattle.bg_rows.proofs.Normal.{Normal, from_rising}
use Rattle.bg_point.specs.Points.{with_value, nearer, bounds_above, bounds_below, keeps_out, is_near, IsNearer, KeepsOut}
use Rattle.bg_point.proofs.Limits.{without_x}
use Rattle.bg_point.proofs.Marks.{above_is, below_is}
use Rattle.bg_point.proofs.Near.{holds_is}

-- ---- a row at another value

times_zero : (c : ℤ) → c *ℤ pos 0 ≡ pos 0
times_zero c = omega (arith, ints, *ℤ_comm c (pos 0), zero-*ℤ c)

-- the total at a value is that at 0 with so many times the value more
total_at : (v : ℕ → ℤ) (x : ℕ) (z : ℤ) (low : ℕ) (ts : List Entry) → Normal low ts → total (with_value v x z) ts ≡ total (with_value v x (pos 0)) ts +ℤ (coefficient x ts *ℤ z)
total_at v x z low [] n = omega (arith, ints, zero-*ℤ z)
total_at v x z low (t ∷ ts) n = by_test (total_at v x z (suc t.variable) ts n.2) (nat_eq t.variable x) refl
  where
    by_test : total (with_value v x z) ts ≡ total (with_value v x (pos 0)) ts +ℤ (coefficient x ts *ℤ z) → (d : Bool) → nat_eq t.variable x ≡ d → (t.by *ℤ cond d z (v t.variable)) +ℤ total (with_value v x z) ts ≡ ((t.by *ℤ cond d (pos 0) (v t.variable)) +ℤ total (with_value v x (pos 0)) ts) +ℤ (cond d t.by (coefficient x ts) *ℤ z)
    by_test f true d =
        let same : t.variable ≡ x = eqb-true t.variable x d in
        let lt : x < suc t.variable = omega arith in
        omega (arith, ints, without_x v x z (suc t.variable) ts lt n.2, without_x v x (pos 0) (suc t.variable) ts lt n.2, times_zero t.by)
    by_test f false d = omega (arith, ints, f)

-- what meets a row from below, a greater value does too
below_more : (v : ℕ → ℤ) (x : ℕ) (y z : ℤ) (r : RowOf) → IsNormal r → coefficient x r.entries <ℤ pos 0 → z ≤ℤ y → Meets (with_value v x z) r → Meets (with_value v x y) r
below_more v x y z r n c l m =
    let k = neg_ℤ (coefficient x r.entries) in
    let p : pos 0 ≤ℤ neg_ℤ (coefficient x r.entries) = omega (arith, ints, c) in
    let o = keeps_order k z y p l in
    let t = total_at v x z 0 r.entries (from_rising 0 r.entries n) in
    let u = total_at v x y 0 r.entries (from_rising 0 r.entries n) in
    omega (arith, ints, m, o, t, u, negation_of_product (coefficient x r.entries) z, negation_of_product (coefficient x r.entries) y)

-- from above, a lesser one
above_less : (v : ℕ → ℤ) (x : ℕ) (y z : ℤ) (r : RowOf) → IsNormal r → pos 0 <ℤ coefficient x r.entries → y ≤ℤ z → Meets (with_value v x z) r → Meets (with_value v x y) r
above_less v x y z r n c l m =
    let p : pos 0 ≤ℤ coefficient x r.entries = omega (arith, ints, c) in
    let o = keeps_order (coefficient x r.entries) y z p l in
    let t = total_at v x z 0 r.entries (from_rising 0 r.entries n) in
    let u = total_at v x y 0 r.entries (from_rising 0 r.entries n) in
    omega (arith, ints, m, o, t, u)

-- ---- distances

less_by : (a b : ℤ) → unsigned_abs a < unsigned_abs b → pos 0 <ℤ b → a <ℤ b
less_by (pos m) (pos n) h k = omega (arith, ints, h)
less_by (negsuc m) (pos n) h k = omega (arith, ints)
less_by a (negsuc n) h k = absurd (omega (arith, ints, k))

more_by : (a b : ℤ) → unsigned_abs a < unsigned_abs b → b <ℤ pos 0 → b <ℤ a
more_by (pos m) (negsuc n) h k = omega (arith, ints)
more_by (negsuc m) (negsuc n) h k = omega (arith, ints, h)
more_by a (pos n) h k = absurd (omega (arith, ints, k))

none_by : (a b : ℤ) → b ≡ pos 0 → unsigned_abs a < unsigned_abs b → ⊥
none_by a b e h = let k = subst (λ (c : ℤ). unsigned_abs a < unsigned_abs c) e h in omega (arith, k)

no_distance : (w t : ℤ) → w ≡ t → w -ℤ t ≡ pos 0
no_distance w t e = omega (arith, ints, e)

not_both : (v : ℕ → ℤ) (r : RowOf) → not (holds v r) ≡ true → Meets v r → ⊥
not_both v r h m = let f = not-true (holds v r) h in let e = holds_is v r m in absurd (cc)

-- ---- the row of a near value

module _ (order : List ℕ) (v : ℕ → ℤ) (x : ℕ) (t z : ℤ) (r : RowOf) (n : IsNormal r) (h : IsNearer t z (v x)) (m : Meets (with_value v x z) r) where
  from_below : t <ℤ v x → bounds_below order x r ≡ true → not (holds (with_value v x (v x -ℤ pos 1)) r) ≡ true → ⊥
  from_below l b k =
      let a : pos 0 <ℤ (v x -ℤ t) = omega (arith, ints, l) in
      let s = less_by (z -ℤ t) (v x -ℤ t) h a in
      let q : z ≤ℤ (v x -ℤ pos 1) = omega (arith, ints, s) in
      not_both (with_value v x (v x -ℤ pos 1)) r k (below_more v x (v x -ℤ pos 1) z r n (below_is order x r b) q m)

  from_above : v x <ℤ t → bounds_above order x r ≡ true → not (holds (with_value v x (v x +ℤ pos 1)) r) ≡ true → ⊥
  from_above l b k =
      let a : (v x -ℤ t) <ℤ pos 0 = omega (arith, ints, l) in
      let s = more_by (z -ℤ t) (v x -ℤ t) h a in
      let q : (v x +ℤ pos 1) ≤ℤ z = omega (arith, ints, s) in
      not_both (with_value v x (v x +ℤ pos 1)) r k (above_less v x (v x +ℤ pos 1) z r n (above_is order x r b) q m)

  on_a_side : (p q : Bool) → int_lt t (v x) ≡ p → int_lt (v x) t ≡ q → (cond p (bounds_below order x r) (bounds_above order x r) && not (holds (with_value v x (cond p (v x -ℤ pos 1) (cond q (v x +ℤ pos 1) (v x)))) r)) ≡ true → ⊥
  on_a_side true q e f k =
      let g = and_parts (bounds_below order x r) _ k in
      let l : t <ℤ v x = grind (arith, ints, e) in
      from_below l g.0 g.1
  on_a_side false true e f k =
      let g = and_parts (bounds_above order x r) _ k in
      let l : v x <ℤ t = grind (arith, ints, f) in
      from_above l g.0 g.1
  on_a_side false false e f k =
      let l : v x ≡ t = grind (arith, ints, e, f) in
      none_by (z -ℤ t) (v x -ℤ t) (no_distance (v x) t l) h

kept_out : (targets : ℕ → ℤ) (order : List ℕ) (v : ℕ → ℤ) (x : ℕ) (z : ℤ) (o : Option RowOf) → ((r : RowOf) → o ≡ Some r → IsNormal r) → keeps_out targets order v x o ≡ true → IsNearer (targets x) z (v x) → KeepsOut v x z o
kept_out targets order v x z None n k h = absurd (let bad : ⊥ = cc in bad)
kept_out targets order v x z (Some r) n k h =
    λ m. on_a_side order v x (targets x) z r (n r refl) h m (int_lt (targets x) (v x)) (int_lt (v x) (targets x)) refl refl k

pub nearest : (targets : ℕ → ℤ) (order : List ℕ) (rows : List RowOf) (v : ℕ → ℤ) (x reason : ℕ) → ((n : ℕ) (r : RowOf) → row_at rows n ≡ Some r → IsNormal r) → is_near targets order rows v x reason ≡ true → (z : ℤ) → IsNearer (targets x) z (v x) → KeepsOut v x z (row_at rows reason)
nearest targets order rows v x reason normal k z h =
    by_case (or_cases (int_eq (v x) (targets x)) (keeps_out targets order v x (row_at rows reason)) k)
  where
    by_case : (int_eq (v x) (targets x) ≡ true) ⊎ (keeps_out targets order v x (row_at rows reason) ≡ true) → KeepsOut v x z (row_at rows reason)
    by_case (inl e) =
        let l : v x ≡ targets x = grind (arith, ints, e) in
        absurd (none_by (z -ℤ targets x) (v x -ℤ targets x) (no_distance (v x) (targets x) l) h)
    by_case (inr e) = kept_out targets order v x z (row_at rows reason) (λ r q. normal reason r q) e h
