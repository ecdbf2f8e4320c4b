-- Rows that cover others: multiples with the same bound or a nearer one.
use Rattle.std.proofs.Common.{◌≡◌, ℕ, zero, suc, ◌<◌, true, false, List, ℤ, pos, negsuc, ◌-ℤ◌, ◌*ℤ◌, neg_ℤ, ◌≤ℤ◌, ◌<ℤ◌, refl, sym, ap, ◌∙◌, arith, cond, nat_eq}
use Rattle.std.proofs.lemmas.Int.{ints}
use Rattle.std.proofs.Math.IntN.{*ℤ_comm, *ℤ-zero, zero-*ℤ, suc_ℤ-*ℤ}
use Rattle.bg_base.specs.Exact.{floor_quotient}
use Rattle.bg_base.proofs.Ring.{distributes, associates, keeps_order, negation_of_product, product_of_negation}
use Rattle.bg_rows.specs.Entries.{total, mentions, coefficient}
use Rattle.bg_rows.specs.Rows.{RowOf, Meets, DividesAll, IsNormal, gcd_from, divided, tightened, left_for}
use Rattle.bg_rows.proofs.Divisors.{gcd_from_divides, total_divided, exact_coefficient, from_quotient, not_zero}
use Rattle.bg_rows.proofs.Normal.{from_rising, not_mentioned, no_coefficient}
use Rattle.bg_elim.specs.Kept.{PairAgrees}
use Rattle.bg_elim.specs.Work.{Covers, free}
use Rattle.bg_elim.proofs.Orders.{free_none, free_from}

one_times : (z : ℤ) → pos 1 *ℤ z ≡ z
one_times z = omega (arith, ints, suc_ℤ-*ℤ (pos zero) z, zero-*ℤ z)

-- the same entries, and a bound that is not nearer
pub covers_same : (a b : RowOf) → a.entries ≡ b.entries → a.bound ≤ℤ b.bound → Covers a b
covers_same a b e h = record {
  factor = pos 1;
  above = omega (arith, ints);
  totals = λ v. ap (total v) (sym e) ∙ sym (one_times (total v a.entries));
  coefficients = λ x. ap (coefficient x) (sym e) ∙ sym (one_times (coefficient x a.entries));
  bounds = omega (arith, ints, one_times a.bound, h);
}

pub covers_itself : (a : RowOf) → Covers a a
covers_itself a = covers_same a a refl (omega (arith, ints))

pub above_product : (g h : ℤ) → pos 0 <ℤ g → pos 0 <ℤ h → pos 0 <ℤ (g *ℤ h)
above_product g (pos zero) p q = absurd (omega (arith, ints))
above_product g (pos (suc n)) p q =
    omega (arith, ints, *ℤ_comm g (pos (suc n)), suc_ℤ-*ℤ (pos n) g, keeps_order (pos n) (pos 0) g (omega (arith, ints)) (omega (arith, ints)), *ℤ-zero (pos n))
above_product g (negsuc n) p q = absurd (omega (arith, ints))

pub covers_on : (a b c : RowOf) → Covers a b → Covers b c → Covers a c
covers_on a b c x y = record {
  factor = y.factor *ℤ x.factor;
  above = above_product y.factor x.factor y.above x.above;
  totals = λ v. y.totals v ∙ ap (λ z. y.factor *ℤ z) (x.totals v) ∙ sym (associates y.factor x.factor (total v a.entries));
  coefficients = λ v. y.coefficients v ∙ ap (λ z. y.factor *ℤ z) (x.coefficients v) ∙ sym (associates y.factor x.factor (coefficient v a.entries));
  bounds = omega (arith, ints, associates y.factor x.factor a.bound, keeps_order y.factor (x.factor *ℤ a.bound) b.bound (omega (arith, ints, y.above)) x.bounds, y.bounds);
}

pub covers_tightened : (r : RowOf) → Covers (tightened r) r
covers_tightened r = by_divisor (gcd_from 0 r.entries) (gcd_from_divides 0 r.entries).1
  where
    by_divisor : (g : ℕ) → DividesAll g r.entries → Covers (cond (nat_eq g 0) r (record { entries = divided g r.entries; bound = floor_quotient r.bound g })) r
    by_divisor zero d = covers_itself r
    by_divisor (suc g) d =
        let p : 0 < suc g = omega arith in
        let c : Covers (record { entries = divided (suc g) r.entries; bound = floor_quotient r.bound (suc g) }) r = record {
          factor = pos (suc g);
          above = omega (arith, ints);
          totals = λ v. sym (total_divided v (suc g) r.entries p d);
          coefficients = λ x. sym (exact_coefficient x (suc g) r.entries p d);
          bounds = from_quotient (suc g) (floor_quotient r.bound (suc g)) r.bound p (omega (arith, ints));
        } in
        rw (not_zero g) c

pub covers_meets : (v : ℕ → ℤ) (a b : RowOf) → Covers a b → Meets v a → Meets v b
covers_meets v a b c m =
    omega (arith, ints, c.totals v, keeps_order c.factor (total v a.entries) a.bound (omega (arith, ints, c.above)) m, c.bounds)

-- both hold the same variables
pub product_zero : (g z : ℤ) → pos 0 <ℤ g → g *ℤ z ≡ pos 0 → z ≡ pos 0
product_zero g (pos zero) p h = refl
product_zero g (pos (suc n)) p h = let q = above_product g (pos (suc n)) p (omega (arith, ints)) in absurd (omega (arith, ints))
product_zero g (negsuc n) p h =
    let q = above_product g (pos (suc n)) p (omega (arith, ints)) in
    let e : g *ℤ neg_ℤ (pos (suc n)) ≡ neg_ℤ (g *ℤ pos (suc n)) = product_of_negation g (pos (suc n)) in
    absurd (omega (arith, ints))

pub covers_mentions : (x : ℕ) (a b : RowOf) → IsNormal a → Covers a b → mentions x b.entries ≡ false → mentions x a.entries ≡ false
covers_mentions x a b n c h =
    let z = no_coefficient x b.entries h in
    not_mentioned x 0 a.entries (from_rising 0 a.entries n) (product_zero c.factor (coefficient x a.entries) c.above (sym (c.coefficients x) ∙ z))

pub covers_free : (order : List ℕ) (a b : RowOf) → IsNormal a → Covers a b → free order b ≡ true → free order a ≡ true
covers_free order a b n c h = free_from order a (λ y g. covers_mentions y a b n c (free_none y order b h g))

-- ---- where two bounds agree, the bounds of the rows that they cover agree

swaps : (a b c d : ℤ) → (a *ℤ b) *ℤ (c *ℤ d) ≡ (a *ℤ c) *ℤ (b *ℤ d)
swaps a b c d =
    associates a b (c *ℤ d)
    ∙ ap (λ z. a *ℤ z) (sym (associates b c d) ∙ ap (λ z. z *ℤ d) (*ℤ_comm b c) ∙ associates c b d)
    ∙ sym (associates a c (b *ℤ d))

left_covers : (v : ℕ → ℤ) (x : ℕ) (a b : RowOf) (c : Covers a b) → (c.factor *ℤ left_for v x a) ≤ℤ left_for v x b
left_covers v x a b c =
    let t = total v a.entries in
    let k = coefficient x a.entries in
    let e1 = distributes c.factor a.bound (neg_ℤ (t -ℤ (k *ℤ v x))) in
    let e2 = product_of_negation c.factor (t -ℤ (k *ℤ v x)) in
    let e3 = distributes c.factor t (neg_ℤ (k *ℤ v x)) in
    let e4 = product_of_negation c.factor (k *ℤ v x) in
    let e5 : coefficient x b.entries *ℤ v x ≡ c.factor *ℤ (k *ℤ v x) = ap (λ z. z *ℤ v x) (c.coefficients x) ∙ associates c.factor k (v x) in
    omega (arith, ints, e1, e2, e3, e4, e5, c.totals v, c.bounds)

pub covers_agrees : (v : ℕ → ℤ) (x : ℕ) (u l up low : RowOf) → Covers u up → Covers l low → pos 0 <ℤ coefficient x up.entries → coefficient x low.entries <ℤ pos 0 → PairAgrees v x u l → PairAgrees v x up low
covers_agrees v x u l up low c d pu pl h =
    let g = c.factor in
    let k = d.factor in
    let cu = coefficient x u.entries in
    let cl = coefficient x l.entries in
    let lu = left_for v x u in
    let ll = left_for v x l in
    let gk : pos 0 ≤ℤ (g *ℤ k) = omega (arith, ints, above_product g k c.above d.above) in
    let a = keeps_order (g *ℤ k) (neg_ℤ cu *ℤ ll) (neg_ℤ cl *ℤ lu) gk h in
    let b = keeps_order (coefficient x up.entries) (k *ℤ ll) (left_for v x low) (omega (arith, ints, pu)) (left_covers v x l low d) in
    let e = keeps_order (neg_ℤ (coefficient x low.entries)) (g *ℤ lu) (left_for v x up) (omega (arith, ints, pl)) (left_covers v x u up c) in
    let f : coefficient x up.entries *ℤ (k *ℤ ll) ≡ (g *ℤ k) *ℤ (cu *ℤ ll) = ap (λ z. z *ℤ (k *ℤ ll)) (c.coefficients x) ∙ swaps g cu k ll in
    let i : (g *ℤ k) *ℤ (neg_ℤ cu *ℤ ll) ≡ neg_ℤ ((g *ℤ k) *ℤ (cu *ℤ ll)) = ap (λ z. (g *ℤ k) *ℤ z) (negation_of_product cu ll) ∙ product_of_negation (g *ℤ k) (cu *ℤ ll) in
    let j : neg_ℤ (coefficient x low.entries) *ℤ (g *ℤ lu) ≡ (g *ℤ k) *ℤ (neg_ℤ cl *ℤ lu) =
    ap (λ z. neg_ℤ z *ℤ (g *ℤ lu)) (d.coefficients x)
    ∙ ap (λ z. z *ℤ (g *ℤ lu)) (sym (product_of_negation k cl))
    ∙ swaps k (neg_ℤ cl) g lu
    ∙ ap (λ z. z *ℤ (neg_ℤ cl *ℤ lu)) (*ℤ_comm k g) in
    let m = negation_of_product (coefficient x up.entries) (left_for v x low) in
    omega (arith, ints, a, b, e, f, i, j, m)
