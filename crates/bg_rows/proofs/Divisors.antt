-- What a greatest common divisor does to a row.
use Rattle.std.proofs.Common.{◌≡◌, ℕ, zero, suc, ◌+◌, ◌<◌, ◌≤◌, ◌*◌, ◌/◌, false, List, [], ◌∷◌, ℤ, pos, negsuc, ◌*ℤ◌, neg_ℤ, ◌≤ℤ◌, sym, ap, ◌∙◌, arith, cond, nat_eq, IsTrue, Bool, true, ◌==◌}
use Rattle.std.specs.Prelude.{unsigned_abs, ◌↔◌}
use Rattle.std.specs.Int.{◌∣◌}
use Rattle.std.proofs.Math.Nat as N
use Rattle.std.proofs.Math.IntN.{*ℤ-zero, pos-*ℤ-pos, pos-*ℤ-negsuc}
use Rattle.std.proofs.lemmas.Int.{ints}
use Rattle.std.proofs.lemmas.Nat.Gcd.{dvd_trans, dvd_refl, mod-eq-zero_of_dvd}
use Rattle.std.proofs.lemmas.Bool.Decides.{nat_tests}
use Rattle.bg_base.specs.Exact.{gcd_of, floor_quotient}
use Rattle.bg_base.proofs.Euclid.{gcd_is}
use Rattle.bg_base.proofs.Ring.{distributes, associates}
use Rattle.bg_rows.specs.declared.entry.Entry.{Entry}
use Rattle.bg_rows.specs.Entries.{total, coefficient}
use Rattle.bg_rows.specs.Rows.{DividesAll, RowOf, Meets, opposite, gcd_from, divided, tightened}

above_zero : (d n : ℕ) → 0 < n → d ∣ n → 0 < d
above_zero d n h k = N.pos_of_dvd_of_pos k h

pub gcd_above_zero : (a b : ℤ) (g : ℕ) → IsTrue (opposite a b) → g ≡ gcd_of (unsigned_abs a) (unsigned_abs b) → 0 < g
gcd_above_zero (pos a) (negsuc b) g h e = rw e (above_zero _ a (grind (arith, nat_tests)) (gcd_is a (suc b)).0)
gcd_above_zero (negsuc a) (pos b) g h e = rw e (above_zero _ b (grind (arith, nat_tests)) (gcd_is (suc a) b).1)
gcd_above_zero (pos a) (pos b) g h e = absurd (cc)
gcd_above_zero (negsuc a) (negsuc b) g h e = absurd (cc)

pub gcd_from_divides : (g : ℕ) (ts : List Entry) → (gcd_from g ts ∣ g) × DividesAll (gcd_from g ts) ts
gcd_from_divides g [] = (dvd_refl g, tt)
gcd_from_divides g (t ∷ ts) =
    let rest = gcd_from_divides (gcd_of g (unsigned_abs t.by)) ts in
    let is = gcd_is g (unsigned_abs t.by) in
    (dvd_trans _ rest.0 is.0, (dvd_trans _ rest.0 is.1, rest.1))

-- an exact division, below 0
quotient_below : (n g q : ℕ) → 0 < g → suc n ≡ g * q → suc (n / g) ≡ q
quotient_below n g zero h e = absurd (omega (arith, N.mul-zero g))
quotient_below n g (suc k) h e =
    let low : k * g ≤ n = omega (arith, N.mul-suc g k, N.mul_comm k g) in
    let high : n < (k + 1) * g = omega (arith, N.mul-suc g k, N.mul_comm k g, N.add-mul k 1 g, N.one-mul g) in
    let is : n / g ≡ k = N.div-eq_of_lt-le g low high in
    ap suc is

pub exact : (g n : ℕ) → g ∣ n → g * (n / g) ≡ n
exact g n d = omega (arith, N.div-add-mod n g, mod-eq-zero_of_dvd g d)

pub divided_exactly : (g : ℕ) (a : ℤ) → 0 < g → g ∣ unsigned_abs a → pos g *ℤ floor_quotient a g ≡ a
divided_exactly g (pos n) h d = pos-*ℤ-pos g (n / g) ∙ ap pos (exact g n d)
divided_exactly g (negsuc n) h d =
    let e : g * suc (n / g) ≡ suc n = ap (λ q. g * q) (quotient_below n g (suc n / g) h (sym (exact g (suc n) d))) ∙ exact g (suc n) d in
    pos-*ℤ-negsuc g (n / g) ∙ ap (λ m. neg_ℤ (pos m)) e

pub total_divided : (v : ℕ → ℤ) (g : ℕ) (ts : List Entry) → 0 < g → DividesAll g ts → pos g *ℤ total v (divided g ts) ≡ total v ts
total_divided v g [] h d = *ℤ-zero (pos g)
total_divided v g (t ∷ ts) h d =
    let one = divided_exactly g t.by h d.0 in
    let rest = total_divided v g ts h d.1 in
    omega (arith, ints, distributes (pos g) (floor_quotient t.by g *ℤ v t.variable) (total v (divided g ts)), associates (pos g) (floor_quotient t.by g) (v t.variable), rest, ap (λ c. c *ℤ v t.variable) one)

-- a multiple is at most a number exactly where it is at most the quotient, rounded down
pub at_most_quotient : (g : ℕ) (s c : ℤ) → 0 < g → (pos g *ℤ s) ≤ℤ c → s ≤ℤ floor_quotient c g
at_most_quotient g (pos s) (pos c) h le =
    let n : s * g ≤ c = omega (arith, ints, pos-*ℤ-pos g s, N.mul_comm g s) in
    let m : s ≤ c / g = (N.le-div_iff_mul-le h).1 n in
    omega (arith, ints)
at_most_quotient g (negsuc s) (pos c) h le = omega (arith, ints)
at_most_quotient g (pos s) (negsuc c) h le = absurd (omega (arith, ints, pos-*ℤ-pos g s))
at_most_quotient g (negsuc s) (negsuc c) h le =
    let n : c < suc s * g = omega (arith, ints, pos-*ℤ-negsuc g s, N.mul_comm g (suc s)) in
    let m : c / g < suc s = (N.div-lt_iff_lt-mul h).1 n in
    omega (arith, ints)

pub from_quotient : (g : ℕ) (s c : ℤ) → 0 < g → s ≤ℤ floor_quotient c g → (pos g *ℤ s) ≤ℤ c
from_quotient g (pos s) (pos c) h le =
    let m : s ≤ c / g = omega (arith, ints) in
    let n : s * g ≤ c = (N.le-div_iff_mul-le h).0 m in
    omega (arith, ints, pos-*ℤ-pos g s, N.mul_comm g s)
from_quotient g (negsuc s) (pos c) h le = omega (arith, ints, pos-*ℤ-negsuc g s)
from_quotient g (pos s) (negsuc c) h le = absurd (omega (arith, ints))
from_quotient g (negsuc s) (negsuc c) h le =
    let m : c / g < suc s = omega (arith, ints) in
    let n : c < suc s * g = (N.div-lt_iff_lt-mul h).0 m in
    omega (arith, ints, pos-*ℤ-negsuc g s, N.mul_comm g (suc s))

pub not_zero : (g : ℕ) → nat_eq (suc g) 0 ≡ false
not_zero g = grind (arith, nat_tests)

-- a tightened row has the same whole solutions
pub tightened_keeps : (v : ℕ → ℤ) (r : RowOf) → Meets v r ↔ Meets v (tightened r)
tightened_keeps v r = by_divisor (gcd_from 0 r.entries) (gcd_from_divides 0 r.entries).1
  where
    by_divisor : (g : ℕ) → DividesAll g r.entries → Meets v r ↔ Meets v (cond (nat_eq g 0) r (record { entries = divided g r.entries; bound = floor_quotient r.bound g }))
    by_divisor zero d = ((λ m. m), (λ m. m))
    by_divisor (suc g) d =
        let e = total_divided v (suc g) r.entries (omega arith) d in
        let s = total v (divided (suc g) r.entries) in
        rw (not_zero g) (
          (λ (m : Meets v r). at_most_quotient (suc g) s r.bound (omega arith) (rw e m)),
          (λ (m : s ≤ℤ floor_quotient r.bound (suc g)). rw e at (from_quotient (suc g) s r.bound (omega arith) m)),
        )

-- ---- the divisor is the greatest, and divides exactly

pub greatest : (d g : ℕ) (ts : List Entry) → d ∣ g → DividesAll d ts → d ∣ gcd_from g ts
greatest d g [] h a = h
greatest d g (t ∷ ts) h a = greatest d (gcd_of g (unsigned_abs t.by)) ts ((gcd_is g (unsigned_abs t.by)).2 d h a.0) a.1

pub exact_coefficient : (x g : ℕ) (ts : List Entry) → 0 < g → DividesAll g ts → pos g *ℤ coefficient x (divided g ts) ≡ coefficient x ts
exact_coefficient x g [] h d = *ℤ-zero (pos g)
exact_coefficient x g (t ∷ ts) h d = by_same (exact_coefficient x g ts h d.1) (t.variable == x)
  where
    by_same : pos g *ℤ coefficient x (divided g ts) ≡ coefficient x ts → (b : Bool) → pos g *ℤ cond b (floor_quotient t.by g) (coefficient x (divided g ts)) ≡ cond b t.by (coefficient x ts)
    by_same r true = divided_exactly g t.by h d.0
    by_same r false = r

pub tightened_exactly : (x : ℕ) (r : RowOf) → 0 < gcd_from 0 r.entries → pos (gcd_from 0 r.entries) *ℤ coefficient x (tightened r).entries ≡ coefficient x r.entries
tightened_exactly x r h = by_divisor (gcd_from 0 r.entries) h (gcd_from_divides 0 r.entries).1
  where
    by_divisor : (g : ℕ) → 0 < g → DividesAll g r.entries → pos g *ℤ coefficient x (cond (nat_eq g 0) r (record { entries = divided g r.entries; bound = floor_quotient r.bound g })).entries ≡ coefficient x r.entries
    by_divisor zero p d = absurd (omega arith)
    by_divisor (suc g) p d = rw (not_zero g) (exact_coefficient x (suc g) r.entries p d)
