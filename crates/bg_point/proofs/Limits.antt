-- What the operations of back-substitution mean.
use Rattle.std.proofs.Common.{◌≡◌, ℕ, zero, suc, ◌+◌, ◌<◌, Bool, true, false, List, [], ◌∷◌, length, drop, get_or, ℤ, pos, negsuc, ◌+ℤ◌, ◌-ℤ◌, ◌*ℤ◌, neg_ℤ, ◌≤ℤ◌, ◌<ℤ◌, refl, sym, ap, ◌∙◌, arith, cond, nat_eq, subst, drop-cons, add-one}
use Rattle.std.specs.Prelude.{Result, Ok, Err, unsigned_abs, int_lt, ◌↔◌}
use Rattle.std.proofs.lemmas.Int.{ints}
use Rattle.std.proofs.lemmas.Bool.{eqb-true, eq-eqb}
use Rattle.std.proofs.lemmas.Bool.Decides.{nat_tests}
use Rattle.std.proofs.Math.IntN.{zero-*ℤ}
use Rattle.bg_base.specs.declared.exact.OutOfRange.{OutOfRange}
use Rattle.bg_base.specs.Exact.{sum_of, difference_of, product_of, negation_of, floor_quotient}
use Rattle.bg_base.proofs.Ring.{product_of_negation, negation_of_product}
use Rattle.bg_rows.specs.declared.entry.Entry.{Entry}
use Rattle.bg_rows.specs.Entries.{total, coefficient}
use Rattle.bg_rows.specs.Rows.{RowOf, Meets, IsNormal, and_then}
use Rattle.bg_rows.proofs.Meaning.{first_of_two, product_is, sum_is, difference_is, negation_is}
use Rattle.bg_rows.proofs.Divisors.{at_most_quotient, from_quotient}
use Rattle.bg_rows.proofs.Normal.{Normal, from_rising}
use Rattle.bg_point.specs.Points.{with_value, others, limit}

-- ---- the loop

step_on : (v : ℕ → ℤ) (x : ℕ) (sum : ℤ) (t : Entry) (ts : List Entry) → others v x sum (t ∷ ts) ≡ and_then (others v x sum (t ∷ [])) (λ s. others v x s ts)
step_on v x sum t ts = by_test (nat_eq x t.variable)
  where
    by_sum : (p : ℤ) (y : Result ℤ OutOfRange) → and_then y (λ s. others v x s ts) ≡ and_then (and_then y (λ s. others v x s [])) (λ s. others v x s ts)
    by_sum p (Ok s) = refl
    by_sum p (Err e) = refl

    by_product : (y : Result ℤ OutOfRange) → and_then y (λ p. and_then (sum_of sum p) (λ s. others v x s ts)) ≡ and_then (and_then y (λ p. and_then (sum_of sum p) (λ s. others v x s []))) (λ s. others v x s ts)
    by_product (Ok p) = by_sum p (sum_of sum p)
    by_product (Err e) = refl

    by_test : (b : Bool) → cond b (others v x sum ts) (and_then (product_of t.by (v t.variable)) (λ p. and_then (sum_of sum p) (λ s. others v x s ts))) ≡ and_then (cond b (Ok sum) (and_then (product_of t.by (v t.variable)) (λ p. and_then (sum_of sum p) (λ s. others v x s [])))) (λ s. others v x s ts)
    by_test true = refl
    by_test false = by_product (product_of t.by (v t.variable))

abbrev pub nothing : Entry
nothing = record { variable = 0; by = pos 0 }

pub others_more : (v : ℕ → ℤ) (x : ℕ) (sum s : ℤ) (ts : List Entry) (i : ℕ) → i < length ts → others v x sum (get_or ts i nothing ∷ []) ≡ Ok s → others v x sum (drop i ts) ≡ others v x s (drop (i + 1) ts)
others_more v x sum s ts i h e =
    rw (drop-cons ts i nothing h, add-one)
    (step_on v x sum (get_or ts i nothing) (drop (suc i) ts) ∙ ap (λ z. and_then z (λ s. others v x s (drop (suc i) ts))) e)

pub others_end : (v : ℕ → ℤ) (x : ℕ) (sum : ℤ) (ts : List Entry) (i : ℕ) (o : OutOfRange) → i < length ts → others v x sum (get_or ts i nothing ∷ []) ≡ Err o → others v x sum (drop i ts) ≡ Err o
others_end v x sum ts i o h e =
    rw (drop-cons ts i nothing h)
    (step_on v x sum (get_or ts i nothing) (drop (suc i) ts) ∙ ap (λ z. and_then z (λ s. others v x s (drop (suc i) ts))) e)

-- ---- what the sum is

pub without_x : (v : ℕ → ℤ) (x : ℕ) (z : ℤ) (low : ℕ) (ts : List Entry) → x < low → Normal low ts → total (with_value v x z) ts ≡ total v ts
without_x v x z low [] lt n = refl
without_x v x z low (t ∷ ts) lt n =
    let le = n.0 in
    let e : nat_eq t.variable x ≡ false = grind (arith, nat_tests) in
    let r = without_x v x z (suc t.variable) ts (omega arith) n.2 in
    rw e (ap (λ s. (t.by *ℤ v t.variable) +ℤ s) r)

-- where x stands behind, the others are all
others_all : (v : ℕ → ℤ) (x : ℕ) (sum s : ℤ) (low : ℕ) (ts : List Entry) → x < low → Normal low ts → others v x sum ts ≡ Ok s → s ≡ sum +ℤ total v ts
others_all v x sum s low [] lt n h = let is : sum ≡ s = cc in omega (arith, ints, is)
others_all v x sum s low (t ∷ ts) lt n h =
    let le = n.0 in
    let e : nat_eq x t.variable ≡ false = grind (arith, nat_tests) in
    let g = rw e at h in
    let one = first_of_two (product_of t.by (v t.variable)) _ s g in
    let two = first_of_two (sum_of sum one.0) _ s one.2 in
    let r = others_all v x two.0 s (suc t.variable) ts (omega arith) n.2 two.2 in
    omega (arith, ints, r, product_is t.by (v t.variable) one.0 one.1, sum_is sum one.0 two.0 two.1)

no_coefficient_below : (x low : ℕ) (ts : List Entry) → x < low → Normal low ts → coefficient x ts ≡ pos 0
no_coefficient_below x low [] lt n = refl
no_coefficient_below x low (t ∷ ts) lt n =
    let le = n.0 in
    let e : nat_eq t.variable x ≡ false = grind (arith, nat_tests) in
    rw e (no_coefficient_below x (suc t.variable) ts (omega arith) n.2)

-- the total at another value of x
pub others_is : (v : ℕ → ℤ) (x : ℕ) (z sum s : ℤ) (low : ℕ) (ts : List Entry) → Normal low ts → others v x sum ts ≡ Ok s → sum +ℤ total (with_value v x z) ts ≡ s +ℤ (coefficient x ts *ℤ z)
others_is v x z sum s low [] n h = let is : sum ≡ s = cc in omega (arith, ints, is, zero-*ℤ z)
others_is v x z sum s low (t ∷ ts) n h = by_test (λ s2 sum2 g. others_is v x z sum2 s2 (suc t.variable) ts n.2 g) (nat_eq x t.variable) refl (nat_eq t.variable x) refl h
  where
    by_test : ((s2 sum2 : ℤ) → others v x sum2 ts ≡ Ok s2 → sum2 +ℤ total (with_value v x z) ts ≡ s2 +ℤ (coefficient x ts *ℤ z)) → (b : Bool) → nat_eq x t.variable ≡ b → (d : Bool) → nat_eq t.variable x ≡ d → cond b (others v x sum ts) (and_then (product_of t.by (v t.variable)) (λ p. and_then (sum_of sum p) (λ s. others v x s ts))) ≡ Ok s → sum +ℤ ((t.by *ℤ cond d z (v t.variable)) +ℤ total (with_value v x z) ts) ≡ s +ℤ (cond d t.by (coefficient x ts) *ℤ z)
    by_test f true e true d g =
        let same : x ≡ t.variable = eqb-true x t.variable e in
        let lt : x < suc t.variable = omega arith in
        omega (arith, ints, others_all v x sum s (suc t.variable) ts lt n.2 g, without_x v x z (suc t.variable) ts lt n.2)
    by_test f true e false d g = let same : t.variable ≡ x = sym (eqb-true x t.variable e) in let k = eq-eqb t.variable x same in absurd (cc)
    by_test f false e true d g = let same : x ≡ t.variable = sym (eqb-true t.variable x d) in let k = eq-eqb x t.variable same in absurd (cc)
    by_test f false e false d g =
        let one = first_of_two (product_of t.by (v t.variable)) _ s g in
        let two = first_of_two (sum_of sum one.0) _ s one.2 in
        let r = f s two.0 two.2 in
        omega (arith, ints, r, product_is t.by (v t.variable) one.0 one.1, sum_is sum one.0 two.0 two.1)

-- ---- what the limit is

at_quotient : (g : ℕ) (s c : ℤ) → 0 < g → ((pos g *ℤ s) ≤ℤ c) ↔ (s ≤ℤ floor_quotient c g)
at_quotient g s c h = (at_most_quotient g s c h, from_quotient g s c h)

-- what the row says of z, by the sum of the others
pub meets_as : (v : ℕ → ℤ) (x : ℕ) (z s : ℤ) (r : RowOf) → IsNormal r → others v x (pos 0) r.entries ≡ Ok s → total (with_value v x z) r.entries ≡ s +ℤ (coefficient x r.entries *ℤ z)
meets_as v x z s r n h = omega (arith, ints, others_is v x z (pos 0) s 0 r.entries (from_rising 0 r.entries n) h)

product_above : (c z left : ℤ) → pos 0 <ℤ c → ((c *ℤ z) ≤ℤ left) ↔ (z ≤ℤ floor_quotient left (unsigned_abs c))
product_above (pos zero) z left h = absurd (omega (arith, ints))
product_above (pos (suc n)) z left h = at_quotient (suc n) z left (omega arith)
product_above (negsuc n) z left h = absurd (omega (arith, ints))

product_below : (c z left : ℤ) → c <ℤ pos 0 → ((c *ℤ z) ≤ℤ left) ↔ (neg_ℤ (floor_quotient left (unsigned_abs c)) ≤ℤ z)
product_below (pos n) z left h = absurd (omega (arith, ints))
product_below (negsuc n) z left h =
    let q = at_quotient (suc n) (neg_ℤ z) left (omega arith) in
    let e : negsuc n *ℤ z ≡ pos (suc n) *ℤ neg_ℤ z = negation_of_product (pos (suc n)) z ∙ sym (product_of_negation (pos (suc n)) z) in
    ((λ m. let k = q.0 (rw e at m) in omega (arith, ints, k)), (λ m. rw e (q.1 (omega (arith, ints, m)))))

pub record LimitParts (v : ℕ → ℤ) (x : ℕ) (r : RowOf) (b : ℤ) : Type 0 where
  pub sum : ℤ
  pub is_sum : others v x (pos 0) r.entries ≡ Ok sum
  pub bound : cond (int_lt (pos 0) (coefficient x r.entries)) (Ok (floor_quotient (r.bound -ℤ sum) (unsigned_abs (coefficient x r.entries)))) (negation_of (floor_quotient (r.bound -ℤ sum) (unsigned_abs (coefficient x r.entries)))) ≡ Ok b

limit_parts : (v : ℕ → ℤ) (x : ℕ) (r : RowOf) (b : ℤ) → limit v x r ≡ Ok b → LimitParts v x r b
limit_parts v x r b h =
    let one = first_of_two (others v x (pos 0) r.entries) _ b h in
    let two = first_of_two (difference_of r.bound one.0) _ b one.2 in
    let e = difference_is r.bound one.0 two.0 two.1 in
    record { sum = one.0; is_sum = one.1; bound = subst (λ (l : ℤ). cond (int_lt (pos 0) (coefficient x r.entries)) (Ok (floor_quotient l (unsigned_abs (coefficient x r.entries)))) (negation_of (floor_quotient l (unsigned_abs (coefficient x r.entries)))) ≡ Ok b) e two.2 }

is_above : (c : ℤ) → pos 0 <ℤ c → int_lt (pos 0) c ≡ true
is_above c h = grind (arith, ints)

is_below : (c : ℤ) → c <ℤ pos 0 → int_lt (pos 0) c ≡ false
is_below c h = grind (arith, ints)

-- from above: exactly the values of at most the limit meet the row
pub limit_above : (v : ℕ → ℤ) (x : ℕ) (r : RowOf) (b z : ℤ) → IsNormal r → pos 0 <ℤ coefficient x r.entries → limit v x r ≡ Ok b → Meets (with_value v x z) r ↔ (z ≤ℤ b)
limit_above v x r b z n h e =
    let p = limit_parts v x r b e in
    let t = meets_as v x z p.sum r n p.is_sum in
    let q = product_above (coefficient x r.entries) z (r.bound -ℤ p.sum) h in
    let g = rw (is_above (coefficient x r.entries) h) at p.bound in
    let is : floor_quotient (r.bound -ℤ p.sum) (unsigned_abs (coefficient x r.entries)) ≡ b = cc in
    ((λ m. let k = q.0 (omega (arith, ints, t, m)) in omega (arith, ints, k, is)), (λ m. let k = q.1 (omega (arith, ints, m, is)) in omega (arith, ints, t, k)))

-- from below: exactly those of at least the limit
pub limit_below : (v : ℕ → ℤ) (x : ℕ) (r : RowOf) (b z : ℤ) → IsNormal r → coefficient x r.entries <ℤ pos 0 → limit v x r ≡ Ok b → Meets (with_value v x z) r ↔ (b ≤ℤ z)
limit_below v x r b z n h e =
    let p = limit_parts v x r b e in
    let t = meets_as v x z p.sum r n p.is_sum in
    let q = product_below (coefficient x r.entries) z (r.bound -ℤ p.sum) h in
    let g = rw (is_below (coefficient x r.entries) h) at p.bound in
    let is : b ≡ neg_ℤ (floor_quotient (r.bound -ℤ p.sum) (unsigned_abs (coefficient x r.entries))) = negation_is _ b g in
    ((λ m. let k = q.0 (omega (arith, ints, t, m)) in omega (arith, ints, k, is)), (λ m. let k = q.1 (omega (arith, ints, m, is)) in omega (arith, ints, t, k)))
