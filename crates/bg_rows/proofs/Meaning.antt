-- What the operations on rows mean.
use Rattle.std.proofs.Common.{◌≡◌, ℕ, ◌/◌, Bool, true, false, List, [], ◌∷◌, ℤ, pos, negsuc, ◌+ℤ◌, ◌-ℤ◌, ◌*ℤ◌, neg_ℤ, ◌≤ℤ◌, ◌<ℤ◌, refl, sym, ap, ◌∙◌, arith, cond, nat_lt}
use Rattle.std.specs.Prelude.{Result, Ok, Err, ◌^◌, unsigned_abs}
use Rattle.std.proofs.lemmas.Int.{ints, by_lt_z}
use Rattle.std.proofs.lemmas.Bool.Decides.{nat_tests}
use Rattle.std.proofs.Math.IntN.{*ℤ-zero, zero-*ℤ}
use Rattle.bg_base.specs.declared.exact.OutOfRange.{OutOfRange}
use Rattle.bg_base.specs.Exact.{fits, sum_of, product_of, negation_of, difference_of, gcd_of}
use Rattle.bg_base.proofs.Ring.{distributes, distributes_right, negation_of_product, associates, keeps_order}
use Rattle.bg_rows.specs.declared.entry.Entry.{Entry}
use Rattle.bg_rows.specs.Entries.{total, is_zero, coefficient}
use Rattle.bg_rows.specs.Rows.{RowOf, Meets, and_then, entry, put, multiples, times, put_first, beside, merged, plus, combined, negations, denied, multiplier, eliminated}

-- ---- what an answer Ok comes from

pub first_of_two : {A B E : Type 0} (x : Result A E) (f : A → Result B E) (b : B) → and_then x f ≡ Ok b → (a : A) × (x ≡ Ok a) × (f a ≡ Ok b)
first_of_two (Ok a) f b h = (a, refl, h)
first_of_two (Err e) f b h = absurd (cc)

chosen : {E : Type 0} (e : E) (t : Bool) (c d : ℤ) → cond t (Ok c) (Err e) ≡ Ok d → d ≡ c
chosen e true c d h = cc
chosen e false c d h = absurd (cc)

pub product_is : (a b c : ℤ) → product_of a b ≡ Ok c → c ≡ a *ℤ b
product_is a b c h = chosen _ (fits (a *ℤ b)) (a *ℤ b) c h

pub sum_is : (a b c : ℤ) → sum_of a b ≡ Ok c → c ≡ a +ℤ b
sum_is a b c h = chosen _ (fits (a +ℤ b)) (a +ℤ b) c h

pub difference_is : (a b c : ℤ) → difference_of a b ≡ Ok c → c ≡ a -ℤ b
difference_is a b c h = chosen _ (fits (a -ℤ b)) (a -ℤ b) c h

pub negation_is : (a c : ℤ) → negation_of a ≡ Ok c → c ≡ neg_ℤ a
negation_is a c h = chosen _ (fits (neg_ℤ a)) (neg_ℤ a) c h

zero_is : (c : ℤ) → is_zero c ≡ true → c ≡ pos 0
zero_is (pos n) h = ap pos (grind (arith, nat_tests))
zero_is (negsuc n) h = absurd (cc)

pub total_put : (v : ℕ → ℤ) (x : ℕ) (c : ℤ) (ts : List Entry) → total v (put x c ts) ≡ (c *ℤ v x) +ℤ total v ts
total_put v x c ts = by_zero (is_zero c) refl
  where
    by_zero : (z : Bool) → is_zero c ≡ z → total v (cond z ts (entry x c ∷ ts)) ≡ (c *ℤ v x) +ℤ total v ts
    by_zero true h = omega (arith, ints, ap (λ d. d *ℤ v x) (zero_is c h), zero-*ℤ (v x))
    by_zero false h = refl

pub total_multiples : (v : ℕ → ℤ) (k : ℤ) (ts us : List Entry) → multiples k ts ≡ Ok us → total v us ≡ k *ℤ total v ts
total_multiples v k [] us h = ap (total v) {x = us} {y = []} (cc) ∙ sym (*ℤ-zero k)
total_multiples v k (t ∷ ts) us h =
    let one = first_of_two (product_of k t.by) _ us h in
    let two = first_of_two (multiples k ts) _ us one.2 in
    let is : us ≡ put t.variable one.0 two.0 = cc in
    let rest = total_multiples v k ts two.0 two.1 in
    ap (total v) is
    ∙ total_put v t.variable one.0 two.0
    ∙ ap (λ c. (c *ℤ v t.variable) +ℤ total v two.0) (product_is k t.by one.0 one.1)
    ∙ omega (arith, ints, associates k t.by (v t.variable), distributes k (t.by *ℤ v t.variable) (total v ts), rest)

pub total_put_first : (v : ℕ → ℤ) (t : Entry) (x : Result (List Entry) OutOfRange) (us : List Entry) → put_first t x ≡ Ok us → (ts : List Entry) × (x ≡ Ok ts) × (total v us ≡ (t.by *ℤ v t.variable) +ℤ total v ts)
total_put_first v t x us h =
    let one = first_of_two x _ us h in
    (one.0, one.1, ap (total v) {x = us} {y = t ∷ one.0} (cc))

-- where `rest` adds the entries ts, `beside t rest` adds t as well
abbrev Adds : (ℕ → ℤ) → (List Entry → Result (List Entry) OutOfRange) → ℤ → Type 0
Adds v rest sum = (us ws : List Entry) → rest us ≡ Ok ws → total v ws ≡ sum +ℤ total v us

beside_more : (v : ℕ → ℤ) (t : Entry) (rest : List Entry → Result (List Entry) OutOfRange) (sum : ℤ) → Adds v rest sum → (u : Entry) (us : List Entry) → ((ws : List Entry) → beside t rest us ≡ Ok ws → total v ws ≡ ((t.by *ℤ v t.variable) +ℤ sum) +ℤ total v us) → (ws : List Entry) → beside t rest (u ∷ us) ≡ Ok ws → total v ws ≡ ((t.by *ℤ v t.variable) +ℤ sum) +ℤ total v (u ∷ us)
beside_more v t rest sum adds u us more ws h = by_left (nat_lt t.variable u.variable) refl
  where
    by_right : (r : Bool) → nat_lt u.variable t.variable ≡ r → nat_lt t.variable u.variable ≡ false → total v ws ≡ ((t.by *ℤ v t.variable) +ℤ sum) +ℤ total v (u ∷ us)
    by_right true e n =
        let one = total_put_first v u (beside t rest us) ws (rw (n, e) at h) in
        omega (arith, ints, one.2, more one.0 one.1)
    by_right false e n =
        let g = rw (n, e) at h in
        let one = first_of_two (sum_of t.by u.by) _ ws g in
        let two = first_of_two (rest us) _ ws one.2 in
        let is : ws ≡ put t.variable one.0 two.0 = cc in
        let same : t.variable ≡ u.variable = grind (arith, nat_tests) in
        ap (total v) is
        ∙ total_put v t.variable one.0 two.0
        ∙ ap (λ c. (c *ℤ v t.variable) +ℤ total v two.0) (sum_is t.by u.by one.0 one.1)
        ∙ omega (arith, ints, distributes_right t.by u.by (v t.variable), adds us two.0 two.1, ap (λ x. u.by *ℤ v x) same)

    by_left : (l : Bool) → nat_lt t.variable u.variable ≡ l → total v ws ≡ ((t.by *ℤ v t.variable) +ℤ sum) +ℤ total v (u ∷ us)
    by_left true e =
        let one = total_put_first v t (rest (u ∷ us)) ws (rw e at h) in
        omega (arith, ints, one.2, adds (u ∷ us) one.0 one.1)
    by_left false e = by_right (nat_lt u.variable t.variable) refl e

beside_adds : (v : ℕ → ℤ) (t : Entry) (rest : List Entry → Result (List Entry) OutOfRange) (sum : ℤ) → Adds v rest sum → Adds v (beside t rest) ((t.by *ℤ v t.variable) +ℤ sum)
beside_adds v t rest sum adds [] ws h =
    let one = total_put_first v t (rest []) ws h in
    omega (arith, ints, one.2, adds [] one.0 one.1)
beside_adds v t rest sum adds (u ∷ us) ws h = beside_more v t rest sum adds u us (beside_adds v t rest sum adds us) ws h

pub total_merged : (v : ℕ → ℤ) (ts : List Entry) → Adds v (merged ts) (total v ts)
total_merged v [] us ws h = ap (total v) {x = ws} {y = us} (cc) ∙ omega (arith, ints)
total_merged v (t ∷ ts) us ws h = beside_adds v t (merged ts) (total v ts) (total_merged v ts) us ws h

pub total_negations : (v : ℕ → ℤ) (ts us : List Entry) → negations ts ≡ Ok us → total v us ≡ neg_ℤ (total v ts)
total_negations v [] us h = ap (total v) {x = us} {y = []} (cc)
total_negations v (t ∷ ts) us h =
    let one = first_of_two (negation_of t.by) _ us h in
    let two = first_of_two (negations ts) _ us one.2 in
    let rest = total_negations v ts two.0 two.1 in
    ap (total v) {x = us} {y = entry t.variable one.0 ∷ two.0} (cc)
    ∙ ap (λ c. (c *ℤ v t.variable) +ℤ total v two.0) (negation_is t.by one.0 one.1)
    ∙ omega (arith, ints, negation_of_product t.by (v t.variable), rest)

-- ---- rows

pub times_is : (v : ℕ → ℤ) (k : ℤ) (r s : RowOf) → times k r ≡ Ok s → (total v s.entries ≡ k *ℤ total v r.entries) × (s.bound ≡ k *ℤ r.bound)
times_is v k r s h =
    let one = first_of_two (multiples k r.entries) _ s h in
    let two = first_of_two (product_of k r.bound) _ s one.2 in
    let is : s ≡ record { entries = one.0; bound = two.0 } = cc in
    (ap (λ x. total v x.entries) is ∙ total_multiples v k r.entries one.0 one.1, ap (λ x. x.bound) is ∙ product_is k r.bound two.0 two.1)

pub plus_is : (v : ℕ → ℤ) (r s t : RowOf) → plus r s ≡ Ok t → (total v t.entries ≡ total v r.entries +ℤ total v s.entries) × (t.bound ≡ r.bound +ℤ s.bound)
plus_is v r s t h =
    let one = first_of_two (merged r.entries s.entries) _ t h in
    let two = first_of_two (sum_of r.bound s.bound) _ t one.2 in
    let is : t ≡ record { entries = one.0; bound = two.0 } = cc in
    (ap (λ x. total v x.entries) is ∙ total_merged v r.entries s.entries one.0 one.1, ap (λ x. x.bound) is ∙ sum_is r.bound s.bound two.0 two.1)

-- a sum of multiples is the exact one
pub combined_is : (v : ℕ → ℤ) (r : RowOf) (k : ℤ) (s : RowOf) (l : ℤ) (t : RowOf) → combined r k s l ≡ Ok t → (total v t.entries ≡ (k *ℤ total v r.entries) +ℤ (l *ℤ total v s.entries)) × (t.bound ≡ (k *ℤ r.bound) +ℤ (l *ℤ s.bound))
combined_is v r k s l t h =
    let one = first_of_two (times k r) _ t h in
    let two = first_of_two (times l s) _ t one.2 in
    let x = times_is v k r one.0 one.1 in
    let y = times_is v l s two.0 two.1 in
    let z = plus_is v one.0 two.0 t two.2 in
    (omega (arith, ints, x.0, y.0, z.0), omega (arith, ints, x.1, y.1, z.1))

-- and follows, where the multipliers are at least 0
pub combined_follows : (v : ℕ → ℤ) (r : RowOf) (k : ℤ) (s : RowOf) (l : ℤ) (t : RowOf) → pos 0 ≤ℤ k → pos 0 ≤ℤ l → combined r k s l ≡ Ok t → Meets v r → Meets v s → Meets v t
combined_follows v r k s l t p q h a b =
    let e = combined_is v r k s l t h in
    omega (arith, ints, e.0, e.1, keeps_order k (total v r.entries) r.bound p a, keeps_order l (total v s.entries) s.bound q b)

-- a row's denial holds exactly where it does not
pub denied_is : (v : ℕ → ℤ) (r s : RowOf) → denied r ≡ Ok s → (total v s.entries ≡ neg_ℤ (total v r.entries)) × (s.bound ≡ negsuc 0 -ℤ r.bound)
denied_is v r s h =
    let one = first_of_two (negations r.entries) _ s h in
    let two = first_of_two (difference_of (negsuc 0) r.bound) _ s one.2 in
    let is : s ≡ record { entries = one.0; bound = two.0 } = cc in
    (ap (λ x. total v x.entries) is ∙ total_negations v r.entries one.0 one.1, ap (λ x. x.bound) is ∙ difference_is (negsuc 0) r.bound two.0 two.1)

pub denied_follows : (v : ℕ → ℤ) (r s : RowOf) → denied r ≡ Ok s → (Meets v r → ⊥) → Meets v s
denied_follows v r s h n =
    let e = denied_is v r s h in
    by_lt_z r.bound (total v r.entries) (λ (lt : r.bound <ℤ total v r.entries). omega (arith, ints, e.0, e.1)) (λ (le : total v r.entries ≤ℤ r.bound). absurd (n le))

pub denied_denies : (v : ℕ → ℤ) (r s : RowOf) → denied r ≡ Ok s → Meets v s → Meets v r → ⊥
denied_denies v r s h a b = let e = denied_is v r s h in omega (arith, ints, e.0, e.1)

pub multiplier_is : (n : ℕ) (k : ℤ) → multiplier n ≡ Ok k → k ≡ pos n
multiplier_is n k h = by_size (nat_lt n (2 ^ 127)) h
  where
    by_size : (b : Bool) → cond b (Ok (pos n)) (negation_of (neg_ℤ (pos n))) ≡ Ok k → k ≡ pos n
    by_size true h = cc
    by_size false h = negation_is (neg_ℤ (pos n)) k h ∙ omega (arith, ints)

-- what is left after an elimination follows
pub eliminated_follows : (v : ℕ → ℤ) (r s t : RowOf) (x : ℕ) → eliminated r s x ≡ Ok t → Meets v r → Meets v s → Meets v t
eliminated_follows v r s t x h a b =
    let n = unsigned_abs (coefficient x r.entries) in
    let m = unsigned_abs (coefficient x s.entries) in
    let one = first_of_two (multiplier (m / gcd_of n m)) _ t h in
    let two = first_of_two (multiplier (n / gcd_of n m)) _ t one.2 in
    let k : one.0 ≡ pos (m / gcd_of n m) = multiplier_is (m / gcd_of n m) one.0 one.1 in
    let l : two.0 ≡ pos (n / gcd_of n m) = multiplier_is (n / gcd_of n m) two.0 two.1 in
    combined_follows v r one.0 s two.0 t (omega (arith, ints, k)) (omega (arith, ints, l)) two.2 a b
