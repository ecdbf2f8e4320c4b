-- Rows whose entries rise and are not zero: operations keep this, and an eliminated variable is gone.
use Rattle.std.proofs.Common.{negsuc, nat_eq, nat_le, not, ◌≡◌, ℕ, zero, suc, ◌<◌, ◌≤◌, ◌/◌, Bool, true, false, ◌||◌, ◌==◌, List, [], ◌∷◌, ℤ, pos, ◌+ℤ◌, ◌*ℤ◌, neg_ℤ, ◌<ℤ◌, refl, sym, ap, ◌∙◌, arith, cond, nat_lt}
use Rattle.std.specs.Prelude.{Result, Ok, unsigned_abs}
use Rattle.std.proofs.lemmas.Int.{ints}
use Rattle.std.proofs.lemmas.Bool.Decides.{nat_tests}
use Rattle.std.proofs.Math.IntN.{*ℤ_comm, *ℤ-zero, zero-*ℤ, suc_ℤ-*ℤ}
use Rattle.bg_base.specs.declared.exact.OutOfRange.{OutOfRange}
use Rattle.bg_base.specs.Exact.{sum_of, product_of, gcd_of}
use Rattle.bg_rows.specs.declared.entry.Entry.{Entry}
use Rattle.bg_rows.specs.Entries.{total, is_zero, coefficient}
use Rattle.bg_rows.specs.Rows.{RowOf, entry, put, multiples, put_first, beside, merged, combined, times, plus, eliminated, multiplier}
use Rattle.bg_rows.specs.Entries.{mentions, rising}
use Rattle.bg_rows.specs.Rows.{negations, denied, divided, gcd_from, tightened}
use Rattle.bg_base.specs.Exact.{negation_of, difference_of, floor_quotient}
use Rattle.bg_rows.specs.Rows.{DividesAll, IsNormal}
use Rattle.std.proofs.lemmas.Bool.{and_parts, and_from, not-true, leb-true, le-leb}
use Rattle.bg_rows.proofs.Divisors.{divided_exactly, gcd_from_divides, not_zero}
use Rattle.bg_rows.proofs.Meaning.{negation_is, first_of_two, multiplier_is, combined_is}
use Rattle.bg_base.proofs.Ring.{associates, product_of_negation}
use Rattle.bg_rows.proofs.Agree.{shared_is, abs_below, abs_above}

-- the variables rise from `low` on, and no coefficient is 0
abbrev pub Normal : ℕ → List Entry → Type 0
Normal low [] = Unit {0}
Normal low (t ∷ ts) = (low ≤ t.variable) × (is_zero t.by ≡ false) × Normal (suc t.variable) ts

abbrev pub NormalRow : RowOf → Type 0
NormalRow r = Normal 0 r.entries

pub from_rising : (low : ℕ) (ts : List Entry) → rising low ts ≡ true → Normal low ts
from_rising low [] h = tt
from_rising low (t ∷ ts) h =
    let a = and_parts (nat_le low t.variable) _ h in
    let b = and_parts (not (is_zero t.by)) _ a.1 in
    (leb-true low t.variable a.0, not-true (is_zero t.by) b.0, from_rising (suc t.variable) ts b.1)

pub to_rising : (low : ℕ) (ts : List Entry) → Normal low ts → rising low ts ≡ true
to_rising low [] n = refl
to_rising low (t ∷ ts) n =
    and_from (nat_le low t.variable) _ (le-leb low t.variable n.0)
    (and_from (not (is_zero t.by)) _ (ap not n.1) (to_rising (suc t.variable) ts n.2))

pub normal_lower : (low high : ℕ) (ts : List Entry) → low ≤ high → Normal high ts → Normal low ts
normal_lower low high [] le n = tt
normal_lower low high (t ∷ ts) le n = let h = n.0 in (omega arith, n.1, n.2)

put_normal : (low x : ℕ) (c : ℤ) (ts : List Entry) → low ≤ x → Normal (suc x) ts → Normal low (put x c ts)
put_normal low x c ts le n = by_zero (is_zero c) refl
  where
    by_zero : (z : Bool) → is_zero c ≡ z → Normal low (cond z ts (entry x c ∷ ts))
    by_zero true e = normal_lower low (suc x) ts (omega arith) n
    by_zero false e = (le, e, n)

pub multiples_normal : (low : ℕ) (k : ℤ) (ts us : List Entry) → Normal low ts → multiples k ts ≡ Ok us → Normal low us
multiples_normal low k [] us n h = let is : [] ≡ us = cc in rw (← is) tt
multiples_normal low k (t ∷ ts) us n h =
    let one = first_of_two (product_of k t.by) _ us h in
    let two = first_of_two (multiples k ts) _ us one.2 in
    let is : put t.variable one.0 two.0 ≡ us = cc in
    rw (← is) (put_normal low t.variable one.0 two.0 n.0 (multiples_normal (suc t.variable) k ts two.0 n.2 two.1))

abbrev Keeps : (List Entry → Result (List Entry) OutOfRange) → ℕ → Type 0
Keeps rest low = (us ws : List Entry) → Normal low us → rest us ≡ Ok ws → Normal low ws

first_normal : (low : ℕ) (t : Entry) (x : Result (List Entry) OutOfRange) (ws : List Entry) → low ≤ t.variable → is_zero t.by ≡ false → ((vs : List Entry) → x ≡ Ok vs → Normal (suc t.variable) vs) → put_first t x ≡ Ok ws → Normal low ws
first_normal low t x ws le z f h =
    let one = first_of_two x _ ws h in
    let is : t ∷ one.0 ≡ ws = cc in
    rw (← is) (le, z, f one.0 one.1)

beside_normal_more : (low : ℕ) (t : Entry) (rest : List Entry → Result (List Entry) OutOfRange) → low ≤ t.variable → is_zero t.by ≡ false → Keeps rest (suc t.variable) → (u : Entry) (us : List Entry) → ((low' : ℕ) → low' ≤ t.variable → (vs : List Entry) → Normal low' us → beside t rest us ≡ Ok vs → Normal low' vs) → (ws : List Entry) → Normal low (u ∷ us) → beside t rest (u ∷ us) ≡ Ok ws → Normal low ws
beside_normal_more low t rest le z k u us more ws n h = by_left (nat_lt t.variable u.variable) refl
  where
    by_right : (r : Bool) → nat_lt u.variable t.variable ≡ r → nat_lt t.variable u.variable ≡ false → Normal low ws
    by_right true e f =
        let lt : u.variable < t.variable = grind (arith, nat_tests) in
        first_normal low u (beside t rest us) ws n.0 n.1 (λ vs g. more (suc u.variable) lt vs n.2 g) (rw (f, e) at h)
    by_right false e f =
        let g = rw (f, e) at h in
        let one = first_of_two (sum_of t.by u.by) _ ws g in
        let two = first_of_two (rest us) _ ws one.2 in
        let is : put t.variable one.0 two.0 ≡ ws = cc in
        let same : t.variable ≡ u.variable = grind (arith, nat_tests) in
        let m : Normal (suc t.variable) us = rw same n.2 in
        rw (← is) (put_normal low t.variable one.0 two.0 le (k us two.0 m two.1))

    by_left : (l : Bool) → nat_lt t.variable u.variable ≡ l → Normal low ws
    by_left true e =
        let lt : t.variable < u.variable = grind (arith, nat_tests) in
        first_normal low t (rest (u ∷ us)) ws le z (λ vs g. k (u ∷ us) vs (lt, n.1, n.2) g) (rw e at h)
    by_left false e = by_right (nat_lt u.variable t.variable) refl e

beside_normal : (low : ℕ) (t : Entry) (rest : List Entry → Result (List Entry) OutOfRange) → low ≤ t.variable → is_zero t.by ≡ false → Keeps rest (suc t.variable) → Keeps (beside t rest) low
beside_normal low t rest le z k [] ws n h = first_normal low t (rest []) ws le z (λ vs g. k [] vs tt g) h
beside_normal low t rest le z k (u ∷ us) ws n h = beside_normal_more low t rest le z k u us (λ low' le' vs m g. beside_normal low' t rest le' z k us vs m g) ws n h

pub merged_normal : (low : ℕ) (ts : List Entry) → Normal low ts → Keeps (merged ts) low
merged_normal low [] n us ws m h = let is : us ≡ ws = cc in rw (← is) m
merged_normal low (t ∷ ts) n us ws m h = beside_normal low t (merged ts) n.0 n.1 (merged_normal (suc t.variable) ts n.2) us ws m h

-- ---- a coefficient is the total where its variable is 1 and each other 0

abbrev pub one_at : ℕ → ℕ → ℤ
one_at x y = cond (y == x) (pos 1) (pos 0)

times_one : (z : ℤ) → z *ℤ pos 1 ≡ z
times_one z = omega (arith, ints, *ℤ_comm z (pos 1), suc_ℤ-*ℤ (pos zero) z, zero-*ℤ z)

nothing_below : (x low : ℕ) (ts : List Entry) → x < low → Normal low ts → total (one_at x) ts ≡ pos 0
nothing_below x low [] lt n = refl
nothing_below x low (t ∷ ts) lt n =
    let le = n.0 in
    let e : (t.variable == x) ≡ false = grind (arith, nat_tests) in
    let r = nothing_below x (suc t.variable) ts (omega arith) n.2 in
    rw e (omega (arith, ints, r, *ℤ-zero t.by))

pub coefficient_is : (x low : ℕ) (ts : List Entry) → Normal low ts → coefficient x ts ≡ total (one_at x) ts
coefficient_is x low [] n = refl
coefficient_is x low (t ∷ ts) n = by_same (coefficient_is x (suc t.variable) ts n.2) (t.variable == x) refl
  where
    by_same : coefficient x ts ≡ total (one_at x) ts → (b : Bool) → (t.variable == x) ≡ b → cond b t.by (coefficient x ts) ≡ (t.by *ℤ cond b (pos 1) (pos 0)) +ℤ total (one_at x) ts
    by_same r true e =
        let same : t.variable ≡ x = grind (arith, nat_tests) in
        omega (arith, ints, times_one t.by, nothing_below x (suc t.variable) ts (omega arith) n.2)
    by_same r false e = omega (arith, ints, r, *ℤ-zero t.by)

not_zero_is : (c : ℤ) → c ≡ pos 0 → is_zero c ≡ false → ⊥
not_zero_is c e h = let g : is_zero (pos 0) ≡ false = rw e at h in cc

-- a coefficient of 0 means that the variable does not stand there, and the other way round
pub not_mentioned : (x low : ℕ) (ts : List Entry) → Normal low ts → coefficient x ts ≡ pos 0 → mentions x ts ≡ false
not_mentioned x low [] n h = refl
not_mentioned x low (t ∷ ts) n h = by_same (λ g. not_mentioned x (suc t.variable) ts n.2 g) (t.variable == x) h
  where
    by_same : (coefficient x ts ≡ pos 0 → mentions x ts ≡ false) → (b : Bool) → cond b t.by (coefficient x ts) ≡ pos 0 → (b || mentions x ts) ≡ false
    by_same r true g = absurd (not_zero_is t.by g n.1)
    by_same r false g = r g

pub no_coefficient : (x : ℕ) (ts : List Entry) → mentions x ts ≡ false → coefficient x ts ≡ pos 0
no_coefficient x [] h = refl
no_coefficient x (t ∷ ts) h = by_same (λ g. no_coefficient x ts g) (t.variable == x) h
  where
    by_same : (mentions x ts ≡ false → coefficient x ts ≡ pos 0) → (b : Bool) → (b || mentions x ts) ≡ false → cond b t.by (coefficient x ts) ≡ pos 0
    by_same r true g = absurd (cc)
    by_same r false g = r g

pub times_normal : (k : ℤ) (r s : RowOf) → NormalRow r → times k r ≡ Ok s → NormalRow s
times_normal k r s n h =
    let one = first_of_two (multiples k r.entries) _ s h in
    let two = first_of_two (product_of k r.bound) _ s one.2 in
    let is : record { entries = one.0; bound = two.0 } ≡ s = cc in
    rw (← is) (multiples_normal 0 k r.entries one.0 n one.1)

pub plus_normal : (r s t : RowOf) → NormalRow r → NormalRow s → plus r s ≡ Ok t → NormalRow t
plus_normal r s t n m h =
    let one = first_of_two (merged r.entries s.entries) _ t h in
    let two = first_of_two (sum_of r.bound s.bound) _ t one.2 in
    let is : record { entries = one.0; bound = two.0 } ≡ t = cc in
    rw (← is) (merged_normal 0 r.entries n s.entries one.0 m one.1)

pub combined_normal : (r : RowOf) (k : ℤ) (s : RowOf) (l : ℤ) (t : RowOf) → NormalRow r → NormalRow s → combined r k s l ≡ Ok t → NormalRow t
combined_normal r k s l t n m h =
    let one = first_of_two (times k r) _ t h in
    let two = first_of_two (times l s) _ t one.2 in
    plus_normal one.0 two.0 t (times_normal k r one.0 n one.1) (times_normal l s two.0 m two.1) two.2

-- the coefficients of a sum of multiples
pub combined_coefficient : (x : ℕ) (r : RowOf) (k : ℤ) (s : RowOf) (l : ℤ) (t : RowOf) → NormalRow r → NormalRow s → combined r k s l ≡ Ok t → coefficient x t.entries ≡ (k *ℤ coefficient x r.entries) +ℤ (l *ℤ coefficient x s.entries)
combined_coefficient x r k s l t n m h =
    let e = (combined_is (one_at x) r k s l t h).0 in
    let a = coefficient_is x 0 t.entries (combined_normal r k s l t n m h) in
    let b = ap (λ z. k *ℤ z) (coefficient_is x 0 r.entries n) in
    let d = ap (λ z. l *ℤ z) (coefficient_is x 0 s.entries m) in
    omega (arith, ints, e, a, b, d)

-- a variable that stands in neither row stands in no sum of theirs
pub still_gone : (x : ℕ) (r : RowOf) (k : ℤ) (s : RowOf) (l : ℤ) (t : RowOf) → NormalRow r → NormalRow s → combined r k s l ≡ Ok t → mentions x r.entries ≡ false → mentions x s.entries ≡ false → mentions x t.entries ≡ false
still_gone x r k s l t n m h a b =
    let e = combined_coefficient x r k s l t n m h in
    let p = ap (λ z. k *ℤ z) (no_coefficient x r.entries a) ∙ *ℤ-zero k in
    let q = ap (λ z. l *ℤ z) (no_coefficient x s.entries b) ∙ *ℤ-zero l in
    not_mentioned x 0 t.entries (combined_normal r k s l t n m h) (omega (arith, ints, e, p, q))

cancels : (g k l cu cl : ℤ) → g *ℤ k ≡ neg_ℤ cl → g *ℤ l ≡ cu → (k *ℤ cu) +ℤ (l *ℤ cl) ≡ pos 0
cancels g k l cu cl ek el =
    let a : k *ℤ cu ≡ l *ℤ (g *ℤ k) = ap (λ z. k *ℤ z) (sym el) ∙ sym (associates k g l) ∙ *ℤ_comm (k *ℤ g) l ∙ ap (λ z. l *ℤ z) (*ℤ_comm k g) in
    let b : l *ℤ (g *ℤ k) ≡ neg_ℤ (l *ℤ cl) = ap (λ z. l *ℤ z) ek ∙ product_of_negation l cl in
    omega (arith, ints, a, b)

-- the eliminated variable is gone
pub eliminated_gone : (x : ℕ) (up low t : RowOf) → NormalRow up → NormalRow low → pos 0 <ℤ coefficient x up.entries → coefficient x low.entries <ℤ pos 0 → eliminated up low x ≡ Ok t → mentions x t.entries ≡ false
eliminated_gone x up low t n m hu hl h =
    let cu = coefficient x up.entries in
    let cl = coefficient x low.entries in
    let a = unsigned_abs cu in
    let b = unsigned_abs cl in
    let one = first_of_two (multiplier (b / gcd_of a b)) _ t h in
    let two = first_of_two (multiplier (a / gcd_of a b)) _ t one.2 in
    let k : one.0 ≡ pos (b / gcd_of a b) = multiplier_is (b / gcd_of a b) one.0 one.1 in
    let l : two.0 ≡ pos (a / gcd_of a b) = multiplier_is (a / gcd_of a b) two.0 two.1 in
    let s = shared_is a b in
    let ek : pos (gcd_of a b) *ℤ one.0 ≡ neg_ℤ cl = ap (λ z. pos (gcd_of a b) *ℤ z) k ∙ s.0 ∙ abs_below cl hl in
    let el : pos (gcd_of a b) *ℤ two.0 ≡ cu = ap (λ z. pos (gcd_of a b) *ℤ z) l ∙ s.1 ∙ abs_above cu hu in
    let e = combined_coefficient x up one.0 low two.0 t n m two.2 in
    not_mentioned x 0 t.entries (combined_normal up one.0 low two.0 t n m two.2)
    (omega (arith, ints, e, cancels (pos (gcd_of a b)) one.0 two.0 cu cl ek el))

-- ---- tightening and denial

zero_if : (c : ℤ) → is_zero c ≡ true → c ≡ pos 0
zero_if (pos n) h = ap pos (grind (arith, nat_tests))
zero_if (negsuc n) h = absurd (cc)

not_zero_from : (c d : ℤ) → (c ≡ pos 0 → d ≡ pos 0) → is_zero d ≡ false → is_zero c ≡ false
not_zero_from c d f h = by_zero (is_zero c) refl
  where
    by_zero : (b : Bool) → is_zero c ≡ b → b ≡ false
    by_zero true e = absurd (not_zero_is d (f (zero_if c e)) h)
    by_zero false e = refl

negations_normal : (low : ℕ) (ts us : List Entry) → Normal low ts → negations ts ≡ Ok us → Normal low us
negations_normal low [] us n h = let is : [] ≡ us = cc in rw (← is) tt
negations_normal low (t ∷ ts) us n h =
    let one = first_of_two (negation_of t.by) _ us h in
    let two = first_of_two (negations ts) _ us one.2 in
    let is : entry t.variable one.0 ∷ two.0 ≡ us = cc in
    let e : one.0 ≡ neg_ℤ t.by = negation_is t.by one.0 one.1 in
    let z : is_zero one.0 ≡ false = not_zero_from one.0 t.by (λ (q : one.0 ≡ pos 0). omega (arith, ints, e, q)) n.1 in
    rw (← is) (n.0, z, negations_normal (suc t.variable) ts two.0 n.2 two.1)

pub denied_normal : (r s : RowOf) → NormalRow r → denied r ≡ Ok s → NormalRow s
denied_normal r s n h =
    let one = first_of_two (negations r.entries) _ s h in
    let two = first_of_two (difference_of (negsuc 0) r.bound) _ s one.2 in
    let is : record { entries = one.0; bound = two.0 } ≡ s = cc in
    rw (← is) (negations_normal 0 r.entries one.0 n one.1)

divided_normal : (low g : ℕ) (ts : List Entry) → 0 < g → DividesAll g ts → Normal low ts → Normal low (divided g ts)
divided_normal low g [] p d n = tt
divided_normal low g (t ∷ ts) p d n =
    let e = divided_exactly g t.by p d.0 in
    let f : floor_quotient t.by g ≡ pos 0 → t.by ≡ pos 0 = λ (q : floor_quotient t.by g ≡ pos 0). sym e ∙ ap (λ z. pos g *ℤ z) q ∙ *ℤ-zero (pos g) in
    (n.0, not_zero_from (floor_quotient t.by g) t.by f n.1, divided_normal (suc t.variable) g ts p d.1 n.2)

pub tightened_normal : (r : RowOf) → NormalRow r → NormalRow (tightened r)
tightened_normal r n = by_divisor (gcd_from 0 r.entries) (gcd_from_divides 0 r.entries).1
  where
    by_divisor : (g : ℕ) → DividesAll g r.entries → NormalRow (cond (nat_eq g 0) r (record { entries = divided g r.entries; bound = floor_quotient r.bound g }))
    by_divisor zero d = n
    by_divisor (suc g) d = rw (not_zero g) (divided_normal 0 (suc g) r.entries (omega arith) d n)

-- ---- the same, by the test

pub times_stays : (k : ℤ) (r s : RowOf) → IsNormal r → times k r ≡ Ok s → IsNormal s
times_stays k r s n h = to_rising 0 s.entries (times_normal k r s (from_rising 0 r.entries n) h)

pub multiples_stay : (k : ℤ) (ts us : List Entry) → rising 0 ts ≡ true → multiples k ts ≡ Ok us → rising 0 us ≡ true
multiples_stay k ts us n h = to_rising 0 us (multiples_normal 0 k ts us (from_rising 0 ts n) h)

pub merged_stay : (ts us ws : List Entry) → rising 0 ts ≡ true → rising 0 us ≡ true → merged ts us ≡ Ok ws → rising 0 ws ≡ true
merged_stay ts us ws n m h = to_rising 0 ws (merged_normal 0 ts (from_rising 0 ts n) us ws (from_rising 0 us m) h)

pub negations_stay : (ts us : List Entry) → rising 0 ts ≡ true → negations ts ≡ Ok us → rising 0 us ≡ true
negations_stay ts us n h = to_rising 0 us (negations_normal 0 ts us (from_rising 0 ts n) h)

pub divided_stay : (g : ℕ) (ts : List Entry) → 0 < g → g ≡ gcd_from 0 ts → rising 0 ts ≡ true → rising 0 (divided g ts) ≡ true
divided_stay g ts p e n =
    let d : DividesAll g ts = rw e (gcd_from_divides 0 ts).1 in
    to_rising 0 (divided g ts) (divided_normal 0 g ts p d (from_rising 0 ts n))

pub combined_stays : (r : RowOf) (k : ℤ) (s : RowOf) (l : ℤ) (t : RowOf) → IsNormal r → IsNormal s → combined r k s l ≡ Ok t → IsNormal t
combined_stays r k s l t n m h =
    to_rising 0 t.entries (combined_normal r k s l t (from_rising 0 r.entries n) (from_rising 0 s.entries m) h)

pub denied_stays : (r s : RowOf) → IsNormal r → denied r ≡ Ok s → IsNormal s
denied_stays r s n h = to_rising 0 s.entries (denied_normal r s (from_rising 0 r.entries n) h)

pub tightened_stays : (r : RowOf) → IsNormal r → IsNormal (tightened r)
tightened_stays r n = to_rising 0 (tightened r).entries (tightened_normal r (from_rising 0 r.entries n))

pub coefficient_stays : (x : ℕ) (r : RowOf) (k : ℤ) (s : RowOf) (l : ℤ) (t : RowOf) → IsNormal r → IsNormal s → combined r k s l ≡ Ok t → coefficient x t.entries ≡ (k *ℤ coefficient x r.entries) +ℤ (l *ℤ coefficient x s.entries)
coefficient_stays x r k s l t n m h =
    combined_coefficient x r k s l t (from_rising 0 r.entries n) (from_rising 0 s.entries m) h

pub gone : (x : ℕ) (up low t : RowOf) → IsNormal up → IsNormal low → pos 0 <ℤ coefficient x up.entries → coefficient x low.entries <ℤ pos 0 → eliminated up low x ≡ Ok t → mentions x t.entries ≡ false
gone x up low t n m hu hl h = eliminated_gone x up low t (from_rising 0 up.entries n) (from_rising 0 low.entries m) hu hl h

pub still : (x : ℕ) (r : RowOf) (k : ℤ) (s : RowOf) (l : ℤ) (t : RowOf) → IsNormal r → IsNormal s → combined r k s l ≡ Ok t → mentions x r.entries ≡ false → mentions x s.entries ≡ false → mentions x t.entries ≡ false
still x r k s l t n m h a b = still_gone x r k s l t (from_rising 0 r.entries n) (from_rising 0 s.entries m) h a b
