-- An eliminated row that is met makes the two bounds agree.
use Rattle.std.proofs.Common.{◌≡◌, ℕ, ◌/◌, ℤ, pos, negsuc, ◌+ℤ◌, ◌-ℤ◌, ◌*ℤ◌, neg_ℤ, ◌≤ℤ◌, ◌<ℤ◌, refl, sym, ap, ◌∙◌, arith}
use Rattle.std.specs.Prelude.{Ok, unsigned_abs}
use Rattle.std.proofs.lemmas.Int.{ints}
use Rattle.std.proofs.Math.IntN.{*ℤ_comm, pos-*ℤ-pos}
use Rattle.bg_base.specs.Exact.{gcd_of}
use Rattle.bg_base.proofs.Euclid.{gcd_is}
use Rattle.bg_base.proofs.Ring.{distributes, product_of_negation, negation_of_product, associates, keeps_order}
use Rattle.bg_rows.specs.Entries.{total, coefficient}
use Rattle.bg_rows.specs.Rows.{RowOf, Meets, multiplier, eliminated}
use Rattle.bg_rows.specs.Rows.{left_for}
use Rattle.bg_rows.proofs.Meaning.{first_of_two, multiplier_is, combined_is}
use Rattle.bg_rows.proofs.Divisors.{exact}

pub abs_above : (z : ℤ) → pos 0 <ℤ z → pos (unsigned_abs z) ≡ z
abs_above (pos n) h = refl
abs_above (negsuc n) h = absurd (omega (arith, ints))

pub abs_below : (z : ℤ) → z <ℤ pos 0 → pos (unsigned_abs z) ≡ neg_ℤ z
abs_below (pos n) h = absurd (omega (arith, ints))
abs_below (negsuc n) h = refl

times_difference : (k a b : ℤ) → k *ℤ (a -ℤ b) ≡ (k *ℤ a) -ℤ (k *ℤ b)
times_difference k a b = omega (arith, ints, distributes k a (neg_ℤ b), product_of_negation k b)

-- the arithmetic alone: cu and cl are the coefficients, tu and tl the sums, bu and bl the bounds, x the variable's value
cross : (g k l cu cl tu tl bu bl x : ℤ) → pos 0 ≤ℤ g → g *ℤ k ≡ neg_ℤ cl → g *ℤ l ≡ cu → ((k *ℤ tu) +ℤ (l *ℤ tl)) ≤ℤ ((k *ℤ bu) +ℤ (l *ℤ bl)) → (neg_ℤ cu *ℤ (bl -ℤ (tl -ℤ (cl *ℤ x)))) ≤ℤ (neg_ℤ cl *ℤ (bu -ℤ (tu -ℤ (cu *ℤ x))))
cross g k l cu cl tu tl bu bl x pg ek el h =
    let a = keeps_order g ((k *ℤ tu) +ℤ (l *ℤ tl)) ((k *ℤ bu) +ℤ (l *ℤ bl)) pg h in
    let b1 = distributes g (k *ℤ tu) (l *ℤ tl) in
    let b2 = distributes g (k *ℤ bu) (l *ℤ bl) in
    let c1 = sym (associates g k tu) ∙ ap (λ z. z *ℤ tu) ek in
    let c2 = sym (associates g l tl) ∙ ap (λ z. z *ℤ tl) el in
    let c3 = sym (associates g k bu) ∙ ap (λ z. z *ℤ bu) ek in
    let c4 = sym (associates g l bl) ∙ ap (λ z. z *ℤ bl) el in
    let sum : ((neg_ℤ cl *ℤ tu) +ℤ (cu *ℤ tl)) ≤ℤ ((neg_ℤ cl *ℤ bu) +ℤ (cu *ℤ bl)) = omega (arith, ints, a, b1, b2, c1, c2, c3, c4) in
    let d1 = times_difference (neg_ℤ cu) bl (tl -ℤ (cl *ℤ x)) in
    let d2 = times_difference (neg_ℤ cu) tl (cl *ℤ x) in
    let d3 = times_difference (neg_ℤ cl) bu (tu -ℤ (cu *ℤ x)) in
    let d4 = times_difference (neg_ℤ cl) tu (cu *ℤ x) in
    let e1 = negation_of_product cu bl in
    let e2 = negation_of_product cu tl in
    let e3 = negation_of_product cu (cl *ℤ x) in
    let e4 = negation_of_product cl (cu *ℤ x) in
    let f : cu *ℤ (cl *ℤ x) ≡ cl *ℤ (cu *ℤ x) = sym (associates cu cl x) ∙ ap (λ z. z *ℤ x) (*ℤ_comm cu cl) ∙ associates cl cu x in
    omega (arith, ints, sum, d1, d2, d3, d4, e1, e2, e3, e4, f)

pub shared_is : (n m : ℕ) → (pos (gcd_of n m) *ℤ pos (m / gcd_of n m) ≡ pos m) × (pos (gcd_of n m) *ℤ pos (n / gcd_of n m) ≡ pos n)
shared_is n m = (
  pos-*ℤ-pos (gcd_of n m) (m / gcd_of n m) ∙ ap pos (exact (gcd_of n m) m (gcd_is n m).1),
  pos-*ℤ-pos (gcd_of n m) (n / gcd_of n m) ∙ ap pos (exact (gcd_of n m) n (gcd_is n m).0),
)

pub eliminated_agrees : (v : ℕ → ℤ) (up low t : RowOf) (x : ℕ) → pos 0 <ℤ coefficient x up.entries → coefficient x low.entries <ℤ pos 0 → eliminated up low x ≡ Ok t → Meets v t → (neg_ℤ (coefficient x up.entries) *ℤ left_for v x low) ≤ℤ (neg_ℤ (coefficient x low.entries) *ℤ left_for v x up)
eliminated_agrees v up low t x hu hl h m =
    let cu = coefficient x up.entries in
    let cl = coefficient x low.entries in
    let a = unsigned_abs cu in
    let b = unsigned_abs cl in
    let one = first_of_two (multiplier (b / gcd_of a b)) _ t h in
    let two = first_of_two (multiplier (a / gcd_of a b)) _ t one.2 in
    let k : one.0 ≡ pos (b / gcd_of a b) = multiplier_is (b / gcd_of a b) one.0 one.1 in
    let l : two.0 ≡ pos (a / gcd_of a b) = multiplier_is (a / gcd_of a b) two.0 two.1 in
    let s = shared_is a b in
    let is = combined_is v up one.0 low two.0 t two.2 in
    let ek : pos (gcd_of a b) *ℤ one.0 ≡ neg_ℤ cl = ap (λ z. pos (gcd_of a b) *ℤ z) k ∙ s.0 ∙ abs_below cl hl in
    let el : pos (gcd_of a b) *ℤ two.0 ≡ cu = ap (λ z. pos (gcd_of a b) *ℤ z) l ∙ s.1 ∙ abs_above cu hu in
    cross (pos (gcd_of a b)) one.0 two.0 cu cl (total v up.entries) (total v low.entries) up.bound low.bound (v x) (omega (arith, ints)) ek el (omega (arith, ints, is.0, is.1, m))
