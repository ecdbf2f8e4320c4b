-- Sets in words of 64 bits: a mask, the clearing of a bit, and words that are equal bit by bit.
use Rattle.std.proofs.Common.{◌≡◌, ℕ, ◌-◌, ◌/◌, ◌%◌, ◌^◌, ◌<◌, ◌≢◌, min, Bool, true, false, not, ◌&&◌, eqb, List, get_or, set, length, sym, refl, ap, ◌∙◌, arith, bit_and, get_or-set_same, get_or-set_other, eq-eqb, ne_eqb}
use Rattle.std.specs.Int.{bit_at}
use Rattle.std.proofs.lemmas.Nat.Bits.{bit_at_clear_same, bit_at_clear_other, bit_at_and, bit_at_ones, bit_at-lt}
use mir.Syntax.{w64}
use mathlib.Core.Logic.{dite}
use native.Mathlib.Decide.{ℕ_discrete}
use Rattle.bg_words.specs.Sets.{bit, present, mask}

-- bit c % 64 is the one that a mask lacks
mask_here : (c : ℕ) → bit_at (mask c) (c % 64) ≡ 0
mask_here c = let lt : c % 64 < 64 = omega arith in let a = bit_at_clear_same w64 (2 ^ 64 - 1) (c % 64) lt in let b = bit_at_and (2 ^ 64 - 1) (mask c) (c % 64) in let d = bit_at_ones 64 (c % 64) lt in
    let x : ℕ = bit_at (mask c) (c % 64) in let e : min (bit_at (2 ^ 64 - 1) (c % 64)) x ≡ 0 = sym b ∙ a in let f : min 1 x ≡ 0 = ap (λ (y : ℕ). min y x) (sym d) ∙ e in omega arith

mask_there : (c k : ℕ) → k < 64 → k ≢ c % 64 → bit_at (mask c) k ≡ 1
mask_there c k small other = let lt : c % 64 < 64 = omega arith in let a = bit_at_clear_other w64 (2 ^ 64 - 1) (c % 64) lt k small other in let b = bit_at_and (2 ^ 64 - 1) (mask c) k in let d = bit_at_ones 64 k small in
    let x : ℕ = bit_at (mask c) k in let e : min (bit_at (2 ^ 64 - 1) k) x ≡ bit_at (2 ^ 64 - 1) k = sym b ∙ a in let f : min 1 x ≡ 1 = ap (λ (y : ℕ). min y x) (sym d) ∙ (e ∙ d) in
    let two = bit_at-lt (mask c) k in omega arith

pub mask_same : (c c' : ℕ) → mask c ≡ mask c' → c % 64 ≡ c' % 64
mask_same c c' e = dite (ℕ_discrete (c % 64) (c' % 64)) (λ s. s)
    (λ other. let a = mask_here c in let b = mask_there c' (c % 64) (omega arith) other in let d : bit_at (mask c) (c % 64) ≡ bit_at (mask c') (c % 64) = ap (λ (m : ℕ). bit_at m (c % 64)) e in absurd (omega arith))

-- the words after the clearing of a bit
pub present_after : (ws : List ℕ) (c : ℕ) → c / 64 < length ws → (d : ℕ) → present ws d && not (eqb d c) ≡ present (set ws (c / 64) (bit_and (get_or ws (c / 64) 0) (mask c))) d
present_after ws c inside d = let x : ℕ = get_or ws (c / 64) 0 in dite (ℕ_discrete (d / 64) (c / 64))
    (λ same. let here : get_or (set ws (c / 64) (bit_and x (mask c))) (d / 64) 0 ≡ bit_and x (mask c) = ap (λ (i : ℕ). get_or (set ws (c / 64) (bit_and x (mask c))) i 0) same ∙ get_or-set_same ws (c / 64) (bit_and x (mask c)) 0 inside in
    let old : get_or ws (d / 64) 0 ≡ x = ap (λ (i : ℕ). get_or ws i 0) same in
    dite (ℕ_discrete (d % 64) (c % 64))
    (λ bit_same. let is : d ≡ c = omega arith in
    let off : bit (bit_and x (mask c)) (d % 64) ≡ false = ap (λ (b : ℕ). eqb b 1) (ap (λ (i : ℕ). bit_at (bit_and x (mask c)) i) bit_same ∙ bit_at_clear_same w64 x (c % 64) (omega arith)) in
    and_off (present ws d) (eqb d c) (eq-eqb d c is) ∙ sym (ap (λ (y : ℕ). bit y (d % 64)) here ∙ off))
    (λ bit_other. let ne : d ≢ c = λ z. bit_other (ap (λ (i : ℕ). i % 64) z) in
    let kept : bit (bit_and x (mask c)) (d % 64) ≡ bit x (d % 64) = ap (λ (b : ℕ). eqb b 1) (bit_at_clear_other w64 x (c % 64) (omega arith) (d % 64) (omega arith) bit_other) in
    and_on (present ws d) (eqb d c) (ne_eqb d c ne) ∙ (ap (λ (y : ℕ). bit y (d % 64)) old ∙ sym (ap (λ (y : ℕ). bit y (d % 64)) here ∙ kept))))
    (λ other. let ne : d ≢ c = λ z. other (ap (λ (i : ℕ). i / 64) z) in
    and_on (present ws d) (eqb d c) (ne_eqb d c ne) ∙ sym (ap (λ (y : ℕ). bit y (d % 64)) (get_or-set_other ws (c / 64) (d / 64) (bit_and x (mask c)) 0 other)))
  where
    and_off : (a b : Bool) → b ≡ true → a && not b ≡ false
    and_off true b e = ap not e
    and_off false b e = refl

    and_on : (a b : Bool) → b ≡ false → a && not b ≡ a
    and_on true b e = ap not e
    and_on false b e = refl
