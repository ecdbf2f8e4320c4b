-- The value of digits.
use Rattle.std.proofs.Common.{◌≡◌, ℕ, ◌+◌, ◌-◌, ◌*◌, ◌^◌, ◌≤◌, ◌<◌, List, [], ◌∷◌, length, drop, get_or, refl, arith}
use Rattle.std.proofs.lemmas.Bool.{lt-leb}
use Rattle.std.proofs.lemmas.List.{at_drop_more}
use Rattle.bg_text.specs.Pieces.{value_from, number_of, TooBig}

pub grows : (n : ℕ) (bs : List ℕ) → n ≤ value_from n bs
grows n [] = omega arith
grows n (b ∷ bs) = let more = grows (n * 10 + (b - 48)) bs in omega (arith, more)

pub too_big : (n : ℕ) → 2 ^ 127 - 1 < n → number_of n ≡ TooBig
too_big n h = rw (lt-leb n (2 ^ 127 - 1) h) refl

pub too_big_soon : (n : ℕ) (i : ℕ) (bs : List ℕ) → i < length bs → 17014118346046923173168730371588410572 < n → number_of (value_from n (drop i bs)) ≡ TooBig
too_big_soon n i bs h big =
    let e = at_drop_more (value_from n) bs i 0 h in
    let more = grows (n * 10 + (get_or bs i 0 - 48)) (drop (i + 1) bs) in
    too_big (value_from n (drop i bs)) (omega (arith, e, more, big))
