-- The number of digits.
use Rattle.std.proofs.Common.{◌≡◌, ℕ, ◌+◌, ◌-◌, ◌*◌, ◌≤◌, ◌<◌, true, false, List, ◌∷◌, length, drop, get_or, None, refl, ◌∙◌}
use Rattle.std.proofs.lemmas.Bool.{lt-leb, le-leb}
use Rattle.std.proofs.lemmas.List.{at_drop_more}
use Rattle.bg_text.specs.Pieces.{is_digit}
use Rattle.bg_certtext.specs.Words.{digits_on}

no_digit : (largest n b : ℕ) (bs : List ℕ) → is_digit b ≡ false → digits_on largest n (b ∷ bs) ≡ None
no_digit largest n b bs h = rw h refl

above : (largest n b : ℕ) (bs : List ℕ) → largest < n * 10 + (b - 48) → is_digit b ≡ true → digits_on largest n (b ∷ bs) ≡ None
above largest n b bs h d = rw (d, lt-leb (n * 10 + (b - 48)) largest h) refl

one_more : (largest n b : ℕ) (bs : List ℕ) → n * 10 + (b - 48) ≤ largest → is_digit b ≡ true → digits_on largest n (b ∷ bs) ≡ digits_on largest (n * 10 + (b - 48)) bs
one_more largest n b bs h d = rw (d, le-leb (n * 10 + (b - 48)) largest h) refl

pub ends_there : (largest n i : ℕ) (bs : List ℕ) → i < length bs → is_digit (get_or bs i 0) ≡ false → digits_on largest n (drop i bs) ≡ None
ends_there largest n i bs h d = at_drop_more (digits_on largest n) bs i 0 h ∙ no_digit largest n (get_or bs i 0) (drop (i + 1) bs) d

pub too_big_there : (largest n i : ℕ) (bs : List ℕ) → i < length bs → is_digit (get_or bs i 0) ≡ true → largest < n * 10 + (get_or bs i 0 - 48) → digits_on largest n (drop i bs) ≡ None
too_big_there largest n i bs h d big = at_drop_more (digits_on largest n) bs i 0 h ∙ above largest n (get_or bs i 0) (drop (i + 1) bs) big d

pub goes_on : (largest n i : ℕ) (bs : List ℕ) → i < length bs → is_digit (get_or bs i 0) ≡ true → n * 10 + (get_or bs i 0 - 48) ≤ largest → digits_on largest n (drop i bs) ≡ digits_on largest (n * 10 + (get_or bs i 0 - 48)) (drop (i + 1) bs)
goes_on largest n i bs h d low = at_drop_more (digits_on largest n) bs i 0 h ∙ one_more largest n (get_or bs i 0) (drop (i + 1) bs) low d
