-- A word is read as a number exactly where it is that number's numeral.
use Rattle.std.proofs.Common.{◌≡◌, ℕ, zero, suc, ◌+◌, ◌-◌, ◌*◌, ◌/◌, ◌%◌, ◌^◌, ◌≤◌, ◌<◌, true, List, [], ◌∷◌, ◌++◌, Some, refl, sym, ap, ◌∙◌, arith, append_assoc}
use Rattle.std.proofs.lemmas.Bool.{ne_eqb, le-leb}
use Rattle.std.proofs.lemmas.Fmt.{decimal_digit, decimal_by_steps_wide}
use Rattle.std.specs.Fmt.{decimal}
use Rattle.bg_text.specs.Pieces.{is_digit}
use Rattle.bg_certtext.specs.Words.{digits_on, natural_within, natural}

digit_is : (d : ℕ) → d < 10 → is_digit (48 + d) ≡ true
unfolding is_digit
digit_is d h = rw (le-leb 48 (48 + d) (omega arith), le-leb (48 + d) 57 (omega arith))

-- ---- numerals are read

-- digits in front are read as their number
abbrev ReadsFront : ℕ → ℕ → List ℕ → Type 0
ReadsFront largest n ds = 0 < n → n ≤ largest → (tail : List ℕ) → natural_within largest (ds ++ tail) ≡ digits_on largest n tail

first_digit : (largest d : ℕ) (tail : List ℕ) → 0 < d → d < 10 → natural_within largest ((48 + d) ∷ tail) ≡ digits_on largest d tail
first_digit largest d tail some low =
    rw (ne_eqb (48 + d) 48 (λ e. omega (arith, e)), digit_is d low) (ap (λ (v : ℕ). digits_on largest v tail) (let e : 48 + d - 48 ≡ d = omega arith in e))

next_digit : (largest m d n : ℕ) (tail : List ℕ) → d < 10 → m * 10 + d ≡ n → n ≤ largest → digits_on largest m ((48 + d) ∷ tail) ≡ digits_on largest n tail
next_digit largest m d n tail low e fits =
    let same : m * 10 + (48 + d - 48) ≡ n = omega (arith, e) in
    rw (digit_is d low, le-leb (m * 10 + (48 + d - 48)) largest (omega (arith, same))) (ap (λ (v : ℕ). digits_on largest v tail) same)

front_more : (largest n : ℕ) (ds : List ℕ) → 10 ≤ n → ReadsFront largest (n / 10) ds → ReadsFront largest n (ds ++ ((48 + n % 10) ∷ []))
front_more largest n ds big h some fits tail =
    ap (natural_within largest) (append_assoc ds ((48 + n % 10) ∷ []) tail)
    ∙ h (omega arith) (omega arith) ((48 + n % 10) ∷ tail)
    ∙ next_digit largest (n / 10) (n % 10) n tail (omega arith) (omega arith) fits

front_one : (largest n : ℕ) → n < 10 → ReadsFront largest n ((48 + n) ∷ [])
front_one largest n low some fits tail = first_digit largest n tail some low

pub front_is_read : (largest n : ℕ) → n < 10 ^ 64 → ReadsFront largest n (decimal n)
front_is_read largest n small =
    decimal_by_steps_wide (ReadsFront largest) (front_one largest) (front_more largest) n small

append_nothing : (xs : List ℕ) → xs ++ [] ≡ xs
append_nothing [] = refl
append_nothing (x ∷ xs) = ap (λ (ys : List ℕ). x ∷ ys) (append_nothing xs)

pub numeral_within : (largest n : ℕ) → largest ≤ 2 ^ 127 → n ≤ largest → natural_within largest (decimal n) ≡ Some n
numeral_within largest zero cap fits = ap (natural_within largest) (decimal_digit 0 (omega arith))
numeral_within largest (suc n) cap fits =
    ap (natural_within largest) (sym (append_nothing (decimal (suc n))))
    ∙ front_is_read largest (suc n) (omega arith) (omega arith) fits []

pub numeral_is_read : (n : ℕ) → n < 2 ^ 127 → natural (decimal n) ≡ Some n
numeral_is_read n h = numeral_within (2 ^ 127 - 1) n (omega arith) (omega arith)
