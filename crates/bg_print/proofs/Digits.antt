-- A number is written by digits that are read as it.
use Rattle.std.proofs.Common.{◌≡◌, ℕ, zero, suc, ◌+◌, ◌-◌, ◌*◌, ◌/◌, ◌%◌, ◌^◌, ◌<◌, Bool, true, false, ◌==◌, if◌then◌else◌, nat_le, List, [], ◌∷◌, refl, sym, ap, ◌∙◌, arith, Some, pos, inl, inr}
use Rattle.std.specs.List.{list_all}
use Rattle.std.proofs.lemmas.Bool.{ne_eqb, le-leb, lt-ltb, leb-true}
use Rattle.std.proofs.lemmas.Bool.Decides.{eqb_tells}
use Rattle.std.specs.Fmt.{decimal, digits, digits_onto, digit_glyph}
use Rattle.bg_text.specs.declared.token.Kind.TheVariants as kinds
use Rattle.bg_text.specs.Pieces.{Token, is_digit, is_space, value_from, number_of, piece_of}

glyph_is : (d : ℕ) → d < 10 → digit_glyph false d ≡ 48 + d
glyph_is d h = ap (λ t. if t then 48 + d else 87 + d) (lt-ltb d 10 h)

pub digit_of : (d : ℕ) → d < 10 → is_digit (48 + d) ≡ true
unfolding is_digit
digit_of d h = rw (le-leb 48 (48 + d) (omega arith), le-leb (48 + d) 57 (omega arith))

pub record IsDigits (xs : List ℕ) : Type 0 where
  pub digit : ℕ
  pub low : digit < 10
  pub more : List ℕ
  pub are : list_all is_digit more ≡ true
  pub is : xs ≡ (48 + digit) ∷ more

all_with : (d : ℕ) (acc : List ℕ) → d < 10 → list_all is_digit acc ≡ true → list_all is_digit ((48 + d) ∷ acc) ≡ true
all_with d acc h k = rw (digit_of d h, k)

one_more : (d : ℕ) (acc : List ℕ) → d < 10 → list_all is_digit acc ≡ true → IsDigits (digit_glyph false d ∷ acc)
one_more d acc h k = record { digit = d; low = h; more = acc; are = k; is = ap (λ g. g ∷ acc) (glyph_is d h) }

all_of : (xs : List ℕ) → IsDigits xs → list_all is_digit xs ≡ true
all_of xs h = rw h.is (all_with h.digit h.more h.low h.are)

digits_by : (b : Bool) (xs ys : List ℕ) → IsDigits xs → IsDigits ys → IsDigits (if b then xs else ys)
digits_by true xs ys h k = h
digits_by false xs ys h k = k

onto_are : (k n : ℕ) (acc : List ℕ) → IsDigits acc → IsDigits (digits_onto k 10 false n acc)
onto_are zero n acc h = h
onto_are (suc k) n acc h =
    let here : IsDigits (digit_glyph false (n % 10) ∷ acc) = one_more (n % 10) acc (omega arith) (all_of acc h) in
    digits_by (n / 10 == 0) _ _ here (onto_are k (n / 10) (digit_glyph false (n % 10) ∷ acc) here)

pub decimal_are : (n : ℕ) → IsDigits (decimal n)
unfolding digits
decimal_are n =
    let here : IsDigits (digit_glyph false (n % 10) ∷ []) = one_more (n % 10) [] (omega arith) refl in
    digits_by (n / 10 == 0) _ _ here (onto_are 63 (n / 10) (digit_glyph false (n % 10) ∷ []) here)

value_step : (m d n : ℕ) (acc : List ℕ) → d < 10 → m * 10 + d ≡ n → value_from m (digit_glyph false d ∷ acc) ≡ value_from n acc
value_step m d n acc h e = ap (λ g. value_from (m * 10 + (g - 48)) acc) (glyph_is d h) ∙ ap (λ v. value_from v acc) (let x : m * 10 + (48 + d - 48) ≡ n = omega (arith, e) in x)

onto_value : (k n : ℕ) (acc : List ℕ) → n < 10 ^ k → value_from 0 (digits_onto k 10 false n acc) ≡ value_from n acc
onto_value zero n acc h = ap (λ v. value_from v acc) (let e : 0 ≡ n = omega arith in e)
onto_value (suc k) n acc h =
    let g = digit_glyph false (n % 10) in
    elim (eqb_tells (n / 10) 0) [
      | inl e ↦ ap (λ t. value_from 0 (if t then g ∷ acc else digits_onto k 10 false (n / 10) (g ∷ acc))) e.0 ∙ value_step 0 (n % 10) n acc (omega arith) (omega (arith, e.1))
      | inr e ↦ ap (λ t. value_from 0 (if t then g ∷ acc else digits_onto k 10 false (n / 10) (g ∷ acc))) e.0 ∙ onto_value k (n / 10) (g ∷ acc) (omega arith) ∙ value_step (n / 10) (n % 10) n acc (omega arith) (omega arith)
    ]

decimal_value : (n : ℕ) → n < 10 ^ 64 → value_from 0 (decimal n) ≡ n
unfolding digits
decimal_value n h = onto_value 64 n [] h

not_space : (d : ℕ) → d < 10 → is_space (48 + d) ≡ false
unfolding is_space
not_space d h = rw (ne_eqb (48 + d) 32 (λ e. omega arith), ne_eqb (48 + d) 9 (λ e. omega arith), ne_eqb (48 + d) 13 (λ e. omega arith), ne_eqb (48 + d) 10 (λ e. omega arith))

number_small : (n : ℕ) → nat_le n (2 ^ 127 - 1) ≡ true → number_of n ≡ Token (kinds.Number (pos n))
number_small n h = rw h

digits_piece : (d n : ℕ) (more : List ℕ) → d < 10 → list_all is_digit more ≡ true → value_from 0 ((48 + d) ∷ more) ≡ n → piece_of ((48 + d) ∷ more) ≡ Some (number_of n)
digits_piece d n more h k e = rw (not_space d h, digit_of d h, k, e) refl

-- the text of a number of the language is a token that is it
pub number_piece : (n : ℕ) → nat_le n (2 ^ 127 - 1) ≡ true → piece_of (decimal n) ≡ Some (Token (kinds.Number (pos n)))
number_piece n h =
    let ds = decimal_are n in
    let small : n < 10 ^ 64 = omega (arith, leb-true n (2 ^ 127 - 1) h) in
    ap piece_of ds.is
    ∙ digits_piece ds.digit n ds.more ds.low ds.are (ap (value_from 0) (sym ds.is) ∙ decimal_value n small)
    ∙ ap (λ p. Some p) (number_small n h)
