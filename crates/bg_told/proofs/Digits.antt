-- Numbers are told apart by their texts.
use Rattle.std.proofs.Common.{◌≡◌, ℕ, zero, suc, ◌+◌, ◌%◌, ◌<◌, ◌≤◌, ◌^◌, Bool, true, false, not, ◌&&◌, nat_le, nat_lt, List, [], ◌∷◌, ◌++◌, length, get_or, ℤ, pos, negsuc, refl, sym, ap, ◌∙◌, arith}
use Rattle.std.specs.List.{list_all}
use Rattle.std.specs.Fmt.{decimal, signed_decimal}
use Rattle.std.specs.Str.Parse.{digits_value}
use Rattle.std.proofs.lemmas.Bool.{and_parts, le-leb, lt-leb, ltb-true}
use Rattle.std.proofs.lemmas.Fmt.{decimal_by_steps_wide, decimal_is_IsNumeral_wide}
use Rattle.bg_base.specs.Exact.{fits}
use Rattle.bg_text.specs.Pieces.{is_digit}
use Rattle.bg_told.specs.Distinct.{ends}

clash : (t : Bool) → t ≡ true → not t ≡ true → ⊥
clash true h k = absurd (let bad : false ≡ true = k in cc)
clash false h k = absurd (let bad : false ≡ true = h in cc)

all_of : (a b : Bool) → a ≡ true → b ≡ true → (a && b) ≡ true
all_of true b h k = k
all_of false b h k = h

append_all : (a b : List ℕ) → list_all is_digit a ≡ true → list_all is_digit b ≡ true → list_all is_digit (a ++ b) ≡ true
append_all [] b h k = k
append_all (x ∷ a) b h k =
    let p = and_parts (is_digit x) (list_all is_digit a) h in
    all_of (is_digit x) (list_all is_digit (a ++ b)) p.0 (append_all a b p.1 k)

digit_is : (d : ℕ) → d < 10 → is_digit (48 + d) ≡ true
unfolding is_digit
digit_is d h = rw (le-leb 48 (48 + d) (omega arith), le-leb (48 + d) 57 (omega arith)) refl

-- one digit or more, the first of which isn't so
record IsNumber (ds : List ℕ) : Type 0 where
  some : 0 < length ds
  digits : list_all is_digit ds ≡ true

one_digit : (d : ℕ) → d < 10 → IsNumber ((48 + d) ∷ [])
one_digit d h = record { some = omega arith; digits = all_of (is_digit (48 + d)) true (digit_is d h) refl }

more_digits : (n : ℕ) (ds : List ℕ) → IsNumber ds → IsNumber (ds ++ ((48 + n % 10) ∷ []))
more_digits n [] h = absurd (let low = h.some in omega (arith, low))
more_digits n (d ∷ ds) h =
    record {
      some = omega arith;
      digits = append_all (d ∷ ds) ((48 + n % 10) ∷ []) h.digits (all_of (is_digit (48 + n % 10)) true (digit_is (n % 10) (omega arith)) refl);
    }

is_number : (n : ℕ) → n < 10 ^ 64 → IsNumber (decimal n)
is_number n small =
    decimal_by_steps_wide (λ k ds. IsNumber ds) (λ k low. one_digit k low) (λ k ds big h. more_digits k ds h) n small

-- digits end where none comes next
runs_apart : (a b x y : List ℕ) → list_all is_digit a ≡ true → list_all is_digit b ≡ true → ends x ≡ true → ends y ≡ true → a ++ x ≡ b ++ y → (a ≡ b) × (x ≡ y)
runs_apart [] [] x y ha hb hx hy h = (refl, h)
runs_apart [] (b ∷ bs) x y ha hb hx hy h =
    absurd (clash (is_digit b) (and_parts (is_digit b) (list_all is_digit bs) hb).0 (sym (ap ends h) ∙ hx))
runs_apart (a ∷ as') [] x y ha hb hx hy h =
    absurd (clash (is_digit a) (and_parts (is_digit a) (list_all is_digit as') ha).0 (ap ends h ∙ hy))
runs_apart (a ∷ as') (b ∷ bs) x y ha hb hx hy h =
    let first : a ≡ b = cc in
    let more : as' ++ x ≡ bs ++ y = cc in
    let rest = runs_apart as' bs x y (and_parts (is_digit a) (list_all is_digit as') ha).1 (and_parts (is_digit b) (list_all is_digit bs) hb).1 hx hy more in
    (ap (λ (c : ℕ). c ∷ as') first ∙ ap (λ (l : List ℕ). b ∷ l) rest.0, rest.1)

counts_apart : (m n : ℕ) (x y : List ℕ) → m < 10 ^ 64 → n < 10 ^ 64 → ends x ≡ true → ends y ≡ true → decimal m ++ x ≡ decimal n ++ y → (m ≡ n) × (x ≡ y)
counts_apart m n x y low high hx hy h =
    let both = runs_apart (decimal m) (decimal n) x y (is_number m low).digits (is_number n high).digits hx hy h in
    (sym (decimal_is_IsNumeral_wide m low).1 ∙ (ap (digits_value 10) both.0 ∙ (decimal_is_IsNumeral_wide n high).1), both.1)

-- the first byte of a number is a digit
starts_so : (ds z : List ℕ) (b : ℕ) (r : List ℕ) → IsNumber ds → ds ++ z ≡ b ∷ r → is_digit b ≡ true
starts_so [] z b r h e = absurd (let low = h.some in omega (arith, low))
starts_so (d ∷ ds) z b r h e = let same : d ≡ b = cc in ap is_digit (sym same) ∙ (and_parts (is_digit d) (list_all is_digit ds) h.digits).0

no_digit_below : (b : ℕ) → b < 48 → is_digit b ≡ true → ⊥
unfolding is_digit
no_digit_below b h e =
    absurd (let bad : false ≡ true = ap (λ (t : Bool). t && nat_le b 57) (sym (lt-leb 48 b h)) ∙ e in cc)

small : (n : ℕ) → nat_lt n (2 ^ 127) ≡ true → n < 2 ^ 127
small n h = ltb-true n (2 ^ 127) h

abbrev tail : List ℕ → List ℕ
tail [] = []
tail (b ∷ bs) = bs

pub numbers_apart : (a b : ℤ) (x y : List ℕ) → fits a ≡ true → fits b ≡ true → ends x ≡ true → ends y ≡ true → signed_decimal a ++ x ≡ signed_decimal b ++ y → (a ≡ b) × (x ≡ y)
numbers_apart (pos m) (pos n) x y fa fb hx hy h =
    let low = small m fa in
    let high = small n fb in
    let both = counts_apart m n x y (omega (arith, low)) (omega (arith, high)) hx hy h in
    (ap pos both.0, both.1)
numbers_apart (pos m) (negsuc n) x y fa fb hx hy h =
    let low = small m fa in
    absurd (no_digit_below 45 (omega arith) (starts_so (decimal m) x 45 (decimal (suc n) ++ y) (is_number m (omega (arith, low))) h))
numbers_apart (negsuc m) (pos n) x y fa fb hx hy h =
    let high = small n fb in
    absurd (no_digit_below 45 (omega arith) (starts_so (decimal n) y 45 (decimal (suc m) ++ x) (is_number n (omega (arith, high))) (sym h)))
numbers_apart (negsuc m) (negsuc n) x y fa fb hx hy h =
    let low = small m fa in
    let high = small n fb in
    let more : decimal (suc m) ++ x ≡ decimal (suc n) ++ y = ap tail h in
    let both = counts_apart (suc m) (suc n) x y (omega (arith, low)) (omega (arith, high)) hx hy more in
    let same : m ≡ n = omega (arith, both.0) in
    (ap negsuc same, both.1)

-- no number begins with a letter, or with a space
letter_is_no_digit : (b : ℕ) → 57 < b → is_digit b ≡ true → ⊥
unfolding is_digit
letter_is_no_digit b h e = no_and (nat_le 48 b) (lt-leb b 57 (omega (arith, h))) e
  where
    no_and : (t : Bool) → nat_le b 57 ≡ false → (t && nat_le b 57) ≡ true → ⊥
    no_and true f g = absurd (let bad : false ≡ true = sym f ∙ g in cc)
    no_and false f g = absurd (let bad : false ≡ true = g in cc)

pub no_letter_first : (a : ℤ) (x : List ℕ) (b : ℕ) (r : List ℕ) → fits a ≡ true → 57 < b → signed_decimal a ++ x ≡ b ∷ r → ⊥
no_letter_first (pos m) x b r f h e =
    let low = small m f in
    letter_is_no_digit b h (starts_so (decimal m) x b r (is_number m (omega (arith, low))) e)
no_letter_first (negsuc m) x b r f h e = let same : 45 ≡ b = ap (λ (l : List ℕ). get_or l 0 0) e in absurd (omega (arith, same, h))
