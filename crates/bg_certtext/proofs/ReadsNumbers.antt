-- A word is a number's numeral where it is read as that number.
use Rattle.std.proofs.Common.{◌≡◌, ℕ, zero, suc, ◌+◌, ◌-◌, ◌*◌, ◌/◌, ◌%◌, ◌^◌, ◌≤◌, ◌<◌, Bool, true, false, ◌==◌, ◌&&◌, nat_le, if◌then◌else◌, List, [], ◌∷◌, ◌++◌, Option, Some, None, ℤ, pos, negsuc, refl, sym, ap, subst, ◌∙◌, arith, append_assoc, append-nil}
use Rattle.std.proofs.lemmas.Bool.{eqb-true, eqb-false, ne_eqb, leb-true, lt-leb, ltb-true, lt-ltb}
use Rattle.std.proofs.lemmas.Fmt.{decimal_digit, decimal_step_wide}
use Rattle.std.specs.Fmt.{decimal, signed_decimal}
use Rattle.bg_base.specs.Exact.{fits}
use Rattle.bg_text.specs.Pieces.{is_digit}
use Rattle.bg_certtext.specs.Spellable.{is_empty, is_number}
use Rattle.bg_certtext.specs.Words.{digits_on, natural_within, natural, integer, below_zero, from_zero}
use Rattle.bg_certtext.proofs.Decimals.{numeral_within, numeral_is_read}
use Rattle.bg_certtext.proofs.ReadsOptions.{both, same_some}

digit_range : (b : ℕ) → is_digit b ≡ true → (48 ≤ b) × (b ≤ 57)
unfolding is_digit
digit_range b h = let p = both (nat_le 48 b) (nat_le b 57) h in (leb-true 48 b p.0, leb-true b 57 p.1)

-- ---- a numeral is read back

-- the word of a number that is not above the largest
abbrev pub IsNumeral : ℕ → List ℕ → ℕ → Type 0
IsNumeral largest w n = (w ≡ decimal n) × (n ≤ largest)

one_digit : (n b : ℕ) (bs : List ℕ) → 0 < n → 48 ≤ b → b ≤ 57 → n * 10 + (b - 48) ≤ 2 ^ 127 → decimal (n * 10 + (b - 48)) ++ bs ≡ decimal n ++ (b ∷ bs)
one_digit n b bs some low high small =
    let m : ℕ = n * 10 + (b - 48) in
    let front : m / 10 ≡ n = omega arith in
    let last : 48 + m % 10 ≡ b = omega arith in
    ap (λ (ds : List ℕ). ds ++ bs) (decimal_step_wide m (omega arith) (omega arith) ∙ ap (λ (k : ℕ). decimal k ++ ((48 + m % 10) ∷ [])) front ∙ ap (λ (k : ℕ). decimal n ++ (k ∷ [])) last)
    ∙ append_assoc (decimal n) (b ∷ []) bs

-- what the digits on from a number are
abbrev Goes : ℕ → ℕ → ℕ → List ℕ → Type 0
Goes largest n m bs = 0 < n → n ≤ largest → digits_on largest n bs ≡ Some m → (decimal n ++ bs ≡ decimal m) × (m ≤ largest)

digits_by : (largest n m b : ℕ) (bs : List ℕ) (t : Bool) → largest ≤ 2 ^ 127 → (is_digit b && nat_le (n * 10 + (b - 48)) largest) ≡ t → Goes largest (n * 10 + (b - 48)) m bs → 0 < n → (if t then digits_on largest (n * 10 + (b - 48)) bs else None) ≡ Some m → (decimal n ++ (b ∷ bs) ≡ decimal m) × (m ≤ largest)
digits_by largest n m b bs false cap e more some h = absurd (cc)
digits_by largest n m b bs true cap e more some h =
    let t = both (is_digit b) (nat_le (n * 10 + (b - 48)) largest) e in
    let r = digit_range b t.0 in
    let small = leb-true (n * 10 + (b - 48)) largest t.1 in
    let low : 48 ≤ b = r.0 in
    let high : b ≤ 57 = r.1 in
    let known = more (omega (arith, some)) small h in
    (sym (one_digit n b bs some low high (omega (arith, small, cap))) ∙ known.0, known.1)

digits_back : (largest n m : ℕ) (bs : List ℕ) → largest ≤ 2 ^ 127 → Goes largest n m bs
digits_back largest n m [] cap some fits h = let same : n ≡ m = same_some n m h in (append-nil (decimal n) ∙ ap decimal same, omega (arith, same, fits))
digits_back largest n m (b ∷ bs) cap some fits h =
    digits_by largest n m b bs (is_digit b && nat_le (n * 10 + (b - 48)) largest) cap refl (digits_back largest (n * 10 + (b - 48)) m bs cap) some h

first_by : (largest m b : ℕ) (bs : List ℕ) (t : Bool) → 9 ≤ largest → largest ≤ 2 ^ 127 → (b == 48) ≡ false → is_digit b ≡ t → (if t then digits_on largest (b - 48) bs else None) ≡ Some m → IsNumeral largest (b ∷ bs) m
first_by largest m b bs false room cap other e h = absurd (cc)
first_by largest m b bs true room cap other e h =
    let r = digit_range b e in
    let low : 48 ≤ b = r.0 in
    let high : b ≤ 57 = r.1 in
    let apart : b ≡ 48 → ⊥ = eqb-false b 48 other in
    let known = digits_back largest (b - 48) m bs cap (omega (arith, apart)) (omega arith) h in
    let digit : decimal (b - 48) ≡ b ∷ [] = decimal_digit (b - 48) (omega arith) ∙ ap (λ (k : ℕ). k ∷ []) (let e : 48 + (b - 48) ≡ b = omega arith in e) in
    (sym (ap (λ (ds : List ℕ). ds ++ bs) digit) ∙ known.0, known.1)

zero_by : (largest m b : ℕ) (bs : List ℕ) → (b == 48) ≡ true → (if is_empty bs then Some 0 else None) ≡ Some m → IsNumeral largest (b ∷ bs) m
zero_by largest m b [] e h =
    let zero_is : 0 ≡ m = same_some 0 m h in
    (ap (λ (k : ℕ). k ∷ []) (eqb-true b 48 e) ∙ sym (decimal_digit 0 (omega arith)) ∙ ap decimal zero_is, omega (arith, zero_is))
zero_by largest m b (c ∷ bs) e h = absurd (cc)

natural_by : (largest m b : ℕ) (bs : List ℕ) (t : Bool) → 9 ≤ largest → largest ≤ 2 ^ 127 → (b == 48) ≡ t → (if t then (if is_empty bs then Some 0 else None) else (if is_digit b then digits_on largest (b - 48) bs else None)) ≡ Some m → IsNumeral largest (b ∷ bs) m
natural_by largest m b bs true room cap e h = zero_by largest m b bs e h
natural_by largest m b bs false room cap e h = first_by largest m b bs (is_digit b) room cap e refl h

within_back : (largest m : ℕ) (w : List ℕ) → 9 ≤ largest → largest ≤ 2 ^ 127 → natural_within largest w ≡ Some m → IsNumeral largest w m
within_back largest m [] room cap h = absurd (cc)
within_back largest m (b ∷ bs) room cap h = natural_by largest m b bs (b == 48) room cap refl h

-- ---- numbers

abbrev pub IsNatural : List ℕ → ℕ → Type 0
IsNatural w n = (w ≡ decimal n) × (is_number n ≡ true)

pub natural_back : (w : List ℕ) (n : ℕ) → natural w ≡ Some n → IsNatural w n
natural_back w n h =
    let k = within_back (2 ^ 127 - 1) n w (omega arith) (omega arith) h in
    (k.0, lt-ltb n (2 ^ 127) (omega (arith, k.1)))

pub natural_read : (n : ℕ) → is_number n ≡ true → natural (decimal n) ≡ Some n
natural_read n h = numeral_is_read n (ltb-true n (2 ^ 127) h)

-- ---- whole numbers

abbrev pub IsInteger : List ℕ → ℤ → Type 0
IsInteger w z = (w ≡ signed_decimal z) × (fits z ≡ true)

minus_back : (b : ℕ) (bs : List ℕ) (z : ℤ) (o : Option ℕ) → (b == 45) ≡ true → natural_within (2 ^ 127) bs ≡ o → below_zero o ≡ Some z → IsInteger (b ∷ bs) z
minus_back b bs z None e k h = absurd (cc)
minus_back b bs z (Some zero) e k h = absurd (cc)
minus_back b bs z (Some (suc n)) e k h =
    let p = within_back (2 ^ 127) (suc n) bs (omega arith) (omega arith) k in
    let same : negsuc n ≡ z = same_some (negsuc n) z h in
    subst (IsInteger (b ∷ bs)) same (ap (λ (c : ℕ). c ∷ bs) (eqb-true b 45 e) ∙ ap (λ (ds : List ℕ). 45 ∷ ds) p.0, lt-ltb n (2 ^ 127) (omega (arith, p.1)))

plus_back : (w : List ℕ) (z : ℤ) (o : Option ℕ) → natural w ≡ o → from_zero o ≡ Some z → IsInteger w z
plus_back w z None k h = absurd (cc)
plus_back w z (Some n) k h =
    let p = natural_back w n k in
    let same : pos n ≡ z = same_some (pos n) z h in
    subst (IsInteger w) same (p.0, p.1)

integer_by : (b : ℕ) (bs : List ℕ) (z : ℤ) (t : Bool) → (b == 45) ≡ t → (if t then below_zero (natural_within (2 ^ 127) bs) else from_zero (natural (b ∷ bs))) ≡ Some z → IsInteger (b ∷ bs) z
integer_by b bs z true e h = minus_back b bs z (natural_within (2 ^ 127) bs) e refl h
integer_by b bs z false e h = plus_back (b ∷ bs) z (natural (b ∷ bs)) refl h

pub integer_back : (w : List ℕ) (z : ℤ) → integer w ≡ Some z → IsInteger w z
integer_back [] z h = absurd (cc)
integer_back (b ∷ bs) z h = integer_by b bs z (b == 45) refl h

not_digit : (c n : ℕ) (bs : List ℕ) (t : Bool) → c < 48 → (c == 48) ≡ t → (if t then (if is_empty bs then Some 0 else None) else (if is_digit c then digits_on (2 ^ 127 - 1) (c - 48) bs else None)) ≡ Some n → ⊥
unfolding is_digit
not_digit c n bs true low e h = let same = eqb-true c 48 e in omega (arith, same, low)
not_digit c n bs false low e h = let no = lt-leb 48 c low in let none : None ≡ Some n = rw no at h in cc

-- a byte that no number begins with
pub not_first : (c b n : ℕ) (bs : List ℕ) → c < 48 → natural (b ∷ bs) ≡ Some n → (b == c) ≡ false
not_first c b n bs low h = ne_eqb b c (λ e. let k : natural (c ∷ bs) ≡ Some n = ap (λ (d : ℕ). natural (d ∷ bs)) (sym e) ∙ h in not_digit c n bs (c == 48) low refl k)

pub integer_of_natural : (w : List ℕ) (n : ℕ) → natural w ≡ Some n → integer w ≡ Some (pos n)
integer_of_natural [] n h = absurd (cc)
integer_of_natural (b ∷ bs) n h = rw (not_first 45 b n bs (omega arith) h, h) refl

pub integer_read : (z : ℤ) → fits z ≡ true → integer (signed_decimal z) ≡ Some z
integer_read (pos n) h = integer_of_natural (decimal n) n (natural_read n h)
integer_read (negsuc n) h = ap below_zero (numeral_within (2 ^ 127) (suc n) (omega arith) (omega (arith, ltb-true n (2 ^ 127) h)))
