-- Numerals have no byte up to the comma, so none that parts a word.
use Rattle.std.proofs.Common.{◌≡◌, ℕ, suc, ◌+◌, ◌%◌, ◌<◌, ◌^◌, ◌==◌, ◌&&◌, not, Bool, true, nat_lt, List, [], ◌∷◌, ◌++◌, codes, ℤ, pos, negsuc, refl, arith}
use Rattle.std.proofs.lemmas.Bool.{ltb-true, lt-ltb, ne_eqb}
use Rattle.std.proofs.lemmas.Fmt.{decimal_by_steps_wide}
use Rattle.std.specs.List.{list_all}
use Rattle.std.specs.Fmt.{decimal, signed_decimal}
use Rattle.bg_base.specs.Exact.{fits}
use Rattle.bg_certtext.specs.Words.{is_in_word, is_in_part, is_in_type, is_in_value}
use Rattle.bg_certtext.specs.Spellable.{is_empty, is_inside_word, is_name, is_inside_type, is_type}
use Rattle.bg_certtext.specs.Texts.{element_word}
use Rattle.bg_certtext.proofs.ReadsOptions.{both, all_of}
use Rattle.bg_certtext.proofs.ReadsBytes.{all_append, all_weaker}

abbrev pub is_late : ℕ → Bool
is_late b = nat_lt 44 b

late_part : (b : ℕ) → is_late b ≡ true → is_in_part b ≡ true
unfolding is_in_part
late_part b h = let more = ltb-true 44 b h in rw (ne_eqb b 44 (λ e. omega (arith, e, more))) refl

late_type : (b : ℕ) → is_late b ≡ true → is_in_type b ≡ true
unfolding is_in_type
late_type b h = let more = ltb-true 44 b h in rw (ne_eqb b 33 (λ e. omega (arith, e, more))) refl

pub late_word : (w : List ℕ) → list_all is_late w ≡ true → list_all is_in_part w ≡ true
late_word [] h = refl
late_word (b ∷ bs) h = let p = both (is_late b) (list_all is_late bs) h in all_of (is_in_part b) (list_all is_in_part bs) (late_part b p.0) (late_word bs p.1)

late_name : (w : List ℕ) → list_all is_late w ≡ true → list_all is_in_type w ≡ true
late_name [] h = refl
late_name (b ∷ bs) h = let p = both (is_late b) (list_all is_late bs) h in all_of (is_in_type b) (list_all is_in_type bs) (late_type b p.0) (late_name bs p.1)

late_append : (xs ys : List ℕ) → list_all is_late xs ≡ true → list_all is_late ys ≡ true → list_all is_late (xs ++ ys) ≡ true
late_append [] ys h k = k
late_append (x ∷ xs) ys h k = let q = both (is_late x) (list_all is_late xs) h in all_of (is_late x) (list_all is_late (xs ++ ys)) q.0 (late_append xs ys q.1 k)

digits_late : (n : ℕ) → n < 10 ^ 64 → list_all is_late (decimal n) ≡ true
digits_late n small =
    let P : ℕ → List ℕ → Type 0 = λ n ds. list_all is_late ds ≡ true in
    decimal_by_steps_wide P
    (λ k low. let above = lt-ltb 44 (48 + k) (omega arith) in rw above refl)
    (λ k ds big h. let above = lt-ltb 44 (48 + k % 10) (omega arith) in late_append ds ((48 + k % 10) ∷ []) h (rw above refl))
    n small

numeral_late : (k : ℤ) → fits k ≡ true → list_all is_late (signed_decimal k) ≡ true
numeral_late (pos n) h = digits_late n (let low = ltb-true n (2 ^ 127) h in omega (arith, low))
numeral_late (negsuc n) h = digits_late (suc n) (let low = ltb-true n (2 ^ 127) h in omega (arith, low))

-- no comma, and no exclamation mark
pub numeral_in_part : (k : ℤ) → fits k ≡ true → list_all is_in_part (signed_decimal k) ≡ true
numeral_in_part k h = late_word (signed_decimal k) (numeral_late k h)

pub numeral_in_type : (k : ℤ) → fits k ≡ true → list_all is_in_type (signed_decimal k) ≡ true
numeral_in_type k h = late_name (signed_decimal k) (numeral_late k h)

-- ---- bytes of words that are no maps

-- no space, no comma, no bracket
abbrev pub is_spelt : ℕ → Bool
is_spelt b = is_in_value b && not (b == 91)

abbrev is_numeral : ℕ → Bool
is_numeral b = nat_lt 44 b && nat_lt b 58

numeral_spelt : (b : ℕ) → is_numeral b ≡ true → is_spelt b ≡ true
unfolding is_in_value
numeral_spelt b h =
    let p = both (nat_lt 44 b) (nat_lt b 58) h in
    let more = ltb-true 44 b p.0 in
    let less = ltb-true b 58 p.1 in
    rw (ne_eqb b 32 (λ e. omega (arith, e, more)), ne_eqb b 44 (λ e. omega (arith, e, more)), ne_eqb b 93 (λ e. omega (arith, e, less)), ne_eqb b 91 (λ e. omega (arith, e, less))) refl

numerals_spelt : (w : List ℕ) → list_all is_numeral w ≡ true → list_all is_spelt w ≡ true
numerals_spelt w h = all_weaker is_numeral is_spelt numeral_spelt w h

digits_numeral : (n : ℕ) → n < 10 ^ 64 → list_all is_numeral (decimal n) ≡ true
digits_numeral n small =
    let P : ℕ → List ℕ → Type 0 = λ n ds. list_all is_numeral ds ≡ true in
    decimal_by_steps_wide P
    (λ k low. let above = lt-ltb 44 (48 + k) (omega arith) in let below = lt-ltb (48 + k) 58 (omega arith) in rw (above, below) refl)
    (λ k ds big h. let above = lt-ltb 44 (48 + k % 10) (omega arith) in let below = lt-ltb (48 + k % 10) 58 (omega arith) in all_append is_numeral ds ((48 + k % 10) ∷ []) h (rw (above, below) refl))
    n small

pub number_spelt : (k : ℤ) → fits k ≡ true → list_all is_spelt (signed_decimal k) ≡ true
number_spelt (pos n) h = numerals_spelt (decimal n) (digits_numeral n (let low = ltb-true n (2 ^ 127) h in omega (arith, low)))
number_spelt (negsuc n) h = numerals_spelt (45 ∷ decimal (suc n)) (digits_numeral (suc n) (let low = ltb-true n (2 ^ 127) h in omega (arith, low)))

type_spelt : (b : ℕ) → is_inside_word b ≡ true → is_inside_type b ≡ true → is_spelt b ≡ true
unfolding is_in_value is_inside_word is_inside_type
type_spelt b h k =
    let w = both (not (b == 32)) (not (b == 10)) h in
    let t1 = both (not (b == 33)) _ k in
    let t2 = both (not (b == 44)) _ t1.1 in
    let t3 = both (not (b == 91)) (not (b == 93)) t2.1 in
    all_of (not (b == 32) && (not (b == 44) && not (b == 93))) (not (b == 91)) (all_of (not (b == 32)) _ w.0 (all_of (not (b == 44)) (not (b == 93)) t2.0 t3.1)) t3.0

types_spelt : (t : List ℕ) → list_all is_inside_word t ≡ true → list_all is_inside_type t ≡ true → list_all is_spelt t ≡ true
types_spelt [] h k = refl
types_spelt (b ∷ bs) h k =
    let p = both (is_inside_word b) (list_all is_inside_word bs) h in
    let q = both (is_inside_type b) (list_all is_inside_type bs) k in
    all_of (is_spelt b) (list_all is_spelt bs) (type_spelt b p.0 q.0) (types_spelt bs p.1 q.1)

mark_spelt : list_all is_spelt (codes "!") ≡ true
unfolding is_in_value
mark_spelt = refl

pub truths_spelt : (list_all is_spelt (codes "true") ≡ true) × (list_all is_spelt (codes "false") ≡ true)
unfolding is_in_value
truths_spelt = (refl, refl)

pub element_spelt : (t : List ℕ) (k : ℤ) → is_type t ≡ true → fits k ≡ true → list_all is_spelt (element_word t k) ≡ true
element_spelt t k h f =
    let p = both (is_name t) (list_all is_inside_type t) h in
    let name = (both (not (is_empty t)) (list_all is_inside_word t) p.0).1 in
    all_append is_spelt (t ++ codes "!") (signed_decimal k) (all_append is_spelt t (codes "!") (types_spelt t name p.1) mark_spelt) (number_spelt k f)

pub spelt_value : (b : ℕ) → is_spelt b ≡ true → is_in_value b ≡ true
spelt_value b h = (both (is_in_value b) (not (b == 91)) h).0

pub spelt_word : (b : ℕ) → is_spelt b ≡ true → is_in_word b ≡ true
unfolding is_in_value is_in_word
spelt_word b h = (both (not (b == 32)) _ (both (is_in_value b) (not (b == 91)) h).0).0

pub spelt_part : (b : ℕ) → is_spelt b ≡ true → is_in_part b ≡ true
unfolding is_in_value is_in_part
spelt_part b h = (both (not (b == 44)) (not (b == 93)) (both (not (b == 32)) _ (both (is_in_value b) (not (b == 91)) h).0).1).0
