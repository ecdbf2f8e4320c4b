-- A number that passes is read as the one that its text writes.
use Rattle.std.proofs.Common.{◌≡◌, ◌≤◌, pos, refl, true, false, ℕ, [], ◌∷◌, Some, arith, leb-true, subst}
use Rattle.std.specs.Prelude.{int_le, ℤ, ◌&&◌}
use Rattle.std.specs.Str.Parse.{digits_value, without_leading_plus, without_leading_sign, signed_digits_value, starts_with_minus, IsNumeral}
use Rattle.std.proofs.lemmas.Bool.{le-leb}
use Rattle.clap.specs.Walk.{Text}
use Rattle.clap.specs.Lexer.{without_minus}
use Rattle.clap.specs.ValueTests.{accepts, is_numeral, fits_i64}
use Rattle.clap.specs.declared.builder.value_parser.ValueParser.TheVariants as parser
use Rattle.clap.proofs.WalkLemmas.{both}
use Rattle.clap.proofs.ValueTestLemmas.{accepts-Accepts, Accepts-accepts}
use Rattle.bg_cli.specs.Cli.{Plain, IsNumberTo, IsBudget, IsSeed, IsSize, as_workers, number_or}

pub as_plain : (n : Text) → Plain n → (without_minus n ≡ n) × (starts_with_minus n ≡ false)
as_plain [] h = absurd h
as_plain (b ∷ bs) h = (simp h refl, h)

no_sign : (n : Text) → starts_with_minus n ≡ false → (without_leading_sign n ≡ without_leading_plus n) × (signed_digits_value 10 n ≡ pos (digits_value 10 (without_leading_plus n)))
no_sign n e = rw e (refl, refl)

-- a number to some most is at least 1 and at most that
pub within : (most : ℕ) (n : Text) → IsNumberTo most n → (1 ≤ digits_value 10 (without_leading_plus n)) × (digits_value 10 (without_leading_plus n) ≤ most)
within most n k =
    let s = no_sign n (as_plain n k.is_plain).1 in
    let z : ℤ = signed_digits_value 10 n in
    let a = both (is_numeral (without_leading_sign n)) (fits_i64 z && (int_le (pos 1) z && int_le z (pos most))) k.passes in
    let b = both (fits_i64 z) (int_le (pos 1) z && int_le z (pos most)) a.1 in
    let c = both (int_le (pos 1) z) (int_le z (pos most)) b.1 in
    (leb-true _ _ (subst (λ z. int_le (pos 1) z ≡ true) s.1 c.0), leb-true _ _ (subst (λ z. int_le z (pos most) ≡ true) s.1 c.1))

unsigned : (most : ℕ) (n : Text) → most ≤ 1000000 → IsNumberTo most n → accepts false (parser.Unsigned 0 4294967295) n ≡ true
unsigned most n few k =
    let s = no_sign n (as_plain n k.is_plain).1 in
    let top = (within most n k).1 in
    let numeral = subst (IsNumeral 10) s.0 (accepts-Accepts false (parser.Signed (pos 1) (pos most)) n k.passes).0 in
    Accepts-accepts false (parser.Unsigned 0 4294967295) n (numeral, omega (arith, top, few), omega arith, omega (arith, top, few))

pub read_number : (other most : ℕ) (n : Text) → most ≤ 1000000 → IsNumberTo most n → number_or other (Some n) ≡ digits_value 10 (without_leading_plus n)
read_number other most n few k = rw (unsigned most n few k) refl

pub read_budget : (n : Text) → IsBudget n → number_or 20000 (Some n) ≡ digits_value 10 (without_leading_plus n)
read_budget n k = read_number 20000 1000000 n (omega arith) k

pub some_workers : (x : ℕ) → 1 ≤ x → x ≤ 16 → as_workers x ≡ x
some_workers x low high = rw (le-leb 1 x low, le-leb x 16 high) refl

seed_passes : (n : Text) → IsSeed n → accepts false (parser.Unsigned 0 4294967295) n ≡ true
seed_passes n k =
    let s = no_sign n (as_plain n k.is_plain).1 in
    let z : ℤ = signed_digits_value 10 n in
    let a = both (is_numeral (without_leading_sign n)) (fits_i64 z && (int_le (pos 0) z && int_le z (pos 4294967295))) k.passes in
    let b = both (fits_i64 z) (int_le (pos 0) z && int_le z (pos 4294967295)) a.1 in
    let c = both (int_le (pos 0) z) (int_le z (pos 4294967295)) b.1 in
    let top : digits_value 10 (without_leading_plus n) ≤ 4294967295 = leb-true _ _ (subst (λ z. int_le z (pos 4294967295) ≡ true) s.1 c.1) in
    let numeral = subst (IsNumeral 10) s.0 (accepts-Accepts false (parser.Signed (pos 0) (pos 4294967295)) n k.passes).0 in
    Accepts-accepts false (parser.Unsigned 0 4294967295) n (numeral, omega (arith, top), omega arith, top)

pub read_size : (n : Text) → IsSize n → number_or 0 (Some n) ≡ digits_value 10 (without_leading_plus n)
read_size n k = read_number 0 1000 n (omega arith) k

pub read_seed : (s : Text) → IsSeed s → number_or 0 (Some s) ≡ digits_value 10 (without_leading_plus s)
read_seed s k = rw (seed_passes s k) refl
