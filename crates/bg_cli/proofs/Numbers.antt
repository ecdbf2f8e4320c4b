-- A number that a getter reads is the one that its text writes.
use Rattle.std.proofs.Common.{◌≡◌, ◌<◌, ◌^◌, ℕ, Bool, true, false, Option, Some, None, unwrap_or, refl, ap, arith}
use Rattle.std.specs.contracts.prelude.U32FromStr.TheImpl as u32
use Rattle.std.specs.Str.Parse.{digits_value, without_leading_plus, IsNumeral}
use Rattle.clap.specs.Words.{ReadsOne}
use Rattle.clap.specs.Walk.{Text}
use Rattle.clap.specs.ValueTests.{accepts}
use Rattle.clap.specs.declared.builder.value_parser.ValueParser.TheVariants as parser
use Rattle.clap.proofs.ValueTestLemmas.{accepts-Accepts, Accepts-accepts}
use Rattle.bg_cli.specs.Cli.{number_or}

refused : (other : ℕ) (t : Text) (b : Bool) → accepts false (parser.Unsigned 0 4294967295) t ≡ b → (IsNumeral 10 (without_leading_plus t) × (digits_value 10 (without_leading_plus t) < 2 ^ 32) → ⊥) → other ≡ number_or other (Some t)
refused other t false e h = rw e refl
refused other t true e h =
    let a = accepts-Accepts false (parser.Unsigned 0 4294967295) t e in
    absurd (h (a.0, omega (arith, a.3)))

pub reads : (other : ℕ) (t : Text) (r : Option ℕ) → ReadsOne u32.from_str_gives-value.it t r → unwrap_or r other ≡ number_or other (Some t)
reads other t (Some v) h =
    let a : accepts false (parser.Unsigned 0 4294967295) t ≡ true = Accepts-accepts false (parser.Unsigned 0 4294967295) t (h.0.0.0, omega (arith, h.0.0.1), omega arith, omega (arith, h.0.0.1)) in
    rw a h.0.1
reads other t None h = refused other t (accepts false (parser.Unsigned 0 4294967295) t) refl h.1.0

pub reads_one : (other : ℕ) (o : Option Text) (r : Option ℕ) → (o ≡ None → r ≡ None) → ((t : Text) → o ≡ Some t → ReadsOne u32.from_str_gives-value.it t r) → unwrap_or r other ≡ number_or other o
reads_one other None r none some = ap (λ x. unwrap_or x other) (none refl)
reads_one other (Some t) r none some = reads other t r (some t refl)
