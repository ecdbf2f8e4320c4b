use Rattle.std.proofs.lemmas.Nat.Gcd.{dvd-zero}
use Rattle.bg_rows.proofs.Divisors.{gcd_from_divides, greatest}
use Rattle.bg_rows.proofs.laws.the_divisor_is_greatest.Goals as goal

pub returns : goal.returns
returns c = record { divides = λ ts. (gcd_from_divides 0 ts).1; greatest = λ d ts a. greatest d 0 ts (dvd-zero d) a }
