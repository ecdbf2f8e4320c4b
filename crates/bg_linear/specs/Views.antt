-- How the code's forms are read.
use Rattle.std.specs.Prelude.{ℤ, Result, Ok, Err}
use Rattle.bg_base.specs.declared.exact.OutOfRange.{OutOfRange}
use Rattle.bg_base.specs.Exact.{product_of, negation_of}
use Rattle.bg_linear.specs.declared.lin.Lin.{Lin}
use Rattle.bg_linear.specs.declared.sum.Sum.{Sum}
use Rattle.bg_linear.specs.declared.scaled.Change.{Change}
use Rattle.bg_linear.specs.declared.scaled.Change.TheVariants.{Negated, TimesLeft, TimesRight}
use Rattle.bg_linear.specs.declared.made.Made.{Made}
use Rattle.bg_linear.specs.declared.made.Made.TheVariants.{Listed, Summed, Outside}
use Rattle.bg_linear.specs.Lins.{LinOf, listed}

abbrev pub lin_of : Lin → LinOf
lin_of f = record { entries = f.entries.items; constant = f.constant }

abbrev pub sum_in : Sum → LinOf
sum_in s = record { entries = listed s.terms.entries; constant = s.constant }

-- what is done to a number
abbrev pub changing : Change → ℤ → Result ℤ OutOfRange
changing Negated c = negation_of c
changing (TimesLeft k) c = product_of k c
changing (TimesRight k) c = product_of c k

abbrev pub made_of : Made → Result LinOf OutOfRange
made_of (Listed f) = Ok (lin_of f)
made_of (Summed s) = Ok (sum_in s)
made_of (Outside e) = Err e
