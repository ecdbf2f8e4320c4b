-- How often a path gives an atom a sign, and these numbers kept in a list by atom.
use Rattle.std.specs.Prelude.{ℕ, zero, suc, ◌+◌, ◌-◌, ◌<◌, cond, Bool, true, false, List, [], ◌∷◌}
use Rattle.bg_cert.specs.declared.cert.Decision.{Decision}
use Rattle.bg_cert.specs.declared.cert.Decision.TheVariants.{Atom, AtMost}
use Rattle.bg_cert.specs.declared.tally.Tally.{Tally}
use Rattle.bg_cert.specs.Paths.{is_decision}

abbrev pub times : ℕ → Bool → List Decision → ℕ
times a s [] = 0
times a s (d ∷ ds) = cond (is_decision a s d) (suc (times a s ds)) (times a s ds)

abbrev pub tally_of : Tally → Bool → ℕ
tally_of t true = t.yes
tally_of t false = t.no

-- the number that is kept for an atom and a sign, 0 where no tally is
abbrev pub count_at : List Tally → ℕ → Bool → ℕ
count_at [] a s = 0
count_at (t ∷ ts) zero s = tally_of t s
count_at (t ∷ ts) (suc a) s = count_at ts a s

abbrev pub one_more : Tally → Bool → Tally
one_more t true = record t { yes = t.yes + 1 }
one_more t false = record t { no = t.no + 1 }

abbrev pub one_less : Tally → Bool → Tally
one_less t true = record t { yes = t.yes - 1 }
one_less t false = record t { no = t.no - 1 }

-- a decision that n tallies can count
abbrev pub Fits : ℕ → Decision → Type 0
Fits n (Atom a s) = a < n
Fits n (AtMost x k s) = Unit {0}
