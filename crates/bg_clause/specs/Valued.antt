-- What valuations make of atoms, by their numbers.
use Rattle.std.specs.Prelude.{ℕ, Bool, true, List}
use Rattle.bg_formula.specs.Atoms.{AtomOf, at}
use Rattle.bg_formula.specs.Meaning.{Valuation, signed}

-- whether the atom of this number is there and true
abbrev pub worth_in : Valuation → List AtomOf → ℕ → Bool
worth_in v atoms a = signed v (at atoms a) true
