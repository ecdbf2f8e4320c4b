-- What a valuation makes of a formula.
use Rattle.std.specs.Prelude.{◌≡◌, ℕ, Bool, true, false, ◌&&◌, ◌||◌, List, [], ◌∷◌, Option, Some, None, ℤ, Ok}
use Rattle.bg_rows.specs.Rows.{holds, denied}
use Rattle.bg_formula.specs.declared.atom.Literal.{Literal}
use Rattle.bg_formula.specs.Atoms.{AtomOf, IsTruth, IsRow, at}
use Rattle.bg_formula.specs.Formulas.{Formula, unit_atom}

-- a whole number for each term, a truth value for each truth variable
pub record Valuation : Type 0 where
  pub numbers : ℕ → ℤ
  pub truths : ℕ → Bool

abbrev pub atom_true : Valuation → AtomOf → Bool
atom_true v (IsTruth x) = v.truths x
atom_true v (IsRow r d) = holds v.numbers r

abbrev pub same : Bool → Bool → Bool
same true b = b
same false true = false
same false false = true

-- whether there is an atom, with this sign under the valuation
abbrev pub signed : Valuation → Option AtomOf → Bool → Bool
signed v None s = false
signed v (Some a) s = same (atom_true v a) s

abbrev pub literal_true : Valuation → List AtomOf → Literal → Bool
literal_true v atoms l = signed v (at atoms l.atom) l.sign

abbrev pub clause_true : Valuation → List AtomOf → List Literal → Bool
clause_true v atoms [] = false
clause_true v atoms (l ∷ ls) = literal_true v atoms l || clause_true v atoms ls

abbrev pub clauses_true : Valuation → List AtomOf → List (List Literal) → Bool
clauses_true v atoms [] = true
clauses_true v atoms (c ∷ cs) = clause_true v atoms c && clauses_true v atoms cs

abbrev pub unit_true : Valuation → Formula → Option ℕ → Bool
unit_true v f None = true
unit_true v f (Some a) = signed v (at f.atoms a) true

-- each member of the set that has an atom is true; a set is a test of the candidates' numbers
abbrev pub MeetsUnits : Valuation → Formula → (ℕ → Bool) → Type 0
MeetsUnits v f set = (c : ℕ) → set c ≡ true → unit_true v f (unit_atom f c) ≡ true

-- each row's denial is the one that is defined
abbrev pub AtomsAgree : List AtomOf → Type 0
AtomsAgree [] = Unit {0}
AtomsAgree (IsTruth x ∷ rest) = AtomsAgree rest
AtomsAgree (IsRow r d ∷ rest) = (denied r ≡ Ok d) × AtomsAgree rest
