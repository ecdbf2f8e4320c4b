-- Paths with bounds for which there is no reason: what once would do for a cause, and is none.
use Rattle.std.specs.Prelude.{◌≡◌, ℕ, ◌^◌, ◌-◌, Bool, true, false, List, [], ◌∷◌, ℤ, pos, negsuc}
use Rattle.bg_base.specs.declared.exact.Op.TheVariants.{Plus}
use Rattle.bg_elim.specs.declared.order.Order.{Order}
use Rattle.bg_elim.specs.declared.order.Reason.TheVariants.{Given}
use Rattle.bg_elim.specs.declared.order.Further.{Further}
use Rattle.bg_formula.specs.Atoms.{AtomOf, IsTruth, IsRow}
use Rattle.bg_formula.specs.Formulas.{Formula}
use Rattle.bg_cert.specs.declared.cert.Decision.{Decision}
use Rattle.bg_cert.specs.declared.cert.Decision.TheVariants.{Atom, AtMost}

-- all atoms are truth variables
abbrev pub AreTruths : List AtomOf → Type 0
AreTruths [] = Unit {0}
AreTruths (IsTruth x ∷ rest) = AreTruths rest
AreTruths (IsRow r d ∷ rest) = ⊥

-- the clause of `procedure P(a: bool) { assert a; }`: a is false; there is one term
abbrev pub refutable : Formula
refutable =
    record { terms = 1; atoms = IsTruth 0 ∷ []; clauses = (record { atom = 0; sign = false } ∷ []) ∷ []; candidates = [] }

abbrev pub all : ℕ → Bool
all c = true

-- -2^127, the least number of the range
abbrev pub least : ℤ
least = negsuc (2 ^ 127 - 1)

-- a path that decides the atom, with two bounds of the idle term: it is at most the least number, and above the greatest
abbrev pub wide_path : List Decision
wide_path = Atom 0 false ∷ AtMost 0 least true ∷ AtMost 0 (pos (2 ^ 127 - 1)) false ∷ []

-- their elimination leaves the range at the sum of their bounds
pub record IsWide (o : Order) (f : Further) : Type 0 where
  pub variables : o.variables.items ≡ 0 ∷ []
  pub reasons : o.reasons.items ≡ Given 0 ∷ Given 1 ∷ []
  pub first : f.first ≡ 0
  pub second : f.second ≡ 1
  pub variable : f.variable ≡ 0
  pub operation : f.operation ≡ record { op = Plus; a = least; b = least }

-- three bounds of the idle term
abbrev pub long_path : List Decision
long_path = Atom 0 false ∷ AtMost 0 (pos 0) true ∷ AtMost 0 (pos 1) true ∷ AtMost 0 (pos 2) true ∷ []

abbrev pub IsLong : Order → Type 0
IsLong o = o.reasons.items ≡ Given 0 ∷ Given 1 ∷ Given 2 ∷ []
