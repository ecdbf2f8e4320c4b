-- Rows behind truth variables, and the numbers and truth values with which they agree.
use Rattle.std.specs.Prelude.{◌≡◌, ℕ, ◌+◌, ◌<◌, ℤ, Bool, true, List, [], ◌∷◌, length, Some, None}
use Rattle.bg_ast.specs.Values.{Truth}
use Rattle.bg_ast.specs.Syntax.{Ex}
use Rattle.bg_sense.specs.Eval.{Scope, ev, value_at}
use Rattle.bg_rows.specs.Rows.{RowOf, holds}
use Rattle.bg_formula.specs.declared.atom.Literal.{Literal}
use Rattle.bg_formula.specs.Atoms.{AtomOf}
use Rattle.bg_formula.specs.Meaning.{Valuation, AtomsAgree}
use Rattle.bg_forms.specs.Forms.{literal_in}
use Rattle.bg_forms.specs.Fitting.{fits_ex}
use Rattle.bg_formed.specs.Agree.{RowsAgree}
use Rattle.bg_linear.specs.declared.scalar.Sort.{Sort}
use Rattle.bg_linear.specs.Relations.{all_true}
use Rattle.bg_linear.specs.Sorts.{HoldScalars}
use Rattle.bg_atoms.specs.Ranks.{rank}
use Rattle.bg_atoms.specs.Literals.{literal_of}
use Rattle.bg_atoms.specs.Over.{row_ex, rows_ex, over, first_refused}

-- the second list goes on behind the first one
abbrev pub Begins : List AtomOf → List AtomOf → Type 0
Begins [] ys = Unit {0}
Begins (x ∷ xs) [] = ⊥
Begins (x ∷ xs) (y ∷ ys) = (x ≡ y) × Begins xs ys

-- numbers of incarnations and truth values of atoms, a scope over incarnations and one over atoms
pub record World : Type 0 where
  pub numbers : ℕ → ℤ
  pub truth : ℕ → Bool
  pub scope : Scope
  pub atoms : Scope

-- atoms from n on are worth what these rows are, and the scope over atoms reads what the atoms are worth
pub record Agrees (n : ℕ) (rows : List AtomOf) (k : World) : Type 0 where
  pub atoms : RowsAgree k.numbers k.truth n rows
  pub denials : AtomsAgree rows
  pub reads : (j : ℕ) → j < n + length rows → value_at k.atoms.frame j ≡ Truth (k.truth j)

-- the scope over incarnations holds the numbers, and for each truth incarnation what its atom is worth
abbrev pub Holds : List Sort → World → Type 0
Holds sorts k = HoldScalars sorts k.numbers (λ j. k.truth (rank sorts j)) k.scope.frame

-- the numbers of incarnations with their truth values
abbrev pub valuation_of : List Sort → World → Valuation
valuation_of sorts k = record { numbers = k.numbers; truths = λ j. k.truth (rank sorts j) }

-- the literal of the row's atom, which is there; it is true exactly where the row holds
pub record IsLiteral (n : ℕ) (rows : List AtomOf) (r : RowOf) (l : Literal) : Type 0 where
  pub below : l.atom < n + length rows
  pub found : literal_of r n rows ≡ Some l
  pub same : (k : World) → Agrees n rows k → literal_in k.truth l ≡ holds k.numbers r

-- what says that the row holds, over atoms that are there; it is true exactly where the row holds
pub record SaysRow (n : ℕ) (rows : List AtomOf) (r : RowOf) (x : Ex) : Type 0 where
  pub fits : fits_ex (n + length rows) x ≡ true
  pub exact : x ≡ row_ex n rows r
  pub same : (k : World) → Agrees n rows k → ev x k.atoms ≡ Truth (holds k.numbers r)

-- the same of several rows
pub record SaysAll (n : ℕ) (rows : List AtomOf) (rs : List AtomOf) (x : Ex) : Type 0 where
  pub fits : fits_ex (n + length rows) x ≡ true
  pub exact : x ≡ rows_ex n rows rs
  pub same : (sorts : List Sort) (k : World) → Agrees n rows k → ev x k.atoms ≡ Truth (all_true (valuation_of sorts k) rs)

-- what one over incarnations is over atoms that are there; it is worth what that is, where no relation in it is refused
pub record Means (sorts : List Sort) (n : ℕ) (rows : List AtomOf) (e x : Ex) : Type 0 where
  pub fits : fits_ex (n + length rows) x ≡ true
  pub exact : x ≡ over sorts n rows e
  pub same : first_refused sorts e ≡ None → (k : World) → Agrees n rows k → Holds sorts k → ev x k.atoms ≡ ev e k.scope
