-- The rows of relations between linear forms, each with its denial.
use Rattle.std.specs.Prelude.{Bool, true, false, not, ◌&&◌, if◌then◌else◌, List, [], ◌∷◌, pos, negsuc, Result, Ok}
use Rattle.bg_base.specs.declared.exact.Op.TheVariants as arith
use Rattle.bg_base.specs.declared.exact.OutOfRange.{OutOfRange}
use Rattle.bg_base.specs.Exact.{difference_of}
use Rattle.bg_text.specs.declared.expr.InfixSign.{InfixSign}
use Rattle.bg_text.specs.declared.expr.InfixSign.TheVariants as sign
use Rattle.bg_ast.specs.Syntax.{Ex, Op, And, Or, Implies, Iff, Equal, Unequal, Less, AtMost, Greater, AtLeast, Plus, Minus, Times}
use Rattle.bg_rows.specs.Rows.{RowOf, and_then}
use Rattle.bg_formula.specs.Atoms.{AtomOf, row_and_denial}
use Rattle.bg_formula.specs.Meaning.{Valuation, atom_true}
use Rattle.bg_linear.specs.Lins.{LinOf, together}
use Rattle.bg_linear.specs.Forms.{linear}

-- the row that says that a form is at most 0, or that it is below 0
abbrev pub bounded : Bool → LinOf → Result RowOf OutOfRange
bounded strict f =
    and_then (difference_of (if strict then negsuc 0 else pos 0) f.constant) (λ c. Ok (record { entries = f.entries; bound = c }))

-- the row that says that f is at most g, or that it is below g, with its denial: f minus g is bounded
abbrev pub compared : Bool → LinOf → LinOf → Result AtomOf OutOfRange
compared strict f g = and_then (together arith.Minus f g) (λ h. and_then (bounded strict h) row_and_denial)

abbrev pub alone : Result AtomOf OutOfRange → Result (List AtomOf) OutOfRange
alone r = and_then r (λ a. Ok (a ∷ []))

-- f is at most g, then g at most f
abbrev pub both_ways : LinOf → LinOf → Result (List AtomOf) OutOfRange
both_ways f g = and_then (compared false f g) (λ a. and_then (compared false g f) (λ b. Ok (a ∷ b ∷ [])))

-- the rows of a relation between two forms; an inequality has those of the equality that it denies
abbrev pub related : Op → LinOf → LinOf → Result (List AtomOf) OutOfRange
related AtMost f g = alone (compared false f g)
related Less f g = alone (compared true f g)
related AtLeast f g = alone (compared false g f)
related Greater f g = alone (compared true g f)
related Equal f g = both_ways f g
related Unequal f g = both_ways f g
related _ f g = Ok []

-- the rows of a relation between two expressions: the left form, the right form, and their rows
abbrev pub relation : Op → Ex → Ex → Result (List AtomOf) OutOfRange
relation op a b = and_then (linear a) (λ f. and_then (linear b) (λ g. related op f g))

abbrev pub all_true : Valuation → List AtomOf → Bool
all_true v [] = true
all_true v (a ∷ rest) = atom_true v a && all_true v rest

-- whether an operator relates numbers
abbrev pub relates : Op → Bool
relates Equal = true
relates Unequal = true
relates Less = true
relates AtMost = true
relates Greater = true
relates AtLeast = true
relates _ = false

-- what a relation says of whether its rows are all true
abbrev pub says : Op → Bool → Bool
says Unequal b = not b
says _ b = b

-- the operator that a sign writes
abbrev pub op_of : InfixSign → Op
op_of sign.Iff = Iff
op_of sign.Implies = Implies
op_of sign.Explies = Implies
op_of sign.And = And
op_of sign.Or = Or
op_of sign.Equal = Equal
op_of sign.Unequal = Unequal
op_of sign.Less = Less
op_of sign.AtMost = AtMost
op_of sign.Greater = Greater
op_of sign.AtLeast = AtLeast
op_of sign.Plus = Plus
op_of sign.Minus = Minus
op_of sign.Times = Times
