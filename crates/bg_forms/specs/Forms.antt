-- Formulas over truth values as forms: conjunctions, denials, and pairs that are worth the same.
use Rattle.std.specs.Prelude.{ℕ, Bool, true, false, not, ◌&&◌, if◌then◌else◌, Option, Some, None}
use Rattle.bg_ast.specs.Syntax.{Ex, Fact, Read, Local, Not, Binary, Op, And, Or, Implies, Iff, Equal, Unequal}
use Rattle.bg_formula.specs.declared.atom.Literal.{Literal}
use Rattle.bg_formula.specs.Meaning.{same}

-- `NotSo f` denies f; `Same f g` says that both are worth the same
pub data Form : Type 0 where
  Plain : Bool → Form
  Is : Literal → Form
  NotSo : Form → Form
  Both : Form → Form → Form
  Same : Form → Form → Form

abbrev pub literal_in : (ℕ → Bool) → Literal → Bool
literal_in t l = same (t l.atom) l.sign

-- what a form is worth under truth values of the atoms
abbrev pub form_true : (ℕ → Bool) → Form → Bool
form_true t (Plain b) = b
form_true t (Is l) = literal_in t l
form_true t (NotSo f) = not (form_true t f)
form_true t (Both f g) = form_true t f && form_true t g
form_true t (Same f g) = same (form_true t f) (form_true t g)

-- the atom is true
abbrev pub is_true : ℕ → Form
is_true a = Is (record { atom = a; sign = true })

abbrev pub opposite : Literal → Literal
opposite l = record { atom = l.atom; sign = not l.sign }

abbrev pub plain_of : Form → Option Bool
plain_of (Plain b) = Some b
plain_of f = None

abbrev pub is_literal : Form → Bool
is_literal (Is l) = true
is_literal f = false

-- the denial: it is marked, and what is marked loses its mark
abbrev pub denied : Form → Form
denied (Plain b) = Plain (not b)
denied (Is l) = Is (opposite l)
denied (NotSo f) = f
denied (Both f g) = NotSo (Both f g)
denied (Same f g) = NotSo (Same f g)

abbrev pub both_by : Option Bool → Form → Form → Form
both_by (Some true) g rest = g
both_by (Some false) g rest = Plain false
both_by None g rest = rest

-- a literal stands in front of another form
abbrev pub both_beside : Form → Form → Form
both_beside f g = if is_literal g && not (is_literal f) then Both g f else Both f g

abbrev pub both_behind : Form → Form → Form
both_behind f g = both_by (plain_of g) f (both_beside f g)

-- the conjunction: none of its parts is plain
abbrev pub both_of : Form → Form → Form
both_of f g = both_by (plain_of f) g (both_behind f g)

-- the disjunction
abbrev pub any_of : Form → Form → Form
any_of f g = denied (both_of (denied f) (denied g))

abbrev pub same_by : Option Bool → Form → Form → Form
same_by (Some true) g rest = g
same_by (Some false) g rest = denied g
same_by None g rest = rest

abbrev pub same_behind : Form → Form → Form
same_behind f g = same_by (plain_of g) f (Same f g)

-- both are worth the same: neither part is plain
abbrev pub same_of : Form → Form → Form
same_of f g = same_by (plain_of f) g (same_behind f g)

-- two forms under an operator; those of numbers have none. What stands on the left in a chain comes last, so that the form of a
-- chain is nested on one side alone
abbrev pub joined_by : Op → Form → Form → Form
joined_by And f g = both_of g f
joined_by Or f g = any_of g f
joined_by Implies f g = any_of (denied f) g
joined_by Iff f g = same_of g f
joined_by Equal f g = same_of g f
joined_by Unequal f g = denied (same_of g f)
joined_by _ f g = Plain false

-- the form of an expression: the truth of incarnation j is atom j
abbrev pub form_of : Ex → Form
form_of (Fact b) = Plain b
form_of (Read (Local j)) = is_true j
form_of (Not e) = denied (form_of e)
form_of (Binary op a b) = joined_by op (form_of a) (form_of b)
form_of _ = Plain false
