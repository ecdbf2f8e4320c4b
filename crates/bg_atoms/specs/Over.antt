-- Expressions over incarnations as expressions over atoms, and the first operation that leaves the range.
use Rattle.std.specs.Prelude.{ℕ, Bool, true, false, ◌&&◌, if◌then◌else◌, List, [], ◌∷◌, Option, Some, None, Result, Ok, Err, pos, int_le}
use Rattle.bg_base.specs.declared.exact.OutOfRange.{OutOfRange}
use Rattle.bg_ast.specs.Syntax.{Ex, Fact, Read, Not, Binary, Op, And}
use Rattle.bg_rows.specs.Rows.{RowOf, is_empty}
use Rattle.bg_formula.specs.declared.atom.Literal.{Literal}
use Rattle.bg_formula.specs.Atoms.{AtomOf, IsTruth, IsRow}
use Rattle.bg_forms.specs.Forms.{form_of}
use Rattle.bg_formed.specs.Formed.{Says}
use Rattle.bg_formed.specs.Used.{first_of}
use Rattle.bg_linear.specs.declared.scalar.Sort.{Sort}
use Rattle.bg_linear.specs.Relations.{relation, relates}
use Rattle.bg_linear.specs.Sorts.{kind_ex, is_number}
use Rattle.bg_atoms.specs.Ranks.{ranks_from, read_var}
use Rattle.bg_atoms.specs.Built.{literal_ex, says_ex}
use Rattle.bg_atoms.specs.Literals.{literal_of}

-- a relation of two numbers
abbrev pub relates_numbers : List Sort → Op → Ex → Ex → Bool
relates_numbers sorts op a b = relates op && (is_number (kind_ex sorts a) && is_number (kind_ex sorts b))

-- what says that a literal is true, if there is one
abbrev pub read_literal : Option Literal → Ex
read_literal (Some l) = literal_ex l.sign l.atom
read_literal None = Fact false

-- what says that a row holds, where these rows are the atoms from n on; a row without entries is plain
abbrev pub row_ex : ℕ → List AtomOf → RowOf → Ex
row_ex n rows r = if is_empty r.entries then Fact (int_le (pos 0) r.bound) else read_literal (literal_of r n rows)

-- what says that all of them hold
abbrev pub rows_ex : ℕ → List AtomOf → List AtomOf → Ex
rows_ex n rows [] = Fact true
rows_ex n rows (IsTruth x ∷ rs) = rows_ex n rows rs
rows_ex n rows (IsRow r d ∷ rs) = Binary And (row_ex n rows r) (rows_ex n rows rs)

-- what says a relation; of one that is refused nothing is said
abbrev pub relation_ex : ℕ → List AtomOf → Op → Result (List AtomOf) OutOfRange → Ex
relation_ex n rows op (Ok rs) = says_ex op (rows_ex n rows rs)
relation_ex n rows op (Err o) = Fact false

-- the expression over atoms: a truth incarnation is its atom, a relation of numbers what says it of its rows
abbrev pub over : List Sort → ℕ → List AtomOf → Ex → Ex
over sorts n rows (Fact b) = Fact b
over sorts n rows (Read x) = read_var (ranks_from 0 sorts) x
over sorts n rows (Not e) = Not (over sorts n rows e)
over sorts n rows (Binary op a b) =
    if relates_numbers sorts op a b then relation_ex n rows op (relation op a b)
    else Binary op (over sorts n rows a) (over sorts n rows b)
over sorts n rows _ = Fact false

abbrev pub refusal : Result (List AtomOf) OutOfRange → Option OutOfRange
refusal (Ok rs) = None
refusal (Err o) = Some o

-- the first operation of its relations that leaves the range, in the order in which an expression is evaluated
abbrev pub first_refused : List Sort → Ex → Option OutOfRange
first_refused sorts (Not e) = first_refused sorts e
first_refused sorts (Binary op a b) =
    if relates_numbers sorts op a b then refusal (relation op a b)
    else first_of (first_refused sorts a) (first_refused sorts b)
first_refused sorts _ = None

abbrev pub says_unless : Option OutOfRange → Ex → Says
says_unless None x = Ok (form_of x)
says_unless (Some o) x = Err o

-- what is said of a truth over incarnations: its form over atoms, or the first operation for which there is none
abbrev pub says_over : List Sort → ℕ → List AtomOf → Ex → Says
says_over sorts n rows e = says_unless (first_refused sorts e) (over sorts n rows e)
