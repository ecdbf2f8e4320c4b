-- The clauses of a place, of blocks of forms for it.
use Rattle.std.specs.Prelude.{◌≡◌, List, Ok}
use Rattle.bg_ast.specs.Syntax.{Prog}
use Rattle.bg_ast.specs.Execution.{Place}
use Rattle.bg_formula.specs.Formulas.{Formula, formula_of}
use Rattle.bg_clause.specs.Whole.{clauses_of}
use Rattle.bg_numbered.specs.Lines.{Line}
use Rattle.bg_task.specs.declared.cut.Cut.{Cut}
use Rattle.bg_task.specs.declared.clauses.Made.{Made}
use Rattle.bg_task.specs.declared.clauses.Made.TheVariants.{Clauses, Outside}
use Rattle.bg_task.specs.Slices.{encoding_in}
use Rattle.bg_task.specs.Certified.{HasOutside}

-- these are the clauses of blocks of forms for the place
abbrev pub ClausesOf : Cut → Place → Formula → Type 0
ClausesOf c t f =
    clauses_of (encoding_in c).first (encoding_in c).named (encoding_in c).terms (encoding_in c).rows t.spot (encoding_in c).blocks ≡ Ok f

-- what is made for a place behind these lines: its clauses, or the operation for which there are none
abbrev pub IsMade : Prog → List Line → Cut → Place → Made → Type 0
IsMade p lines c t (Clauses f) = ClausesOf c t (formula_of f)
IsMade p lines c t (Outside o) = HasOutside p t lines o
