-- Rows of brackets, one after the other.
use Rattle.std.specs.Prelude.{List, [], ◌∷◌, Option, Some, None}
use Rattle.bg_ast.specs.declared.resolved.Bracket.{Bracket}
use Rattle.bg_ast.specs.Resolved as r
use Rattle.bg_ast.specs.Syntax.{Ex, Select, Update}
use Rattle.bg_ast.specs.Meaning.{ex_of, exs_of}
use Rattle.bg_ast.specs.Views.{bracket_view}

-- what a bracket behind an expression means
abbrev pub bracketed_by : Ex → r.Exs → Option r.Ex → Ex
bracketed_by e es None = Select e (exs_of es)
bracketed_by e es (Some v) = Update e (exs_of es) (ex_of v)

abbrev pub bracketed : Ex → Bracket → Ex
bracketed e b = bracketed_by e (bracket_view b).1 (bracket_view b).2

-- the first is the innermost
abbrev pub all_bracketed : Ex → List Bracket → Ex
all_bracketed e [] = e
all_bracketed e (b ∷ bs) = all_bracketed (bracketed e b) bs
