-- What lists of expressions are worth, from left to right.
use Rattle.std.specs.Prelude.{List, ◌++◌}
use Rattle.bg_ast.specs.Values.{Val}
pub use Rattle.bg_scalar.specs.Worths.{Listed, Are, Leave, NoValues, more, cons, worths}
use Rattle.bg_scalar.specs.Views.{vals_in}
use Rattle.bg_scalar.specs.declared.held.ListWorth as code
use Rattle.bg_scalar.specs.declared.held.ListWorth.TheVariants as are

-- these in front
abbrev pub onto : List Val → Listed → Listed
onto xs (Are ys) = Are (xs ++ ys)
onto xs (Leave o) = Leave o
onto xs NoValues = NoValues

abbrev pub listed : code.ListWorth → Listed
listed (are.Are xs) = Are (vals_in xs.items)
listed (are.Leave o) = Leave o
listed are.NoValues = NoValues
