-- The interpretation of a counterexample.
use Rattle.std.specs.Prelude.{[]}
use Rattle.bg_ast.specs.Execution.{Interp}
use Rattle.bg_scalar.specs.Views.{tables_in}
use Rattle.bg_model.specs.declared.failure.Counterexample.{Counterexample}

-- functions have its tables, and there are no constants
abbrev pub interp_of : Counterexample → Interp
interp_of cex = record { constants = []; tables = tables_in cex.tables.items }
