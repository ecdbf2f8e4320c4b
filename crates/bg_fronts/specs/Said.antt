-- What is supposed where something is said.
use Rattle.std.specs.Prelude.{List, [], ◌∷◌, Option, Some, None}
use Rattle.bg_ast.specs.declared.resolved.Expr.{Expr}
use Rattle.bg_passive.specs.Passive.{PassiveCmd, Supposes}
use Rattle.bg_term_table.specs.Views.{meaning}

abbrev pub supposed_by : Option Expr → List PassiveCmd
supposed_by None = []
supposed_by (Some e) = Supposes None (meaning e) ∷ []
