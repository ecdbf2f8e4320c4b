-- How the code's types of variables are read.
use Rattle.std.specs.Prelude.{map}
use Rattle.bg_ast.specs.Values.{Ty}
use Rattle.bg_ast.specs.Syntax.{Var}
use Rattle.bg_kinds.specs.Views.{ref_in}
use Rattle.bg_sorts.specs.declared.known.Known.{Known}
use Rattle.bg_sorts.specs.Sorts.{variable_type}

abbrev pub types_in : Known → Var → Ty
types_in known = variable_type (map ref_in known.globals.now) (map ref_in known.frame.now)
