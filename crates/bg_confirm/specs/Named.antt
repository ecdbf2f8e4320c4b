-- Whether a certificate's values have the names of constants, and are of their types.
use Rattle.std.specs.Prelude.{Bool, List}
use Rattle.std.specs.Str.{bytes_eq}
use Rattle.bg_ast.specs.Values.{Ty}
use Rattle.bg_ast.specs.Resolved as r
use Rattle.bg_ast.specs.declared.resolved.Constant.{Constant}
use Rattle.bg_certtext.specs.declared.text.Given.{Given}
use Rattle.bg_certtext.specs.Views.{given_of}
use Rattle.bg_confirm.specs.Typed.{value_fits}

abbrev pub same_name : Constant → Given → Bool
same_name c g = bytes_eq c.name.text.items g.name.now

abbrev pub given_fits : List r.TypeName → Ty → Given → Bool
given_fits types t g = value_fits types t (given_of g).value
