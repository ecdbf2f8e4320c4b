-- Constants, with their types.
use Rattle.std.specs.Prelude.{ℕ, List, map}
use Rattle.bg_ast.specs.Values.{Ty}
use Rattle.bg_ast.specs.Syntax.{Const}
use Rattle.bg_ast.specs.Meaning.{named_of, const_of}
use Rattle.bg_ast.specs.declared.resolved.TypeName.{TypeName}
use Rattle.bg_ast.specs.declared.resolved.Constant.{Constant}
use Rattle.bg_ast.specs.Views as v
use Rattle.bg_kinds.specs.Views.{ref_in}
use Rattle.bg_opening.specs.declared.uniques.Unique.{Unique}

-- with synonyms unfolded
abbrev pub constants_in : List TypeName → List Constant → List Const
constants_in types cs = map (const_of (named_of (map v.type_name_of types))) (map v.const_of cs)

-- a unique constant's number, and its type
abbrev pub unique_of : Unique → ℕ × Ty
unique_of u = (u.number, ref_in u.kind)
