-- The sorts of what stands for the values of incarnations and terms.
use Rattle.std.specs.Prelude.{List, map}
use Rattle.bg_ast.specs.Values.{Ty}
use Rattle.bg_linear.specs.declared.scalar.Sort.{Sort}
use Rattle.bg_sorts.specs.Sorts.{sort_of_type}
use Rattle.bg_terms.specs.Alike.{scalar_ty}

-- truth values, and numbers for all else
abbrev pub flat_sorts : List Ty → List Sort
flat_sorts tys = map sort_of_type (map scalar_ty tys)
