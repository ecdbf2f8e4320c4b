-- The sorts of types, and the types of variables.
use Rattle.std.specs.Prelude.{List, Option, Some, None, slice_get}
use Rattle.bg_ast.specs.Values.{Ty, IntTy, BoolTy, UserTy, MapTy}
use Rattle.bg_ast.specs.Syntax.{Var, Global, Local}
use Rattle.bg_linear.specs.declared.scalar.Sort.{Sort}
use Rattle.bg_linear.specs.declared.scalar.Sort.TheVariants as sort

-- the sort of what stands for a value of this type: elements are told apart by their numbers
abbrev pub sort_of_type : Ty → Sort
sort_of_type BoolTy = sort.Truth
sort_of_type IntTy = sort.Number
sort_of_type (UserTy u) = sort.Number
sort_of_type (MapTy ks t) = sort.Other

-- what is not declared is a number
abbrev pub type_or : Option Ty → Ty
type_or None = IntTy
type_or (Some t) = t

-- the type of a variable, where globals and the frame have these
abbrev pub variable_type : List Ty → List Ty → Var → Ty
variable_type globals frame (Global x) = type_or (slice_get globals x)
variable_type globals frame (Local x) = type_or (slice_get frame x)
