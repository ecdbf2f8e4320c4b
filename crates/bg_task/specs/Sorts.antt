-- The sorts of what stands for values of incarnations and terms.
use Rattle.bg_ast.specs.Values.{Ty, IntTy, BoolTy, UserTy, MapTy}
use Rattle.bg_linear.specs.declared.scalar.Sort.{Sort}
use Rattle.bg_linear.specs.declared.scalar.Sort.TheVariants as sort

-- truth values themselves, and numbers for all else
abbrev pub flat_sort : Ty → Sort
flat_sort BoolTy = sort.Truth
flat_sort IntTy = sort.Number
flat_sort (UserTy u) = sort.Number
flat_sort (MapTy ks t) = sort.Number
