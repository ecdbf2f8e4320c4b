-- Scalars of the types of what stands for values.
use Rattle.std.proofs.Common.{◌≡◌, ℕ, true, List, map, Some}
use Rattle.std.specs.Prelude.{slice_get}
use Rattle.bg_ast.specs.Values.{Val, Ty, is_of}
use Rattle.bg_sense.specs.Eval.{value_at}
use Rattle.bg_sense.specs.Types.{are_of}
use Rattle.bg_terms.specs.Alike.{scalar_ty}
use Rattle.bg_terms.proofs.Typed.{at_map}
use Rattle.bg_flat.proofs.Fronts.{each_of}

-- a scalar of the type of what stands for a value stands at each place
pub each_scalar : (tys : List Ty) (s : List Val) → are_of (map scalar_ty tys) s ≡ true → (j : ℕ) (t : Ty) → slice_get tys j ≡ Some t → is_of (scalar_ty t) (value_at s j) ≡ true
each_scalar tys s typed j t e = each_of (map scalar_ty tys) s j (scalar_ty t) typed (at_map scalar_ty tys j t e)
