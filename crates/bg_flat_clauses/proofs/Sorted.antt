-- Flat blocks say truths over sorts.
use Rattle.std.proofs.Common.{◌≡◌, true, List, [], ◌∷◌, map}
use Rattle.bg_ast.specs.Values.{Ty, IntTy, BoolTy, UserTy, MapTy}
use Rattle.bg_ast.specs.Syntax.{Ex}
use Rattle.bg_sense.specs.Typed.{IsLinear}
use Rattle.bg_linear.specs.Sorts.{kind_ex, is_truth}
use Rattle.bg_flat_clauses.specs.Sorts.{flat_sorts}
use Rattle.bg_faithful.proofs.ValueTypes.{AreBasic}
use Rattle.bg_faithful.proofs.Kinded.{truths_sorted}
use Rattle.bg_terms.specs.Alike.{HasFlatType, scalar_ty}
use Rattle.bg_terms.proofs.Linear.{over_scalars, no_old}

pub scalars_of : (tys : List Ty) → AreBasic (map scalar_ty tys)
scalars_of [] = tt
scalars_of (IntTy ∷ tys) = (tt, scalars_of tys)
scalars_of (BoolTy ∷ tys) = (tt, scalars_of tys)
scalars_of (UserTy u ∷ tys) = (tt, scalars_of tys)
scalars_of (MapTy ks t ∷ tys) = (tt, scalars_of tys)

pub truth_sorted : (tys : List Ty) (x : Ex) → HasFlatType tys x BoolTy → IsLinear x → is_truth (kind_ex (flat_sorts tys) x) ≡ true
truth_sorted tys x h l =
    truths_sorted (map scalar_ty tys) (scalars_of tys) x (over_scalars tys x BoolTy h) l (no_old tys x BoolTy h)
