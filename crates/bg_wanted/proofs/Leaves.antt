-- Scalars one by one.
use Rattle.std.proofs.Common.{◌≡◌, ℕ, zero, suc, true, List, [], ◌∷◌, length, map, Some, refl, subst, arith}
use Rattle.std.specs.Prelude.{slice_get}
use Rattle.bg_ast.specs.Values.{Val, Ty, is_of}
use Rattle.bg_sense.specs.Eval.{value_at}
use Rattle.bg_sense.specs.Types.{are_of}
use Rattle.bg_sense.proofs.Bools.{and_left, and_right}
use Rattle.bg_terms.specs.Terms.{Term}
use Rattle.bg_terms.specs.Alike.{scalar_ty}
use Rattle.bg_terms.specs.Typed.{types_with}
use Rattle.bg_scalar.specs.declared.scalar.Scalar.{Scalar}
use Rattle.bg_scalar.specs.Values.{val_of}
use Rattle.bg_wanted.specs.Scalars.{scalars_in}

of_all : (tys : List Ty) (w : List Val) (j : ℕ) (t : Ty) → are_of (map scalar_ty tys) w ≡ true → slice_get tys j ≡ Some t → is_of (scalar_ty t) (value_at w j) ≡ true
of_all [] w j t h e = absurd (let bad : ⊥ = cc in bad)
of_all (u ∷ tys) [] j t h e = absurd (let bad : ⊥ = cc in bad)
of_all (u ∷ tys) (v ∷ w) zero t h e =
    let same : u ≡ t = cc in
    subst (λ x. is_of (scalar_ty x) v ≡ true) same (and_left (is_of (scalar_ty u) v) (are_of (map scalar_ty tys) w) h)
of_all (u ∷ tys) (v ∷ w) (suc j) t h e =
    of_all tys w j t (and_right (is_of (scalar_ty u) v) (are_of (map scalar_ty tys) w) h) e

pub each_scalar : (incs : List Ty) (ts : List Term) (s : List Val) → are_of (map scalar_ty (types_with incs ts)) s ≡ true → (j : ℕ) (t : Ty) → slice_get (types_with incs ts) j ≡ Some t → is_of (scalar_ty t) (value_at s j) ≡ true
each_scalar incs ts s h j t e = of_all (types_with incs ts) s j t h e

-- as many scalars as types
pub as_long : (tys : List Ty) (values : List Scalar) → are_of (map scalar_ty tys) (scalars_in values) ≡ true → length values ≡ length tys
as_long [] [] h = refl
as_long [] (v ∷ values) h = absurd (let bad : ⊥ = cc in bad)
as_long (t ∷ tys) [] h = absurd (let bad : ⊥ = cc in bad)
as_long (t ∷ tys) (v ∷ values) h =
    let e = as_long tys values (and_right (is_of (scalar_ty t) (val_of v)) (are_of (map scalar_ty tys) (scalars_in values)) h) in omega (arith, e)
