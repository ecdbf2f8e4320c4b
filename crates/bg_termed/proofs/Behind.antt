-- The values behind numbers and truth values.
use Rattle.std.proofs.Common.{◌≡◌, ℕ, zero, suc, Bool, true, List, [], ◌∷◌, map, Some, refl, ap}
use Rattle.std.specs.Prelude.{ℤ, slice_get}
use Rattle.bg_ast.specs.Values.{Val, Ty, is_of}
use Rattle.bg_sense.specs.Eval.{value_at}
use Rattle.bg_sense.specs.Types.{are_of}
use Rattle.bg_sense.proofs.Bools.{and_right, both}
use Rattle.bg_linear.specs.Sorts.{scalar_values}
use Rattle.bg_faithful.proofs.Values.{values_typed}
use Rattle.bg_terms.specs.Terms.{Term}
use Rattle.bg_terms.specs.Alike.{scalar_ty}
use Rattle.bg_terms.specs.Built.{built}
use Rattle.bg_terms.proofs.Built.{built_typed}
use Rattle.bg_flat_clauses.specs.Sorts.{flat_sorts}
use Rattle.bg_flat_clauses.proofs.Sorted.{scalars_of}
use Rattle.bg_read_off.specs.Leaves.{AreBuilt}
use Rattle.bg_read_off.specs.Built.{each_built, built_all}

-- numbers and truth values are of the types of what stands for values
pub scalars_typed : (tys : List Ty) (numbers : ℕ → ℤ) (truths : ℕ → Bool) → are_of (map scalar_ty tys) (scalar_values numbers truths (flat_sorts tys)) ≡ true
scalars_typed tys numbers truths = values_typed (map scalar_ty tys) numbers truths (scalars_of tys)

each_at : (f : Ty → Val → Val) (tys : List Ty) (vs : List Val) (j : ℕ) (t : Ty) → are_of (map scalar_ty tys) vs ≡ true → slice_get tys j ≡ Some t → value_at (each_built f tys vs) j ≡ f t (value_at vs j)
each_at f [] vs j t h e = absurd (let bad : ⊥ = cc in bad)
each_at f (u ∷ tys) [] j t h e = absurd (let bad : ⊥ = cc in bad)
each_at f (u ∷ tys) (v ∷ vs) zero t h e = let same : u ≡ t = cc in ap (λ x. f x v) same
each_at f (u ∷ tys) (v ∷ vs) (suc j) t h e =
    each_at f tys vs j t (and_right (is_of (scalar_ty u) v) (are_of (map scalar_ty tys) vs) h) e

each_typed : (f : Ty → Val → Val) → ((t : Ty) (v : Val) → is_of t (f t v) ≡ true) → (tys : List Ty) (vs : List Val) → are_of (map scalar_ty tys) vs ≡ true → are_of tys (each_built f tys vs) ≡ true
each_typed f typed [] vs h = refl
each_typed f typed (t ∷ tys) [] h = absurd (let bad : ⊥ = cc in bad)
each_typed f typed (t ∷ tys) (v ∷ vs) h =
    both (is_of t (f t v)) (are_of tys (each_built f tys vs)) (typed t v) (each_typed f typed tys vs (and_right (is_of (scalar_ty t) v) (are_of (map scalar_ty tys) vs) h))

module _ (n : ℕ) (ts : List Term) (tys : List Ty) (s : List Val) (h : are_of (map scalar_ty tys) s ≡ true) where
  pub are_built : AreBuilt n ts tys s (built_all n ts tys s)
  are_built j t e = each_at (built s n ts) tys s j t h e

  pub all_typed : are_of tys (built_all n ts tys s) ≡ true
  all_typed = each_typed (built s n ts) (built_typed s n ts) tys s h
