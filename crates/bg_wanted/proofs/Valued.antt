-- Values behind scalars, one by one.
use Rattle.std.proofs.Common.{◌≡◌, ◌⊎◌, ℕ, zero, suc, ◌+◌, ◌<◌, List, [], ◌∷◌, ◌++◌, length, get_or, Some, refl, sym, ap, ◌∙◌, arith, inl, inr, ⊎_elim}
use Rattle.std.specs.Prelude.{slice_get}
use Rattle.bg_ast.specs.Values.{Val, Ty}
use Rattle.bg_sense.specs.Eval.{value_at}
use Rattle.bg_numbered.specs.Put.{ty_or}
use Rattle.bg_scalar.specs.declared.scalar.Scalar.{Scalar}
use Rattle.bg_scalar.specs.Values.{val_of}
use Rattle.bg_wanted.specs.Scalars.{scalars_in}
use Rattle.bg_wanted.proofs.Grouping.{value_item}

-- the first so many values are behind scalars of these types
abbrev pub AreSoFar : (Ty → Val → Val) → List Ty → List Val → ℕ → List Val → Type 0
AreSoFar f tys s j w =
    (k : ℕ) (t : Ty) → k < j → slice_get tys k ≡ Some t → slice_get w k ≡ Some (f t (value_at s k))

before_last : (k j : ℕ) → k < j + 1 → (k < j) ⊎ (k ≡ j)
before_last zero zero h = inr refl
before_last zero (suc j) h = inl (omega arith)
before_last (suc k) zero h = absurd (omega (arith, h))
before_last (suc k) (suc j) h = ⊎_elim (λ g. inl (omega (arith, g))) (λ e. inr (ap suc e)) (before_last k j (omega (arith, h)))

kept_at : (w : List Val) (v x : Val) (k : ℕ) → slice_get w k ≡ Some x → slice_get (w ++ v ∷ []) k ≡ Some x
kept_at [] v x k e = absurd (let bad : ⊥ = cc in bad)
kept_at (u ∷ w) v x zero e = e
kept_at (u ∷ w) v x (suc k) e = kept_at w v x k e

last_at : (w : List Val) (v : Val) → slice_get (w ++ v ∷ []) (length w) ≡ Some v
last_at [] v = refl
last_at (u ∷ w) v = last_at w v

pub more_so_far : (f : Ty → Val → Val) (tys : List Ty) (s : List Val) (j : ℕ) (w : List Val) (v : Val) → length w ≡ j → AreSoFar f tys s j w → ((t : Ty) → slice_get tys j ≡ Some t → v ≡ f t (value_at s j)) → AreSoFar f tys s (j + 1) (w ++ v ∷ [])
more_so_far f tys s j w v len so is k t lt e =
    ⊎_elim (λ h. kept_at w v (f t (value_at s k)) k (so k t h e)) (λ h. here h) (before_last k j lt)
  where
    here : k ≡ j → slice_get (w ++ v ∷ []) k ≡ Some (f t (value_at s k))
    here h =
        ap (slice_get (w ++ v ∷ [])) (h ∙ sym len)
        ∙ (last_at w v
        ∙ (ap (λ x. Some x) (is t (ap (slice_get tys) (sym h) ∙ e)) ∙ ap (λ i. Some (f t (value_at s i))) (sym h)))

-- the value that was made for the scalar at a place
pub made_at : (scalars : List Scalar) (j place : ℕ) (d : Scalar) (f : Ty → Val → Val) (tys : List Ty) (v : Val) → j < length scalars → place ≡ j → v ≡ f (ty_or (slice_get tys place)) (val_of (get_or scalars j d)) → (t : Ty) → slice_get tys j ≡ Some t → v ≡ f t (value_at (scalars_in scalars) j)
made_at scalars j place d f tys v lt at is t e =
    is
    ∙ (ap (λ u. f u (val_of (get_or scalars j d))) (ap ty_or (ap (slice_get tys) at ∙ e))
    ∙ ap (f t) (sym (value_item scalars j j d lt refl)))

pub below : {A : Type 0} (xs : List A) (k : ℕ) (x : A) → slice_get xs k ≡ Some x → k < length xs
below [] k x e = absurd (let bad : ⊥ = cc in bad)
below (y ∷ xs) zero x e = omega arith
below (y ∷ xs) (suc k) x e = let h = below xs k x e in omega (arith, h)
