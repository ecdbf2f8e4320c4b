-- Terms that stand in front of others.
use Rattle.std.proofs.Common.{◌≡◌, ℕ, zero, suc, List, [], ◌∷◌, ◌++◌, Some}
use Rattle.std.specs.Prelude.{slice_get}

pub stays : {A : Type 0} (xs ys : List A) (a : ℕ) (x : A) → slice_get xs a ≡ Some x → slice_get (xs ++ ys) a ≡ Some x
stays [] ys a x e = let bad : ⊥ = cc in absurd bad
stays (z ∷ xs) ys zero x e = e
stays (z ∷ xs) ys (suc a) x e = stays xs ys a x e
