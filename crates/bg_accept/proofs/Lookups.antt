-- A thing at a place, as code looks it up.
use Rattle.std.proofs.Common.{◌≡◌, ℕ, zero, suc, ◌<◌, ◌≤◌, List, [], ◌∷◌, length, map, get_or, refl, arith}
use Rattle.std.specs.Prelude.{Some, None, slice_get}

pub there : {A : Type 0} (xs : List A) (n : ℕ) (d : A) → n < length xs → slice_get xs n ≡ Some (get_or xs n d)
there [] n d h = absurd (omega arith)
there (x ∷ xs) zero d h = refl
there (x ∷ xs) (suc n) d h = there xs n d (omega arith)

pub missing : {A : Type 0} (xs : List A) (n : ℕ) → length xs ≤ n → slice_get xs n ≡ None
missing [] n h = refl
missing (x ∷ xs) zero h = absurd (omega arith)
missing (x ∷ xs) (suc n) h = missing xs n (omega arith)

pub there_mapped : {A B : Type 0} (f : A → B) (xs : List A) (n : ℕ) (d : A) → n < length xs → slice_get (map f xs) n ≡ Some (f (get_or xs n d))
there_mapped f [] n d h = absurd (omega arith)
there_mapped f (x ∷ xs) zero d h = refl
there_mapped f (x ∷ xs) (suc n) d h = there_mapped f xs n d (omega arith)

pub none_mapped : {A B : Type 0} (f : A → B) (xs : List A) (n : ℕ) → length xs ≤ n → slice_get (map f xs) n ≡ None
none_mapped f [] n h = refl
none_mapped f (x ∷ xs) zero h = absurd (omega arith)
none_mapped f (x ∷ xs) (suc n) h = none_mapped f xs n (omega arith)
