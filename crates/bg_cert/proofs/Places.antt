-- A thing at a place, as code looks it up.
use Rattle.std.proofs.Common.{◌≡◌, ℕ, zero, suc, ◌<◌, ◌≤◌, List, [], ◌∷◌, length, map, get_or, refl, arith}
use Rattle.std.specs.Prelude.{Some, None}
use Rattle.bg_formula.specs.Atoms.{at}

pub at_there : {A : Type 0} (xs : List A) (n : ℕ) (d : A) → n < length xs → at xs n ≡ Some (get_or xs n d)
at_there [] n d h = absurd (omega arith)
at_there (x ∷ xs) zero d h = refl
at_there (x ∷ xs) (suc n) d h = at_there xs n d (omega arith)

pub at_missing : {A : Type 0} (xs : List A) (n : ℕ) → length xs ≤ n → at xs n ≡ None
at_missing [] n h = refl
at_missing (x ∷ xs) zero h = absurd (omega arith)
at_missing (x ∷ xs) (suc n) h = at_missing xs n (omega arith)

pub at_map_there : {A B : Type 0} (f : A → B) (xs : List A) (n : ℕ) (d : A) → n < length xs → at (map f xs) n ≡ Some (f (get_or xs n d))
at_map_there f [] n d h = absurd (omega arith)
at_map_there f (x ∷ xs) zero d h = refl
at_map_there f (x ∷ xs) (suc n) d h = at_map_there f xs n d (omega arith)

pub at_map_missing : {A B : Type 0} (f : A → B) (xs : List A) (n : ℕ) → length xs ≤ n → at (map f xs) n ≡ None
at_map_missing f [] n h = refl
at_map_missing f (x ∷ xs) zero h = absurd (omega arith)
at_map_missing f (x ∷ xs) (suc n) h = at_map_missing f xs n (omega arith)
