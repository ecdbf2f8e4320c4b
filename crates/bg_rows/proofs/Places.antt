-- A row at a place, as code looks it up.
use Rattle.std.proofs.Common.{◌≡◌, ℕ, zero, suc, ◌<◌, ◌≤◌, List, [], ◌∷◌, length, map, get_or, refl, arith}
use Rattle.std.specs.Prelude.{Some, None}
use Rattle.bg_rows.specs.Rows.{RowOf}
use Rattle.bg_rows.specs.Steps.{row_at}

pub at_map_there : {A : Type 0} (f : A → RowOf) (xs : List A) (n : ℕ) (d : A) → n < length xs → row_at (map f xs) n ≡ Some (f (get_or xs n d))
at_map_there f [] n d h = absurd (omega arith)
at_map_there f (x ∷ xs) zero d h = refl
at_map_there f (x ∷ xs) (suc n) d h = at_map_there f xs n d (omega arith)

pub at_map_missing : {A : Type 0} (f : A → RowOf) (xs : List A) (n : ℕ) → length xs ≤ n → row_at (map f xs) n ≡ None
at_map_missing f [] n h = refl
at_map_missing f (x ∷ xs) zero h = absurd (omega arith)
at_map_missing f (x ∷ xs) (suc n) h = at_map_missing f xs n (omega arith)
