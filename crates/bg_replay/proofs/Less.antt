-- Places in lists.
use Rattle.std.proofs.Common.{◌≡◌, ℕ, zero, suc, Bool, true, false, List, [], ◌∷◌, length, Option, Some, None, sym, ◌∙◌, arith}
use Rattle.std.specs.Prelude.{nat_lt, slice_get}
use Rattle.std.proofs.lemmas.Bool.Decides.{nat_tests}

pub lt_suc : (a b : ℕ) → nat_lt (suc a) (suc b) ≡ nat_lt a b
lt_suc a b = grind (arith, nat_tests)

pub lt_none : (a : ℕ) → nat_lt a 0 ≡ false
lt_none a = grind (arith, nat_tests)

pub lt_zero : (b : ℕ) → nat_lt zero (suc b) ≡ true
lt_zero b = grind (arith, nat_tests)

abbrev pub is_some : {A : Type 0} → Option A → Bool
is_some None = false
is_some (Some a) = true

pub some_at : {A : Type 0} (xs : List A) (j : ℕ) → is_some (slice_get xs j) ≡ nat_lt j (length xs)
some_at [] j = sym (lt_none j)
some_at (x ∷ xs) zero = sym (lt_zero (length xs))
some_at (x ∷ xs) (suc j) = some_at xs j ∙ sym (lt_suc j (length xs))
