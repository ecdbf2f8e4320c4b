-- The first values of a list.
use Rattle.std.proofs.Common.{◌≡◌, ℕ, zero, suc, ◌<◌, List, [], ◌∷◌, take, refl, arith}
use Rattle.bg_ast.specs.Values.{Val}
use Rattle.bg_sense.specs.Eval.{value_at}

pub first_at : (n : ℕ) (vs : List Val) (j : ℕ) → j < n → value_at vs j ≡ value_at (take n vs) j
first_at zero vs j l = absurd (omega (arith, l))
first_at (suc n) [] j l = refl
first_at (suc n) (v ∷ vs) zero l = refl
first_at (suc n) (v ∷ vs) (suc j) l = first_at n vs j (omega (arith, l))
