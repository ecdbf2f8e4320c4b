-- Truth values of a list, by place, and values that are truth values.
use Rattle.std.specs.Prelude.{ℕ, zero, suc, Bool, false, List, [], ◌∷◌, slice_get, unwrap_or}
use Rattle.bg_ast.specs.Values.{Val, Truth}

-- the truth value at a place; false past the end of the list
abbrev pub bools_at : List Bool → ℕ → Bool
bools_at bs j = unwrap_or (slice_get bs j) false

-- the values of so many truth variables, from the first one on
abbrev pub truth_values : (ℕ → Bool) → ℕ → List Val
truth_values t zero = []
truth_values t (suc n) = Truth (t zero) ∷ truth_values (λ j. t (suc j)) n
