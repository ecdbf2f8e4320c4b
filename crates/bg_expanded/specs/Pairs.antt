-- How many pairs of unique constants there are.
use Rattle.std.specs.Prelude.{◌≡◌, ◌<◌, ◌≤◌, ℕ, ◌+◌, ◌-◌, if◌then◌else◌, List, [], ◌∷◌, length, get_or, drop, map}
use Rattle.bg_ast.specs.Values.{Ty}
use Rattle.bg_sense.specs.Types.{ty_eq}
use Rattle.bg_kinds.specs.Views.{ref_in}
use Rattle.bg_opening.specs.Constants.{unique_of}
use Rattle.bg_opening.specs.declared.uniques.Unique.{Unique}
use Rattle.bg_expanded.specs.Bodies.{IsAlike}

-- one, where both types are the same
abbrev pub one_with : Ty → Ty → ℕ
one_with t u = if ty_eq t u then 1 else 0

-- of a constant of this type, with each of these of its type
abbrev pub count_with : Ty → List (ℕ × Ty) → ℕ
count_with t [] = 0
count_with t (x ∷ xs) = one_with t x.1 + count_with t xs

-- of each with each later one of its type
abbrev pub pair_count : List (ℕ × Ty) → ℕ
pair_count [] = 0
pair_count (x ∷ xs) = count_with x.1 xs + pair_count xs

-- of each from a place on, how many behind it are of its type, from the last one on
abbrev pub AreCounts : List Unique → ℕ → List ℕ → Type 0
AreCounts told from counts = (j : ℕ) (x : Unique) → from ≤ j → j < length told → x ≡ get_or told j x → IsAlike (get_or counts ((length told - 1) - j) 0) (count_with (ref_in x.kind) (map unique_of (drop (j + 1) told)))
