-- Lists of the code's scalars, and indices by their numbers.
use Rattle.std.specs.Prelude.{ℤ, Bool, false, ◌||◌, List, [], ◌∷◌, map}
use Rattle.bg_ast.specs.Values.{Val, number_of}
use Rattle.bg_scalar.specs.declared.scalar.Scalar.{Scalar}
use Rattle.bg_scalar.specs.Values.{val_of}
use Rattle.bg_scalar.specs.Worths.{is_table}

-- scalars as values
abbrev pub scalars_in : List Scalar → List Val
scalars_in xs = map val_of xs

-- the number that stands for a scalar at an index
abbrev pub part_of : Scalar → ℤ
part_of x = number_of (val_of x)

abbrev pub key_of : List Scalar → List ℤ
key_of xs = map part_of xs

-- whether one of these values is a map
abbrev pub has_table : List Val → Bool
has_table [] = false
has_table (v ∷ vs) = is_table v || has_table vs
