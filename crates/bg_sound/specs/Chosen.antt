-- Types of choices.
use Rattle.std.specs.Prelude.{Bool, true, false, ◌&&◌, List, [], ◌∷◌}
use Rattle.bg_ast.specs.Values.{Ty, is_int, is_of}
use Rattle.bg_ast.specs.Execution.{Choice, Branch, Chosen}

-- whether a choice is of this type: the number of a branch is an `int`
abbrev pub choice_is_of : Ty → Choice → Bool
choice_is_of t (Branch k) = is_int t
choice_is_of t (Chosen v) = is_of t v

-- whether choices are of these types, one for each
abbrev pub choices_are_of : List Ty → List Choice → Bool
choices_are_of [] [] = true
choices_are_of [] (c ∷ cs) = false
choices_are_of (t ∷ ts) [] = false
choices_are_of (t ∷ ts) (c ∷ cs) = choice_is_of t c && choices_are_of ts cs
