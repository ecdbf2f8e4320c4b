-- Lists whose items fit, one by one.
use Rattle.std.specs.Prelude.{Bool, true, false, ◌&&◌, List, [], ◌∷◌}

-- as many in the one list as in the other, and each passes with its own
abbrev pub each_fits : {A B : Type 0} → (A → B → Bool) → List A → List B → Bool
each_fits test [] [] = true
each_fits test [] (y ∷ ys) = false
each_fits test (x ∷ xs) [] = false
each_fits test (x ∷ xs) (y ∷ ys) = test x y && each_fits test xs ys
