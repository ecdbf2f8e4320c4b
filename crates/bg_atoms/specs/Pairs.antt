-- Two lists, place by place.
use Rattle.std.specs.Prelude.{List, [], ◌∷◌}

-- as many on both sides, and each pair is related
abbrev pub Pairs : {A B : Type 0} → (A → B → Type 0) → List A → List B → Type 0
Pairs R [] [] = Unit {0}
Pairs R (x ∷ xs) (y ∷ ys) = R x y × Pairs R xs ys
Pairs R _ _ = ⊥
