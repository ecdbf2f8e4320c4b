-- Lists whose members mean one another, and names that are declared once.
use Rattle.std.specs.Prelude.{◌≡◌, ℕ, List, [], ◌∷◌, ◌++◌, Option, Some, None, Contains}

-- as many on both sides, each with its partner
abbrev pub Match : {A B : Type 0} → (A → B → Type 0) → List A → List B → Type 0
Match R [] [] = Unit {0}
Match R (x ∷ xs) (y ∷ ys) = R x y × Match R xs ys
Match R _ _ = ⊥

-- each gives a list, and these stand one behind the other
abbrev pub Joined : {A B : Type 0} → (A → List B → Type 0) → List A → List B → Type 0
Joined R [] ys = ys ≡ []
Joined {B = B} R (x ∷ xs) ys = (us : List B) × ((vs : List B) × R x us × Joined R xs vs × (ys ≡ us ++ vs))

-- neither is there, or both are
abbrev pub Both : {A B : Type 0} → (A → B → Type 0) → Option A → Option B → Type 0
Both R None None = Unit {0}
Both R (Some x) (Some y) = R x y
Both R _ _ = ⊥

-- no name stands twice
abbrev pub AreOnce : List (List ℕ) → Type 0
AreOnce [] = Unit {0}
AreOnce (x ∷ xs) = (Contains xs x → ⊥) × AreOnce xs
