-- What was made in pieces.
use Rattle.std.specs.Prelude.{◌≡◌, List, [], ◌∷◌, ◌++◌, Vec, Result, Ok, Err}
use Rattle.std.specs.declared.alloc.Global.{Global}
use Rattle.std.specs.declared.alloc.AllocError.{AllocError}

-- what a piece has, or that memory ran out
abbrev pub Piece : Type 0 → Type 0
Piece A = Result (Vec A Global) AllocError

-- a piece is there, and ys is xs with what it has behind
abbrev pub IsWith : {A : Type 0} → Piece A → List A → List A → Type 0
IsWith (Ok v) xs ys = ys ≡ xs ++ v.items
IsWith (Err e) xs ys = ⊥

-- each piece is there, and ys is what they have, one behind the other
abbrev pub Joins : {A : Type 0} → List (Piece A) → List A → Type 0
Joins [] ys = ys ≡ []
Joins {A} (Ok v ∷ rs) ys = (zs : List A) × (ys ≡ v.items ++ zs) × Joins rs zs
Joins (Err e ∷ rs) ys = ⊥
