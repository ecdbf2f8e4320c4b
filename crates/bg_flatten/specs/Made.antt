-- What is made over a table of terms, and the table behind it.
use Rattle.std.specs.Prelude.{◌≡◌, List}
use Rattle.bg_terms.specs.Terms.{Term}
use Rattle.bg_flatten.specs.Numbered.{list_behind, list_numbered}

-- by these functions, of a thing and the table before it
abbrev pub IsMade : {A : Type 0} → (A → List Term → List Term) → (A → List Term → A) → A → List Term → A → List Term → Type 0
IsMade f g e old x new = (x ≡ g e old) × (new ≡ f e old)

-- the same of a list, one after the other
abbrev pub AreMade : {A : Type 0} → (A → List Term → List Term) → (A → List Term → A) → List A → List Term → List A → List Term → Type 0
AreMade f g es old xs new = (xs ≡ list_numbered f g es old) × (new ≡ list_behind f es old)
