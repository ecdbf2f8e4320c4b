-- How what is made is read.
use Rattle.std.specs.Prelude.{List, [], ◌∷◌, Option, Some, None}

-- one, or none
abbrev pub listed : {A : Type 0} → Option A → List A
listed None = []
listed (Some a) = a ∷ []
