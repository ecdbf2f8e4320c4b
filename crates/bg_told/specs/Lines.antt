-- Parts of a report's lines.
use Rattle.std.specs.Prelude.{ℕ, nat_le, Bool, List, [], ◌∷◌, ◌++◌, Option, Some, None, codes}
use Rattle.bg_sound.specs.Told.{Word, AllProved, SomeRefuted, SomeUnknown}

-- the texts of the pairs of two lists, as far as both go
abbrev pub texts : {A B : Type 0} → (A → B → List ℕ) → List A → List B → List ℕ
texts text [] ys = []
texts text (x ∷ xs) [] = []
texts text (x ∷ xs) (y ∷ ys) = text x y ++ texts text xs ys

abbrev pub text_or_none : Option (List ℕ) → List ℕ
text_or_none None = []
text_or_none (Some name) = name

-- a byte that isn't below that of a space, so no newline
abbrev pub is_printed : ℕ → Bool
is_printed b = nat_le 32 b

abbrev pub word_text : Word → List ℕ
word_text AllProved = codes "verified"
word_text SomeRefuted = codes "refuted"
word_text SomeUnknown = codes "unknown"
