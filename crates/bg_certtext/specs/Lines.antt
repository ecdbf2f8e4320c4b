-- Lines of words.
use Rattle.std.specs.Prelude.{ℕ, List, [], ◌∷◌, ◌++◌, flat_map}

-- a word behind one space
abbrev pub behind_space : List ℕ → List ℕ
behind_space word = 32 ∷ word

-- words, one space between two
abbrev pub spaced : List (List ℕ) → List ℕ
spaced [] = []
spaced (word ∷ words) = word ++ flat_map behind_space words

-- a line is ended by one newline byte
abbrev pub line : List (List ℕ) → List ℕ
line words = spaced words ++ 10 ∷ []

-- words, one comma between two
abbrev pub behind_comma : List ℕ → List ℕ
behind_comma word = 44 ∷ word

abbrev pub commas : List (List ℕ) → List ℕ
commas [] = []
commas (word ∷ words) = word ++ flat_map behind_comma words
