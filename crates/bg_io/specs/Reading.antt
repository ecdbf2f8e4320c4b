-- A text that grows by one file after the other.
use Rattle.std.specs.Prelude.{ℕ, zero, suc, List, ◌∷◌, ◌++◌, Option, option_map}

-- the text so far with what is left of the file, where that is told
abbrev pub with_rest : List ℕ → Option (List ℕ) → Option (List ℕ)
with_rest text left = option_map (λ rest. text ++ rest) left

-- what the file of this number adds: its bytes, after a newline byte unless it is the first
abbrev pub next_piece : ℕ → List ℕ → List ℕ
next_piece zero bytes = bytes
next_piece (suc file) bytes = 10 ∷ bytes
