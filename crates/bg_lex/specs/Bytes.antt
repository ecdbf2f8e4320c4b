-- Runs of bytes of one class.
use Rattle.std.specs.Prelude.{ℕ, List, length, take_while, Bool, not, ◌==◌}
use Rattle.bg_text.specs.Pieces.{is_digit, is_ident}

-- how many digits stand in front
abbrev pub digits_in : List ℕ → ℕ
digits_in bytes = length (take_while is_digit bytes)

-- how many bytes of a word stand in front
abbrev pub word_in : List ℕ → ℕ
word_in bytes = length (take_while is_ident bytes)

-- a byte that ends no line
unfoldable pub is_inside_line : ℕ → Bool
is_inside_line b = not (b == 10)

-- how many bytes the line has from here on
abbrev pub line_in : List ℕ → ℕ
line_in bytes = length (take_while is_inside_line bytes)
