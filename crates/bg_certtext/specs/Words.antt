-- How words are told apart, and which numbers they are.
use Rattle.std.specs.Prelude.{ℕ, suc, zero, ◌+◌, ◌-◌, ◌*◌, ◌^◌, Bool, ◌&&◌, not, ◌==◌, nat_le, List, [], ◌∷◌, length, take_while, Option, Some, None, ℤ, pos, negsuc, if◌then◌else◌}
use Rattle.bg_text.specs.Pieces.{is_digit}
use Rattle.bg_certtext.specs.Spellable.{is_empty}

unfoldable pub is_in_line : ℕ → Bool
is_in_line b = not (b == 10)

unfoldable pub is_in_word : ℕ → Bool
is_in_word b = not (b == 32)

-- how many bytes stand in front of the first newline, or space
abbrev pub line_in : List ℕ → ℕ
line_in bytes = length (take_while is_in_line bytes)

abbrev pub word_in : List ℕ → ℕ
word_in bytes = length (take_while is_in_word bytes)

abbrev pub in_first : ℕ → List (List ℕ) → List (List ℕ)
in_first b [] = (b ∷ []) ∷ []
in_first b (w ∷ ws) = (b ∷ w) ∷ ws

-- what stands between the spaces of a line, in order; perhaps nothing between two
abbrev pub words_of : List ℕ → List (List ℕ)
words_of [] = [] ∷ []
words_of (b ∷ bs) = if b == 32 then [] ∷ words_of bs else in_first b (words_of bs)

unfoldable pub is_in_part : ℕ → Bool
is_in_part b = not (b == 44)

-- how many bytes stand in front of the first comma
abbrev pub part_in : List ℕ → ℕ
part_in bytes = length (take_while is_in_part bytes)

-- what stands between the commas of a word, in order
abbrev pub parts_of : List ℕ → List (List ℕ)
parts_of [] = [] ∷ []
parts_of (b ∷ bs) = if b == 44 then [] ∷ parts_of bs else in_first b (parts_of bs)

-- a byte of a value that is no map: no space, no comma, no closing bracket
unfoldable pub is_in_value : ℕ → Bool
is_in_value b = not (b == 32) && (not (b == 44) && not (b == 93))

-- how many bytes stand in front of the first of these
abbrev pub value_end : List ℕ → ℕ
value_end bytes = length (take_while is_in_value bytes)

unfoldable pub is_in_type : ℕ → Bool
is_in_type b = not (b == 33)

-- how many bytes stand in front of the first exclamation mark
abbrev pub type_in : List ℕ → ℕ
type_in bytes = length (take_while is_in_type bytes)

-- the number of these digits behind one that is not 0, where it is not above the largest
abbrev pub digits_on : ℕ → ℕ → List ℕ → Option ℕ
digits_on largest n [] = Some n
digits_on largest n (b ∷ bs) =
    if is_digit b && nat_le (n * 10 + (b - 48)) largest then digits_on largest (n * 10 + (b - 48)) bs else None

-- the number that a word is, without a needless zero, where it is not above the largest
abbrev pub natural_within : ℕ → List ℕ → Option ℕ
natural_within largest [] = None
natural_within largest (b ∷ bs) =
    if b == 48 then (if is_empty bs then Some 0 else None) else (if is_digit b then digits_on largest (b - 48) bs else None)

abbrev pub natural : List ℕ → Option ℕ
natural word = natural_within (2 ^ 127 - 1) word

abbrev pub below_zero : Option ℕ → Option ℤ
below_zero None = None
below_zero (Some zero) = None
below_zero (Some (suc n)) = Some (negsuc n)

abbrev pub from_zero : Option ℕ → Option ℤ
from_zero None = None
from_zero (Some n) = Some (pos n)

-- the same of a whole number, which may have a sign
abbrev pub integer : List ℕ → Option ℤ
integer [] = None
integer (b ∷ bs) = if b == 45 then below_zero (natural_within (2 ^ 127) bs) else from_zero (natural (b ∷ bs))
