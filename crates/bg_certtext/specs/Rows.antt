-- The text of a table as rows of bytes.
use Rattle.std.specs.Prelude.{ℕ, List, [], ◌∷◌, ◌++◌, map, codes}
use Rattle.bg_certtext.specs.Views.{Item, EntryOf}
use Rattle.bg_certtext.specs.Texts.{index_word, row_text, default_text, value_text, key_text}

-- the bytes of a key and of a value
abbrev pub Row : Type 0
Row = List ℕ × List ℕ

-- what stands in front of the next row
abbrev pub row_front : Row → List ℕ
row_front r = r.0 ++ (codes " := " ++ (r.1 ++ codes ", "))

-- rows behind a bracket, and the default
abbrev pub rows_text : List Row → List ℕ → List ℕ
rows_text [] d = default_text d
rows_text (r ∷ rs) d = row_text r.0 r.1 (rows_text rs d)

abbrev pub slot_row : Item → Row
slot_row e = (index_word e.0, value_text e.1)

abbrev pub entry_row : EntryOf → Row
entry_row e = (key_text e.key, value_text e.value)

abbrev pub slot_rows : List Item → List Row
slot_rows es = map slot_row es

abbrev pub entry_rows : List EntryOf → List Row
entry_rows es = map entry_row es
