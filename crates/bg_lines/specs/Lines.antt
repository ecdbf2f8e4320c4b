-- Parts of lines.
use Rattle.std.specs.Prelude.{ℕ, List, [], ◌∷◌, ◌++◌, codes}
use Rattle.std.specs.Fmt.{decimal}
use Rattle.bg_base.specs.declared.pos.Pos.{Pos}

-- a line is ended by one newline byte
abbrev pub line : List ℕ → List ℕ
line words = words ++ 10 ∷ []

abbrev pub position_text : Pos → List ℕ
position_text p = decimal p.line ++ codes ":" ++ decimal p.column
