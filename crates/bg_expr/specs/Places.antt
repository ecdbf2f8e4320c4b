-- The positions of an expression.
use Rattle.std.specs.Prelude.{◌≡◌, List, ◌++◌}
use Rattle.bg_text.specs.Tokens.{Tok}
use Rattle.bg_text.specs.Trees.{Ex}
use Rattle.bg_text.specs.Marks.{Fits}
use Rattle.bg_text.specs.Spelling.{ex_marks}

-- they are those of its tokens, the ones before the rest
abbrev pub HasPlaces : List Tok → Ex → List Tok → Type 0
HasPlaces tokens e rest = (front : List Tok) × (tokens ≡ front ++ rest) × Fits front (ex_marks e)
