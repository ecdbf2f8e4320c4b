-- A report that is true of the bytes.
use Rattle.std.specs.Prelude.{◌≡◌, ℕ, List}
use Rattle.bg_ast.specs.Resolved as r
use Rattle.bg_sound.specs.Told.{Outcome, status_of}
use Rattle.bg_sound.specs.Sound.{IsSound}

-- where bytes spell programs so, and outcomes are written so: the text tells of the program that the bytes spell what is true, and the
-- status is that of what it tells
pub record IsTrueReport (spells : List ℕ → r.Program → Type 0) (text_of : r.Program → Outcome → List ℕ) (bytes text : List ℕ) (status : ℕ) : Type 0 where
  pub program : r.Program
  pub spelled : spells bytes program
  pub outcome : Outcome
  pub sound : IsSound program outcome
  pub is : text ≡ text_of program outcome
  pub gives : status ≡ status_of outcome
