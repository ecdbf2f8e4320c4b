-- What reading a program says of the tokens.
use Rattle.std.specs.Prelude.{◌≡◌, ℕ, List, [], ◌∷◌, ◌++◌, Some}
use Rattle.bg_text.specs.Tokens.{Tok}
use Rattle.bg_text.specs.Brackets.{left}
use Rattle.bg_text.specs.Trees.{Decl}
use Rattle.bg_text.specs.Declarations.{SpellsTree, SpellsTreeAt}
use Rattle.bg_reader.specs.Exact.{Begins}
use Rattle.bg_reader.specs.Told.{GoesOn}

-- the tokens, none of them a bracket too many, spell the program, and it has their positions
pub record IsProgram (d : ℕ) (tokens : List Tok) (ds : List Decl) : Type 0 where
  pub spells : SpellsTree ds tokens
  pub places : SpellsTreeAt ds tokens
  pub shallow : left tokens d ≡ Some d

-- The tokens before the rest, none of them a bracket too many, begin the spelling of a program. No spelling goes on from
-- them with the first token of the rest; where there is no rest, they are no program.
pub record IsStopped (d : ℕ) (tokens rest : List Tok) : Type 0 where
  pub front : List Tok
  pub cut : tokens ≡ front ++ rest
  pub begins : Begins SpellsTree front
  pub shallow : (e : ℕ) × (left front d ≡ Some e)
  pub stops : (t : Tok) (more : List Tok) → rest ≡ t ∷ more → GoesOn SpellsTree front t → ⊥
  pub unfinished : rest ≡ [] → (ds : List Decl) → SpellsTree ds front → ⊥
