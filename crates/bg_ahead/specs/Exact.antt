-- Blocks of forms that are exactly those of passive blocks.
use Rattle.std.specs.Prelude.{◌≡◌, ℕ, true, List, [], ◌∷◌, map, length, replicate}
use Rattle.bg_passive.specs.Passive.{PassiveBlock}
use Rattle.bg_formula.specs.Atoms.{view_linear}
use Rattle.bg_formed.specs.Views.{blocks_of}
use Rattle.bg_linear.specs.declared.scalar.Sort.{Sort}
use Rattle.bg_atoms.specs.Ranks.{truths}
use Rattle.bg_atoms.specs.Made.{rows_in}
use Rattle.bg_atoms.specs.Listed.{rows_of}
use Rattle.bg_atoms.specs.Encoded.{blocks_over}
use Rattle.bg_atoms.specs.declared.product.Atoms.{Atoms}
use Rattle.bg_faithful.specs.Encoded.{Encoding}

-- the blocks of forms of passive blocks over incarnations of these sorts, over their rows
pub record IsExact (sorts : List Sort) (bs : List PassiveBlock) (a : Atoms) : Type 0 where
  pub first : a.first ≡ truths sorts
  pub terms : a.terms ≡ length sorts
  pub rows : rows_in a.rows ≡ rows_of sorts bs
  pub blocks : blocks_of a.blocks ≡ blocks_over sorts a.first (rows_in a.rows) bs

-- what they are, as data, where each of so many candidates may guard commands
abbrev pub encoding_of : ℕ → Atoms → Encoding
encoding_of candidates a =
    record {
      first = a.first;
      terms = a.terms;
      rows = map view_linear a.rows.items;
      blocks = blocks_of a.blocks;
      named = replicate candidates true;
    }

-- a block that says nothing, where there are some
abbrev pub blanks : List PassiveBlock → List PassiveBlock
blanks [] = []
blanks (b ∷ bs) = record { cmds = []; next = [] } ∷ []
