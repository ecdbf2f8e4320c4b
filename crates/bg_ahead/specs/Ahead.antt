-- Blocks of forms with those of more commands in front.
use Rattle.std.specs.Prelude.{◌≡◌, ◌++◌}
use Rattle.bg_formed.specs.Views.{blocks_of}
use Rattle.bg_atoms.specs.Made.{rows_in}
use Rattle.bg_atoms.specs.declared.product.Atoms.{Atoms}
use Rattle.bg_ahead.specs.Rows.{fresh, goes}
use Rattle.bg_ahead.specs.Moved.{moved_blocks, first_cmds, behind_cmds}

-- the rows in front with those of the base that are fresh behind them; the base's blocks over these, behind the front's first commands
pub record IsAhead (front base made : Atoms) : Type 0 where
  pub first : made.first ≡ front.first
  pub terms : made.terms ≡ front.terms
  pub rows : rows_in made.rows ≡ rows_in front.rows ++ fresh (rows_in front.rows) (rows_in base.rows)
  pub blocks : blocks_of made.blocks ≡ behind_cmds (first_cmds (blocks_of front.blocks)) (moved_blocks (goes base.first front.first (rows_in front.rows) (rows_in base.rows)) (blocks_of base.blocks))
