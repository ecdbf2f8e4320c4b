-- Blocks of a program made passive.
use Rattle.std.specs.Prelude.{◌≡◌, List, map, length}
use Rattle.bg_ast.specs.Resolved as r
use Rattle.bg_ast.specs.Meaning.{meaning_of}
use Rattle.bg_blocks.specs.Views.{block_of}
use Rattle.bg_blocks.specs.EmittedViews.{frame_of}
use Rattle.bg_blocks.specs.declared.block.Block.{Block}
use Rattle.bg_passive.specs.Incarnations.{incarnations}
use Rattle.bg_passive.specs.Arrivals.{arrived}
use Rattle.bg_incarnate.specs.Even.{BlocksEven}
use Rattle.bg_incarnate.specs.Views.{incarnations_of, incarnations_at}
use Rattle.bg_incarnate.specs.declared.blocks.Passive.{Passive}

-- the arrivals are those of these blocks in this frame, and so is the number of incarnations
pub record ArrivesAt (p : r.Program) (rs : List r.Declared) (bs : List Block) (w : Passive) : Type 0 where
  pub arrivals : map incarnations_of w.arrivals.items ≡ map incarnations_at (arrived (meaning_of p) (frame_of p rs) (map (block_of p) bs)).arrivals
  pub count : BlocksEven (map (block_of p) bs) → w.count ≡ length (incarnations (meaning_of p) (frame_of p rs) (arrived (meaning_of p) (frame_of p rs) (map (block_of p) bs)).made)
