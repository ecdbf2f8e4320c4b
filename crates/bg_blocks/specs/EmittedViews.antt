-- How the code's unfinished blocks are read.
use Rattle.std.specs.Prelude.{◌≡◌, ℕ, List, length, map, reverse}
use Rattle.bg_ast.specs.Resolved as r
use Rattle.bg_ast.specs.Meaning.{meaning_of, named_of, decl_of}
use Rattle.bg_ast.specs.Syntax as s
use Rattle.bg_sense.specs.Flow.{ToLabel}
use Rattle.bg_flow.specs.Core.{desugar}
use Rattle.bg_flow.specs.Blocks.{Block, Places}
use Rattle.bg_blocks.specs.declared.block.Block as whole
use Rattle.bg_blocks.specs.declared.emit.Emitted as code
use Rattle.bg_blocks.specs.Marks.{ahead}
use Rattle.bg_blocks.specs.MarkViews.{marked}
use Rattle.bg_blocks.specs.Views.{cmd_of, exit_of}
use Rattle.bg_blocks.specs.Emitted.{State, Emits}

-- of a block that is being made the last command was made first
abbrev pub made_of : r.Program → whole.Block → Block
made_of p b = record { cmds = reverse (map (cmd_of p) b.cmds.items); exit = exit_of b.exit }

-- so was the last block
abbrev pub state_of : r.Program → code.Emitted → State
state_of p e =
    record {
      blocks = reverse (map (made_of p) e.blocks.items);
      takes_in = e.takes_in;
      marks = marked e.marks;
      undo = e.marks.undo.items;
    }

-- how far each point lies ahead
abbrev pub ahead_in : code.Emitted → Places
ahead_in e = ahead (marked e.marks) (length e.blocks.items)

unfoldable pub label_in : code.Emitted → ℕ → ℕ
label_in e l = ahead_in e (ToLabel l)

-- the declarations of a frame
abbrev pub frame_of : r.Program → List r.Declared → List s.Decl
frame_of p rs = map (decl_of (named_of p.types)) rs

-- the blocks of a body, in a frame of so many
abbrev pub EmitsBody : r.Program → ℕ → s.St → code.Emitted → code.Emitted → Type 0
EmitsBody p frame body old new =
    (rs : List r.Declared) → length rs ≡ frame → Emits (desugar (meaning_of p) (frame_of p rs) body) (state_of p old) (state_of p new)
