-- The blocks that lead past the parts of a branch and of a loop.
use Rattle.std.specs.Prelude.{◌-◌, [], ◌∷◌, length}
use Rattle.bg_ast.specs.Syntax.{Guard}
use Rattle.bg_flow.specs.Core.{Head, arrival, turn}
use Rattle.bg_flow.specs.Blocks.{Block, Leap, Either}
use Rattle.bg_blocks.specs.Emitted.{State}

-- behind one side of a branch: skips what was made since
abbrev pub skip_block : State → State → Block
skip_block old new = record { cmds = []; exit = Leap ((length new.blocks - length old.blocks) ∷ []) }

-- in front of a branch: goes on where the guard holds, and else behind what was made since
abbrev pub branch_block : Guard → State → State → Block
branch_block g old new = record { cmds = []; exit = Either g 0 (length new.blocks - length old.blocks) }

-- the end of a turn
abbrev pub turn_block : Head → Block
turn_block h = record { cmds = turn h; exit = Leap (0 ∷ []) }

-- in front of a loop: a turn where the guard holds, and else behind what was made since
abbrev pub head_block : Guard → Head → State → State → Block
head_block g h old new = record { cmds = arrival h; exit = Either g 0 (length new.blocks - length old.blocks) }
