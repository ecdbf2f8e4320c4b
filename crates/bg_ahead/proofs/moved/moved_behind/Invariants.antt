use Rattle.std.proofs.Common.{◌≡◌, map, ◌++◌, drop}
use Rattle.bg_formed.specs.Views.{form_cmds_of, form_block_of}
use Rattle.bg_ahead.specs.Moved.{moved_blocks, behind_cmds}
use Rattle.bg_ahead.proofs.moved.moved_behind.Given as goal

abbrev pub invariant-loop-b : goal.invariant-loop-b
invariant-loop-b l =
    map form_block_of l.made.items ++ behind_cmds (form_cmds_of l.cmds.items) (moved_blocks l.goes (map form_block_of (drop l.b-index l.blocks))) ≡ behind_cmds (form_cmds_of l.fn.front.items) (moved_blocks l.goes (map form_block_of l.blocks))
