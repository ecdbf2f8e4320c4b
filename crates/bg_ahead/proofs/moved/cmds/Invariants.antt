use Rattle.std.proofs.Common.{◌≡◌, map, ◌++◌, drop}
use Rattle.bg_formed.specs.Views.{form_cmds_of}
use Rattle.bg_ahead.specs.Moved.{moved_cmd}
use Rattle.bg_ahead.proofs.moved.cmds.Given as goal

abbrev pub invariant-loop-k : goal.invariant-loop-k
invariant-loop-k l =
    form_cmds_of l.made.items ++ map (moved_cmd l.goes) (form_cmds_of (drop l.k-index l.cmds)) ≡ form_cmds_of l.fn.front.items ++ map (moved_cmd l.goes) (form_cmds_of l.cmds)
