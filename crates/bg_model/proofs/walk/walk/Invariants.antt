use Rattle.std.proofs.Common.{◌≡◌, drop}
use Rattle.bg_formed.specs.Views.{form_cmds_of}
use Rattle.bg_model.specs.Views.{walk_in}
use Rattle.bg_model.proofs.walk.walk.Given as goal

abbrev pub invariant-loop-k : goal.invariant-loop-k
invariant-loop-k l = walk_in l.trial (form_cmds_of (drop l.k-index l.cmds)) ≡ walk_in l.trial (form_cmds_of l.cmds)
