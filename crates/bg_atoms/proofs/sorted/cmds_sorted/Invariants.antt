use Rattle.std.proofs.Common.{◌≡◌, drop}
use Rattle.bg_incarnate.specs.Views.{cmds_of}
use Rattle.bg_atoms.specs.Sorted.{cmds_sorted}
use Rattle.bg_atoms.proofs.sorted.cmds_sorted.Given as goal

abbrev pub invariant-loop-k : goal.invariant-loop-k
invariant-loop-k l = cmds_sorted l.sorts l.candidates (cmds_of (drop l.k-index l.cmds)) ≡ cmds_sorted l.sorts l.candidates (cmds_of l.cmds)
