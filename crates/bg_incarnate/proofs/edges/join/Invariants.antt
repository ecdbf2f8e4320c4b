use Rattle.std.proofs.Common.{◌≡◌, ◌++◌, drop}
use Rattle.bg_passive.specs.Incarnations.{joins}
use Rattle.bg_incarnate.specs.Views.{cmds_of}
use Rattle.bg_incarnate.proofs.edges.join.Given as goal

abbrev pub invariant-loop-k : goal.invariant-loop-k
invariant-loop-k l = cmds_of l.out.items ++ joins (drop l.k l.here) (drop l.k l.there) ≡ cmds_of l.fn.out.items ++ joins l.here l.there
