use Rattle.std.proofs.Common.{◌≡◌, drop}
use Rattle.bg_check.specs.Leaves.{noted_by}
use Rattle.bg_check.proofs.leaf.note_all.Given as goal

abbrev pub invariant-loop-e : goal.invariant-loop-e
invariant-loop-e l = noted_by (drop l.e-index l.entries) l.named ≡ noted_by l.entries l.fn.named
