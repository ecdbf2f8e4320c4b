use Rattle.std.proofs.Common.{◌≡◌, false, map, replicate, drop}
use Rattle.bg_formula.specs.Atoms.{atom_of}
use Rattle.bg_check.specs.Leaves.{noted}
use Rattle.bg_check.proofs.leaf.named.Given as goal

abbrev pub invariant-loop-a : goal.invariant-loop-a
invariant-loop-a l = noted (map atom_of (drop l.a-index l.atoms)) l.named.items ≡ noted (map atom_of l.atoms) (replicate l.count false)
