use Rattle.std.proofs.Common.{◌≡◌, map, drop}
use Rattle.bg_incarnate.specs.Views.{passive_block_of}
use Rattle.bg_atoms.specs.Sorted.{blocks_sorted}
use Rattle.bg_atoms.proofs.sorted.blocks_sorted.Given as goal

abbrev pub invariant-loop-b : goal.invariant-loop-b
invariant-loop-b l = blocks_sorted l.sorts l.candidates (map passive_block_of (drop l.b-index l.blocks)) ≡ blocks_sorted l.sorts l.candidates (map passive_block_of l.blocks)
