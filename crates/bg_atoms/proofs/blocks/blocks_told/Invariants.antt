use Rattle.std.proofs.Common.{List, map, take}
use Rattle.bg_incarnate.specs.Views.{passive_block_of}
use Rattle.bg_formula.specs.Atoms.{AtomOf}
use Rattle.bg_formed.specs.Views.{form_block_of}
use Rattle.bg_atoms.specs.Worlds.{Begins}
use Rattle.bg_atoms.specs.Made.{rows_in}
use Rattle.bg_atoms.specs.Listed.{with_blocks}
use Rattle.bg_atoms.specs.Growing.{Grows}
use Rattle.bg_atoms.specs.Told.{BlocksTold}
use Rattle.bg_atoms.proofs.blocks.blocks_told.Given as goal

abbrev pub invariant-loop-b : goal.invariant-loop-b
invariant-loop-b l =
    Grows l.names.base (with_blocks l.names.sorts.items (map passive_block_of (take l.b-index l.bs))) l.fn.table l.table
    × ((all : List AtomOf) → Begins (rows_in l.table.rows) all → BlocksTold l.names.sorts.items l.names.base all (map passive_block_of (take l.b-index l.bs)) (map form_block_of l.made.items))
