use Rattle.std.proofs.Common.{List, map, take}
use Rattle.bg_incarnate.specs.Views.{edge_of}
use Rattle.bg_formula.specs.Atoms.{AtomOf}
use Rattle.bg_formed.specs.Views.{form_edge_of}
use Rattle.bg_atoms.specs.Worlds.{Begins}
use Rattle.bg_atoms.specs.Made.{rows_in}
use Rattle.bg_atoms.specs.Listed.{with_edges}
use Rattle.bg_atoms.specs.Growing.{Grows}
use Rattle.bg_atoms.specs.Told.{EdgesTold}
use Rattle.bg_atoms.proofs.blocks.edges.Given as goal

abbrev pub invariant-loop-e : goal.invariant-loop-e
invariant-loop-e l =
    Grows l.names.base (with_edges l.names.sorts.items (map edge_of (take l.e-index l.es))) l.fn.table l.table
    × ((all : List AtomOf) → Begins (rows_in l.table.rows) all → EdgesTold l.names.sorts.items l.names.base all (map edge_of (take l.e-index l.es)) (map form_edge_of l.made.items))
