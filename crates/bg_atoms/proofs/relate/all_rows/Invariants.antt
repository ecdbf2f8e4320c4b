use Rattle.std.proofs.Common.{List, map, vec_len}
use Rattle.bg_ast.specs.Meaning as m
use Rattle.bg_ast.specs.Views.{ex_of}
use Rattle.bg_formula.specs.Atoms.{AtomOf, view_linear}
use Rattle.bg_atoms.specs.Worlds.{Begins}
use Rattle.bg_atoms.specs.Made.{rows_in}
use Rattle.bg_atoms.proofs.Listing.{Adding}
use Rattle.bg_atoms.proofs.Relating.{SaysRest}
use Rattle.bg_atoms.proofs.relate.all_rows.Given as goal

abbrev pub invariant-loop-a : goal.invariant-loop-a
invariant-loop-a l =
    Adding l.base (map view_linear l.rows.items) (map view_linear l.fn.rows.items) l.fn.table l.table
    × ((all : List AtomOf) → Begins (rows_in l.table.rows) all → SaysRest l.base all (map view_linear l.rows.items) (map view_linear l.fn.rows.items) (m.ex_of (ex_of l.made)))

abbrev pub decreases-loop-a : goal.decreases-loop-a
decreases-loop-a l = vec_len l.rows
