use Rattle.std.proofs.Common.{List, take}
use Rattle.bg_incarnate.specs.Views.{cmds_of}
use Rattle.bg_formula.specs.Atoms.{AtomOf}
use Rattle.bg_formed.specs.Views.{form_cmds_of}
use Rattle.bg_atoms.specs.Worlds.{Begins}
use Rattle.bg_atoms.specs.Made.{rows_in}
use Rattle.bg_atoms.specs.Listed.{with_cmds}
use Rattle.bg_atoms.specs.Growing.{Grows}
use Rattle.bg_atoms.specs.Told.{CmdsTold}
use Rattle.bg_atoms.proofs.blocks.cmds.Given as goal

abbrev pub invariant-loop-k : goal.invariant-loop-k
invariant-loop-k l =
    Grows l.names.base (with_cmds l.names.sorts.items (cmds_of (take l.k-index l.ks))) l.fn.table l.table
    × ((all : List AtomOf) → Begins (rows_in l.table.rows) all → CmdsTold l.names.sorts.items l.names.base all (cmds_of (take l.k-index l.ks)) (form_cmds_of l.made.items))
