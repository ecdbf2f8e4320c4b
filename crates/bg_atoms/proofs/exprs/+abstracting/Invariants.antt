use Rattle.std.proofs.Common.{List, ◌+◌, ◌-◌, ◌≤◌, length, drop}
use Rattle.bg_formula.specs.Atoms.{AtomOf}
use Rattle.bg_atoms.specs.Worlds.{Begins}
use Rattle.bg_atoms.specs.Made.{rows_in}
use Rattle.bg_atoms.specs.Turned.{until_implies, turned_in, with_turned, AreTurned}
use Rattle.bg_atoms.specs.Growing.{Grows}
use Rattle.bg_atoms.proofs.Joining.{Linking, Passing}
use Rattle.bg_atoms.proofs.exprs.+abstracting.Given as goal

abbrev pub invariant-links_from-loop-i : goal.invariant-links_from-loop-i
invariant-links_from-loop-i l =
    Passing l.over.names.now.sorts.items l.over.names.now.base (drop l.fn.from l.links) (drop l.i l.links) l.fn.table l.table
    × ((all : List AtomOf) → Begins (rows_in l.table.rows) all → Linking l.over.names.now.sorts.items l.over.names.now.base all l.fn.first l.order.before l.order.here (drop l.fn.from l.links) (drop l.i l.links) l.made.items)
    × ((all : List AtomOf) → Begins (rows_in l.table.rows) all → AreTurned l.over.names.now.sorts.items l.over.names.now.base all (turned_in (drop l.i l.links)) l.before.items)

abbrev pub invariant-turned-loop-i : goal.invariant-turned-loop-i
invariant-turned-loop-i l =
    (l.from ≤ l.i)
    × (l.i ≤ l.from + until_implies (drop l.from l.links))
    × (l.i ≤ length l.links)
    × Grows l.names.base (with_turned l.names.sorts.items (turned_in (drop l.i l.links))) l.fn.table l.table
    × ((all : List AtomOf) → Begins (rows_in l.table.rows) all → AreTurned l.names.sorts.items l.names.base all (turned_in (drop l.i l.links)) l.made.items)

abbrev pub decreases-turned-loop-i : goal.decreases-turned-loop-i
decreases-turned-loop-i l = l.i

abbrev pub decreases-links_from-loop-i : goal.decreases-links_from-loop-i
decreases-links_from-loop-i l = length l.links - l.i
