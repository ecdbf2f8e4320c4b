use Rattle.std.proofs.Common.{◌≡◌, ◌++◌, map, drop}
use Rattle.bg_formula.specs.Atoms.{view_linear}
use Rattle.bg_atoms.specs.Made.{rows_in}
use Rattle.bg_ahead.specs.Rows.{fresh, places, goes}
use Rattle.bg_ahead.proofs.rows.beside.Given as goal

abbrev pub invariant-loop-a : goal.invariant-loop-a
invariant-loop-a l =
    (rows_in l.made ++ fresh (rows_in l.fn.front) (map view_linear (drop l.a-index l.rows)) ≡ rows_in l.fn.front ++ fresh (rows_in l.fn.front) (map view_linear l.rows))
    × (l.goes.items ++ places l.m (rows_in l.fn.front) (map view_linear (drop l.a-index l.rows)) l.atom ≡ goes l.fn.n l.m (rows_in l.fn.front) (map view_linear l.rows))
