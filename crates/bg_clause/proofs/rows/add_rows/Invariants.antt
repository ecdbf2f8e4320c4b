use Rattle.std.proofs.Common.{◌≡◌, map, ◌++◌, drop}
use Rattle.bg_formula.specs.Atoms.{atom_of, view_linear}
use Rattle.bg_slice.specs.Marks.{marked_rows}
use Rattle.bg_clause.proofs.rows.add_rows.Given as goal

abbrev pub invariant-loop-a : goal.invariant-loop-a
invariant-loop-a l =
    map atom_of l.atoms.items ++ marked_rows l.left (map view_linear (drop l.a-index l.rows)) ≡ map atom_of l.fn.atoms.items ++ marked_rows l.kept (map view_linear l.rows)
