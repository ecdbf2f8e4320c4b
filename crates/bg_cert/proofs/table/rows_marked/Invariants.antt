use Rattle.std.proofs.Common.{take, map, ◌++◌}
use Rattle.bg_rows.specs.Rows.{row_of}
use Rattle.bg_formula.specs.Atoms.{atom_of, view_linear}
use Rattle.bg_cert.specs.Paths.{rows_on}
use Rattle.bg_cert.specs.Wanted.{AreInPlace}
use Rattle.bg_cert.proofs.table.rows_marked.Given as goal

abbrev pub invariant-loop-d : goal.invariant-loop-d
invariant-loop-d l = AreInPlace l.marks (map row_of l.made.items) (rows_on (map atom_of l.atoms ++ map view_linear l.table) (take l.d-index l.decisions))
