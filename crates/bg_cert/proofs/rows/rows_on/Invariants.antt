use Rattle.std.proofs.Common.{◌≡◌, drop, map, ◌++◌}
use Rattle.bg_rows.specs.Rows.{row_of}
use Rattle.bg_formula.specs.Atoms.{atom_of}
use Rattle.bg_cert.specs.Paths.{rows_on}
use Rattle.bg_cert.proofs.rows.rows_on.Given as goal

abbrev pub invariant-loop-d : goal.invariant-loop-d
invariant-loop-d l = map row_of l.made.items ++ rows_on (map atom_of l.atoms) (drop l.d-index l.decisions) ≡ rows_on (map atom_of l.atoms) l.decisions
