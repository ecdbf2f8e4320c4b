use Rattle.std.proofs.Common.{◌≡◌, drop, map}
use Rattle.bg_formula.specs.Atoms.{view_linear}
use Rattle.bg_formula.specs.Formulas.{rows_below}
use Rattle.bg_cert.proofs.table.table_below.Given as goal

abbrev pub invariant-loop-l : goal.invariant-loop-l
invariant-loop-l l = rows_below l.terms (map view_linear (drop l.l-index l.table)) ≡ rows_below l.terms (map view_linear l.table)
