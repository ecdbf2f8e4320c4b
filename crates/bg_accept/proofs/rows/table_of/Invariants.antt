use Rattle.std.proofs.Common.{◌≡◌, map, drop}
use Rattle.bg_formula.specs.Atoms.{view_linear}
use Rattle.bg_certtext.specs.Views.{row_of}
use Rattle.bg_accept.specs.Sections.{table_in}
use Rattle.bg_accept.proofs.Tables.{front}
use Rattle.bg_accept.proofs.rows.table_of.Given as goal

abbrev pub invariant-loop-row : goal.invariant-loop-row
invariant-loop-row l = front (map view_linear l.made.items) (table_in (map row_of (drop l.row-index l.table))) ≡ table_in (map row_of l.table)
