use Rattle.std.proofs.Common.{◌≡◌, ◌≤◌, map, take, length}
use Rattle.bg_rows.specs.Rows.{row_of}
use Rattle.bg_formula.specs.Atoms.{atom_of}
use Rattle.bg_cert.specs.Paths.{rows_on}
use Rattle.bg_conflict.specs.Picked.{ArePicked}
use Rattle.bg_conflict.proofs.picked.pick.Given as goal

abbrev pub invariant-loop-i : goal.invariant-loop-i
invariant-loop-i l = record {
  counted : length (rows_on (map atom_of l.atoms) (take l.i l.decisions)) ≡ l.number;
  below : l.number ≤ l.i;
  placed : l.place ≤ l.i;
  picked : ArePicked (rows_on (map atom_of l.atoms) (take l.i l.decisions)) l.picked.numbers.items (map row_of l.picked.rows.items);
}
