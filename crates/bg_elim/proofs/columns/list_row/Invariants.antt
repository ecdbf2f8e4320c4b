use Rattle.std.proofs.Common.{◌≡◌, ℕ, true, take}
use Rattle.bg_rows.specs.Entries.{mentions}
use Rattle.bg_elim.specs.Columns.{Stands}
use Rattle.bg_elim.proofs.columns.list_row.Given as goal

abbrev pub invariant-loop-t : goal.invariant-loop-t
invariant-loop-t l = record {
  keeps : (y m : ℕ) → Stands l.initial.columns y m → Stands l.columns y m;
  there : (y : ℕ) → mentions y (take l.t-index l.row.entries.items) ≡ true → Stands l.columns y l.n;
}
