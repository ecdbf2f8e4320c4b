use Rattle.std.proofs.Common.{◌≤◌, length, map}
use Rattle.bg_rows.specs.Rows.{row_of}
use Rattle.bg_point.proofs.Shelved.{Half}
use Rattle.bg_point.proofs.shelves.shelve.Given as goal

abbrev pub invariant-loop-n : goal.invariant-loop-n
invariant-loop-n l = record {
  within : l.n ≤ length l.rows;
  half : Half l.order (map row_of l.rows) l.heads.items l.nexts.items l.n;
}

abbrev pub decreases-loop-n : goal.decreases-loop-n
decreases-loop-n l = l.n
