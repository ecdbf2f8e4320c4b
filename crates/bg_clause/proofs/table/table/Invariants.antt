use Rattle.std.proofs.Common.{◌≡◌, ◌+◌, ◌≤◌, ◌++◌, drop, length, vec_capacity}
use Rattle.bg_clause.specs.Tables.{table, marked}
use Rattle.bg_clause.proofs.table.table.Given as goal

abbrev pub invariant-loop-is_named : goal.invariant-loop-is_named
invariant-loop-is_named l = record {
  units : l.units.items ++ table l.next (drop l.is_named-index l.named) ≡ table l.first l.named;
  atoms : l.next + marked (drop l.is_named-index l.named) ≡ l.first + marked l.named;
  count : length l.units.items ≡ l.is_named-index;
  room : length l.named ≤ vec_capacity l.units;
}
