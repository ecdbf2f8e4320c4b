use Rattle.std.proofs.Common.{◌≡◌, ℕ, ◌<◌, true, map, Some}
use Rattle.std.specs.Ordering.{nat_cmp}
use Rattle.std.specs.BTreeSet.{contains}
use Rattle.bg_rows.specs.Rows.{RowOf, row_of}
use Rattle.bg_rows.specs.Steps.{row_at}
use Rattle.bg_elim.specs.Kept.{is_in, no_twice, entries_in}
use Rattle.bg_elim.proofs.variables.variables.Given as goal

abbrev pub invariant-loop-row : goal.invariant-loop-row
invariant-loop-row l = record {
  tied : (q : ℕ) → contains nat_cmp l.set q ≡ is_in q l.all.items;
  once : no_twice l.all.items ≡ true;
  there : (n : ℕ) (r : RowOf) → n < l.row-index → row_at (map row_of l.rows) n ≡ Some r → entries_in l.all.items r.entries ≡ true;
}
