use Rattle.std.proofs.Common.{◌≡◌, ℕ, true, take}
use Rattle.std.specs.Ordering.{nat_cmp}
use Rattle.std.specs.BTreeSet.{contains}
use Rattle.bg_elim.specs.Kept.{is_in, no_twice, entries_in}
use Rattle.bg_elim.proofs.variables.add_row.Given as goal

abbrev pub invariant-loop-t : goal.invariant-loop-t
invariant-loop-t l = record {
  tied : (q : ℕ) → contains nat_cmp l.set q ≡ is_in q l.all.items;
  once : no_twice l.all.items ≡ true;
  more : (q : ℕ) → is_in q l.initial.all.items ≡ true → is_in q l.all.items ≡ true;
  there : entries_in l.all.items (take l.t-index l.entries) ≡ true;
}
