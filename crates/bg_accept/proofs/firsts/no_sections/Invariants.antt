use Rattle.std.proofs.Common.{◌≡◌, ◌++◌, ℕ, drop}
use Rattle.std.specs.Prelude.{None}
use Rattle.bg_accept.specs.Tables.{widths, counts, first_at}
use Rattle.bg_accept.proofs.firsts.no_sections.Given as goal

abbrev pub invariant-loop-places : goal.invariant-loop-places
invariant-loop-places l = record {
  widths : widths l.made.items ++ counts (drop l.places-index l.all) ≡ counts l.all;
  none : (k i : ℕ) → first_at l.made.items k i ≡ None;
}
