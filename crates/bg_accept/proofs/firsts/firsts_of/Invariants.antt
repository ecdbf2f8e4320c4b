use Rattle.std.proofs.Common.{◌≡◌, ◌≤◌, ℕ, true, length, map, drop}
use Rattle.bg_certtext.specs.Views.{section_of}
use Rattle.bg_accept.specs.Sections.{section_at}
use Rattle.bg_accept.specs.Tables.{widths, counts, first_at, is_there, section_of_number}
use Rattle.bg_accept.proofs.firsts.firsts_of.Given as goal

abbrev pub invariant-loop-number : goal.invariant-loop-number
invariant-loop-number l = record {
  within : l.number ≤ length l.sections;
  widths : widths l.table.items ≡ counts l.all;
  firsts : (k i : ℕ) → is_there (counts l.all) k i ≡ true → section_of_number (map section_of l.sections) (first_at l.table.items k i) ≡ section_at k i (map section_of (drop l.number l.sections));
}

abbrev pub decreases-loop-number : goal.decreases-loop-number
decreases-loop-number l = l.number
