use Rattle.std.proofs.Common.{◌≡◌, ◌+◌, ◌≤◌, drop, map}
use Rattle.bg_told.specs.Fates.{told_fate, count_where}
use Rattle.bg_told.proofs.fates.count_where.Given as goal

abbrev pub invariant-loop-fate : goal.invariant-loop-fate
invariant-loop-fate l = record {
  so_far : l.count + count_where l.kept (map told_fate (drop l.fate-index l.fates)) ≡ count_where l.kept (map told_fate l.fates);
  few : l.count ≤ l.fate-index;
}
