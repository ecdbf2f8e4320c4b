use Rattle.std.proofs.Common.{◌≡◌, ◌≤◌, ◌++◌, drop, length}
use Rattle.bg_expanded.specs.Ranked.{ranked_from}
use Rattle.bg_expanded.proofs.ranked.listed.Given as goal

abbrev pub invariant-loop-function : goal.invariant-loop-function
invariant-loop-function l = record {
  within : l.function ≤ length l.ranks;
  is : l.made.items ++ ranked_from l.function (drop l.function l.ranks) ≡ ranked_from 0 l.ranks;
}
