use Rattle.std.proofs.Common.{◌≡◌, ◌≤◌, length, take, vec_capacity}
use Rattle.bg_houdini.proofs.sets.truths_of.Given as goal

abbrev pub invariant-loop-c : goal.invariant-loop-c
invariant-loop-c l = record {
  made : l.made.items ≡ take l.c l.set;
  count : length l.made.items ≡ l.c;
  room : length l.set ≤ vec_capacity l.made;
}
