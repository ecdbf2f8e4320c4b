use Rattle.std.proofs.Common.{ℕ, ◌<◌, ◌≤◌, get_or}
use Rattle.bg_graph.specs.Marks.{IsDone}
use Rattle.bg_graph.proofs.marks.next_undone.Given as goal

abbrev pub invariant-loop-k : goal.invariant-loop-k
invariant-loop-k l = (j : ℕ) → l.from ≤ j → j < l.k → IsDone l.marks (get_or l.row j 0)
