use Rattle.std.proofs.Common.{◌≡◌, ◌+◌, All, length, vec_len}
use Rattle.bg_shared.specs.Seats.{view, IsOf, IsFirst, IsIdle}
use Rattle.bg_trial.specs.Workers.{Works}
use Rattle.bg_trial.proofs.script.gather.Given as goal

abbrev pub decreases-loop-worker : goal.decreases-loop-worker
decreases-loop-worker l = vec_len l.workers

abbrev pub invariant-loop-worker : goal.invariant-loop-worker
invariant-loop-worker l = record {
  first : IsOf l.first l.shared;
  is_first : IsFirst l.first;
  idle : IsIdle l.first;
  works : All (Works l.claims l.shared) l.workers.items;
  parts : (view l.first).parts + (view l.first).right + length l.workers.items ≡ (view l.initial.first).parts + (view l.initial.first).right + length l.initial.workers.items;
}
