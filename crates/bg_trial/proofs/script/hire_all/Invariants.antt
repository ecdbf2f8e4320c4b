use Rattle.std.proofs.Common.{◌≡◌, ◌+◌, ◌≤◌, All, length, vec_len}
use Rattle.bg_claims.specs.Seats.{IsFresh}
use Rattle.bg_shared.specs.Seats.{view, IsOf, IsFirst, IsIdle}
use Rattle.bg_trial.specs.Workers.{Works}
use Rattle.bg_trial.specs.declared.script.Worker.{Worker}
use Rattle.bg_trial.proofs.script.hire_all.Given as goal

abbrev pub decreases-loop-claim : goal.decreases-loop-claim
decreases-loop-claim l = vec_len l.seats

abbrev pub invariant-loop-claim : goal.invariant-loop-claim
invariant-loop-claim l = record {
  first : IsOf l.first l.shared;
  is_first : IsFirst l.first;
  idle : IsIdle l.first;
  fresh : All (IsFresh l.claims) l.seats.items;
  works : All (Works l.claims l.shared) l.workers.items;
  new : All (λ (w : Worker). (view w.sitter.seat).own ≡ 0) l.workers.items;
  room : length l.seats.items ≤ (view l.first).right;
  parts : (view l.first).parts + (view l.first).right + length l.workers.items ≡ (view l.initial.first).parts + (view l.initial.first).right;
}
