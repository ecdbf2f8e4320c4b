use Rattle.std.proofs.Common.{◌+◌, ◌≤◌}
use Rattle.bg_shared.specs.Seats.{view}
use Rattle.bg_trial.specs.Workers.{Works}
use Rattle.bg_trial.proofs.script.work.Given as goal

abbrev pub invariant-loop-i : goal.invariant-loop-i
invariant-loop-i l = record {
  works : Works l.claims l.shared l.w;
  room : (view l.w.sitter.seat).own ≤ (view l.initial.w.sitter.seat).own + l._i;
}
