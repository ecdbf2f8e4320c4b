use Rattle.std.proofs.Common.{◌≡◌, ◌≤◌}
use Rattle.bg_shared.specs.Seats.{view}
use Rattle.bg_trial.specs.Workers.{IsReady}
use Rattle.bg_trial.proofs.examples.chain.Given as goal

abbrev pub invariant-loop-c : goal.invariant-loop-c
invariant-loop-c l = record {
  ready : IsReady l.shared l.s;
  first : (view l.s.seat).first ≡ 1;
  parts : (view l.s.seat).parts ≡ 1;
  right : (view l.s.seat).right ≡ 0;
  room : (view l.s.seat).own ≤ l.c;
}
