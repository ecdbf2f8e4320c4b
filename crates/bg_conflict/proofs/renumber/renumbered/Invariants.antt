use Rattle.std.proofs.Common.{◌≡◌, drop, map, ◌++◌}
use Rattle.bg_conflict.specs.Picked.{renumbered}
use Rattle.bg_conflict.proofs.renumber.renumbered.Given as goal

abbrev pub invariant-loop-step : goal.invariant-loop-step
invariant-loop-step l = l.made.items ++ map (renumbered l.numbers) (drop l.step-index l.steps) ≡ map (renumbered l.numbers) l.steps
