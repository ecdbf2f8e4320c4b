use Rattle.std.proofs.Common.{◌≡◌, ◌++◌, map, drop, flat_map}
use Rattle.bg_certtext.specs.Lines.{line}
use Rattle.bg_certtext.specs.Texts.{step_words}
use Rattle.bg_certtext.proofs.writer.put_steps.Given as goal

abbrev pub invariant-loop-step : goal.invariant-loop-step
invariant-loop-step l = l.out.items ++ flat_map line (map step_words (drop l.step-index l.steps)) ≡ l.initial.out.items ++ flat_map line (map step_words l.steps)
