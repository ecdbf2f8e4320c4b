use Rattle.std.proofs.Common.{◌≡◌, drop}
use Rattle.bg_certtext.specs.Spellable.{are_steps}
use Rattle.bg_certtext.proofs.spells.are_steps.Given as goal

abbrev pub invariant-loop-n : goal.invariant-loop-n
invariant-loop-n l = are_steps l.n (drop l.n l.steps) ≡ are_steps 0 l.steps
