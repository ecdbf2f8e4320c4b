-- What is left of a counterexample's choices.
use Rattle.std.specs.Prelude.{ℕ, ◌<◌, Bool, true, false, length}
use Rattle.bg_ast.specs.Syntax.{Prog}
use Rattle.bg_ast.specs.Execution.{Place}
use Rattle.bg_sense.specs.Flow.{Failed}
use Rattle.bg_replay.specs.Said.{Stops}
use Rattle.bg_model.specs.declared.failure.Counterexample.{Counterexample}
use Rattle.bg_check.specs.Replays.{RunsTo}
use Rattle.bg_check.specs.Verdicts.{IsFailure, IsUsed, HasTypes}

-- the run fails at the place, with each operation on its way within the range, and its choices are of their types
abbrev pub FailsWithin : Prog → (ℕ → Bool) → Place → Counterexample → Type 0
FailsWithin p set t cex = IsFailure p set t cex × (RunsTo p set t cex (Stops (Failed t.spot)) × HasTypes cex)

-- a choice is gone, and the run fails as before; or none is left over
abbrev pub IsDropped : Prog → (ℕ → Bool) → Place → Counterexample → Bool → Counterexample → Type 0
IsDropped p set t old true new = FailsWithin p set t new × (length new.choices.items < length old.choices.items)
IsDropped p set t old false new = FailsWithin p set t new × IsUsed p set t new
