use Rattle.std.proofs.Common.{◌≡◌, ℕ, true, ◌||◌, drop}
use Rattle.bg_cert.specs.Wanted.{is_named, names_row}
use Rattle.bg_cert.proofs.table.named_by.Given as goal

abbrev pub invariant-loop-step : goal.invariant-loop-step
invariant-loop-step l = (j : ℕ) → names_row j l.steps ≡ true → (is_named l.marks.items j || names_row j (drop l.step-index l.steps)) ≡ true
