use Rattle.std.proofs.Common.{◌≡◌, drop}
use Rattle.bg_formula.specs.Formulas.{units_below}
use Rattle.bg_rows_trial.proofs.whole.units_below.Given as goal

abbrev pub invariant-loop-c : goal.invariant-loop-c
invariant-loop-c l = units_below l.atoms (drop l.c-index l.candidates) ≡ units_below l.atoms l.candidates
