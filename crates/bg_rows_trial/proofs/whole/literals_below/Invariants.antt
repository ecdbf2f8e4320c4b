use Rattle.std.proofs.Common.{◌≡◌, drop}
use Rattle.bg_formula.specs.Formulas.{literals_below}
use Rattle.bg_rows_trial.proofs.whole.literals_below.Given as goal

abbrev pub invariant-loop-l : goal.invariant-loop-l
invariant-loop-l l = literals_below l.atoms (drop l.l-index l.clause) ≡ literals_below l.atoms l.clause
