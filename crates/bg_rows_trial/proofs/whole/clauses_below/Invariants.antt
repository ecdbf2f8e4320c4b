use Rattle.std.proofs.Common.{◌≡◌, drop, map}
use Rattle.bg_formula.specs.Formulas.{clauses_below}
use Rattle.bg_rows_trial.proofs.whole.clauses_below.Given as goal

abbrev pub invariant-loop-c : goal.invariant-loop-c
invariant-loop-c l = clauses_below l.atoms (map (λ c. c.items) (drop l.c-index l.clauses)) ≡ clauses_below l.atoms (map (λ c. c.items) l.clauses)
