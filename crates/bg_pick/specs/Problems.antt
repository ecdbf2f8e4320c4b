-- What is searched, as its meaning sees it.
use Rattle.std.specs.Prelude.{ℕ, Bool}
use Rattle.bg_formula.specs.Formulas.{Formula, formula_of}
use Rattle.bg_cert.specs.Walks.{has}
use Rattle.bg_pick.specs.declared.problem.Problem.{Problem}

abbrev pub formula_in : Problem → Formula
formula_in p = formula_of p.formula.now

-- the members of its set
abbrev pub set_in : Problem → ℕ → Bool
set_in p = has p.set.now
