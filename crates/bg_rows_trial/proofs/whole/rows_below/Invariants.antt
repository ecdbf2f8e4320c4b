use Rattle.std.proofs.Common.{◌≡◌, drop, map}
use Rattle.bg_formula.specs.Atoms.{atom_of}
use Rattle.bg_formula.specs.Formulas.{rows_below}
use Rattle.bg_rows_trial.proofs.whole.rows_below.Given as goal

abbrev pub invariant-loop-a : goal.invariant-loop-a
invariant-loop-a l = rows_below l.terms (map atom_of (drop l.a-index l.atoms)) ≡ rows_below l.terms (map atom_of l.atoms)
