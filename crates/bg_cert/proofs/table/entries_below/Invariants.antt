use Rattle.std.proofs.Common.{◌≡◌, drop}
use Rattle.bg_formula.specs.Formulas.{entries_below}
use Rattle.bg_cert.proofs.table.entries_below.Given as goal

abbrev pub invariant-loop-t : goal.invariant-loop-t
invariant-loop-t l = entries_below l.terms (drop l.t-index l.entries) ≡ entries_below l.terms l.entries
