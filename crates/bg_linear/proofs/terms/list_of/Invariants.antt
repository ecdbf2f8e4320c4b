use Rattle.std.proofs.Common.{◌≡◌, ◌++◌}
use Rattle.bg_linear.specs.Lins.{listed}
use Rattle.bg_linear.proofs.terms.list_of.Given as goal

abbrev pub invariant-loop-variable : goal.invariant-loop-variable
invariant-loop-variable l = l.made.items ++ listed l.variable-iterator ≡ listed l.terms.entries
