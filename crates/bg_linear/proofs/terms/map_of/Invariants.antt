use Rattle.std.proofs.Common.{◌≡◌, ◌++◌, drop}
use Rattle.bg_linear.specs.Lins.{listed}
use Rattle.bg_linear.proofs.terms.map_of.Given as goal

abbrev pub invariant-loop-t : goal.invariant-loop-t
invariant-loop-t l = listed l.terms.entries ++ drop l.t-index l.entries ≡ l.entries
