use Rattle.std.proofs.Common.{◌≡◌, drop}
use Rattle.bg_linear.specs.Lins.{listed, joined}
use Rattle.bg_linear.proofs.terms.put_all.Given as goal

abbrev pub invariant-loop-u : goal.invariant-loop-u
invariant-loop-u l = joined l.op (listed l.terms.entries) (drop l.u-index l.entries) ≡ joined l.op (listed l.fn.terms.entries) l.entries
