use Rattle.std.proofs.Common.{◌≡◌, ◌++◌}
use Rattle.bg_print.specs.Docs.{text, margin}
use Rattle.bg_print.proofs.put.put_margin.Given as goal

abbrev pub invariant-loop-i : goal.invariant-loop-i
invariant-loop-i l = l.out.items ≡ l.fn.out.items ++ text (margin l.i)
