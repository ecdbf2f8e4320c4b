use Rattle.std.proofs.Common.{◌≡◌, drop}
use Rattle.bg_rows.specs.Rows.{after}
use Rattle.bg_linear.specs.Lins.{each}
use Rattle.bg_linear.specs.Views.{changing}
use Rattle.bg_linear.proofs.scaled.each.Given as goal

abbrev pub invariant-loop-t : goal.invariant-loop-t
invariant-loop-t l = after l.made.items (each (changing l.how) (drop l.t-index l.entries)) ≡ each (changing l.how) l.entries
