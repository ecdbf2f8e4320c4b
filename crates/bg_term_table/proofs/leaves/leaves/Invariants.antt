use Rattle.std.proofs.Common.{◌≡◌, Some, take}
use Rattle.bg_term_table.specs.Views.{meanings}
use Rattle.bg_term_table.specs.Keys.{leaves_in}
use Rattle.bg_term_table.proofs.leaves.leaves.Given as goal

abbrev pub invariant-loop-e : goal.invariant-loop-e
invariant-loop-e l = leaves_in (meanings (take l.e-index l.es)) ≡ Some l.made.items
