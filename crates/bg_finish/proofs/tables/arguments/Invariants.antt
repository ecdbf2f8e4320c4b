use Rattle.std.proofs.Common.{◌≡◌, ◌++◌, ◌-◌, length, drop}
use Rattle.bg_term_table.specs.Views.{meanings}
use Rattle.bg_scalar.specs.Views.{vals_in}
use Rattle.bg_wanted.specs.Scalars.{scalars_in}
use Rattle.bg_finish.specs.Filled.{args_in}
use Rattle.bg_finish.proofs.tables.arguments.Given as goal

abbrev pub invariant-loop-i : goal.invariant-loop-i
invariant-loop-i l =
    vals_in l.made.items ++ args_in (vals_in l.values) (meanings (drop l.i l.es)) (scalars_in (drop l.i l.scalars)) ≡ args_in (vals_in l.values) (meanings l.es) (scalars_in l.scalars)

abbrev pub decreases-loop-i : goal.decreases-loop-i
decreases-loop-i l = length l.es - l.i
