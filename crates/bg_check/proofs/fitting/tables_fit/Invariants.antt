use Rattle.std.proofs.Common.{◌≡◌, ◌-◌, length, drop, map}
use Rattle.bg_sense.specs.Tables.{are_tables}
use Rattle.bg_terms.specs.Flat.{HaveNoBodies}
use Rattle.bg_scalar.specs.Views.{tables_in}
use Rattle.bg_check.specs.Fitting.{meant}
use Rattle.bg_check.proofs.fitting.tables_fit.Given as goal

abbrev pub invariant-loop-i : goal.invariant-loop-i
invariant-loop-i l =
    HaveNoBodies (map (meant l.types) l.functions) →
    are_tables (map (meant l.types) (drop l.i l.functions)) (tables_in (drop l.i l.tables)) ≡ are_tables (map (meant l.types) l.functions) (tables_in l.tables)

abbrev pub decreases-loop-i : goal.decreases-loop-i
decreases-loop-i l = length l.tables - l.i
