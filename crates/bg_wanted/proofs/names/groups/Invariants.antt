use Rattle.std.proofs.Common.{List, ◌-◌, length}
use Rattle.bg_ast.specs.Syntax.{Fun}
use Rattle.bg_terms.specs.Typed.{types_with}
use Rattle.bg_term_table.specs.Views.{terms_in, incs_of, GiveThese}
use Rattle.bg_wanted.specs.Scalars.{scalars_in}
use Rattle.bg_wanted.specs.Alike.{AreAllGroups}
use Rattle.bg_wanted.proofs.names.groups.Given as goal

abbrev pub invariant-loop-j : goal.invariant-loop-j
invariant-loop-j l =
    (fs : List Fun) → GiveThese fs l.around → AreAllGroups (scalars_in l.values) (types_with (incs_of l.around) (terms_in fs l.terms)) l.made.items l.j

abbrev pub decreases-loop-j : goal.decreases-loop-j
decreases-loop-j l = length l.values - l.j
