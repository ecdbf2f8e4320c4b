use Rattle.std.proofs.Common.{◌≡◌, ◌≤◌, ◌-◌, List, length}
use Rattle.bg_ast.specs.Syntax.{Fun}
use Rattle.bg_terms.specs.Built.{built}
use Rattle.bg_terms.specs.Typed.{types_with}
use Rattle.bg_term_table.specs.Views.{terms_in, incs_of, GiveThese}
use Rattle.bg_scalar.specs.Views.{vals_in}
use Rattle.bg_wanted.specs.Scalars.{scalars_in}
use Rattle.bg_wanted.specs.Asked.{IsLooked}
use Rattle.bg_wanted.proofs.Valued.{AreSoFar}
use Rattle.bg_wanted.proofs.behind.values_behind.Given as goal

abbrev pub invariant-loop-j : goal.invariant-loop-j
invariant-loop-j l =
    ((l.j ≤ length l.scalars) × (length l.made.items ≡ l.j))
    × ((fs : List Fun) → GiveThese fs l.around → IsLooked fs (incs_of l.around) l.scalars l.looked → AreSoFar (built (scalars_in l.scalars) (length (incs_of l.around)) (terms_in fs l.looked.terms.now)) (types_with (incs_of l.around) (terms_in fs l.looked.terms.now)) (scalars_in l.scalars) l.j (vals_in l.made.items))

abbrev pub decreases-loop-j : goal.decreases-loop-j
decreases-loop-j l = length l.scalars - l.j
