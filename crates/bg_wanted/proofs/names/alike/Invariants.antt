use Rattle.std.proofs.Common.{List, ◌-◌, length}
use Rattle.bg_ast.specs.Syntax.{Fun}
use Rattle.bg_term_table.specs.Views.{terms_in, incs_of}
use Rattle.bg_wanted.specs.Scalars.{scalars_in}
use Rattle.bg_wanted.specs.Asked.{IsLooked}
use Rattle.bg_wanted.proofs.Grouping.{IsBest}
use Rattle.bg_wanted.proofs.names.alike.Given as goal

abbrev pub invariant-loop-i : goal.invariant-loop-i
invariant-loop-i l =
    (fs : List Fun) → IsLooked fs (incs_of l.around) l.values l.looked →
    IsBest (scalars_in l.values) (length (incs_of l.around)) (terms_in fs l.looked.terms.now) l.groups.items l.i l.best

abbrev pub decreases-loop-i : goal.decreases-loop-i
decreases-loop-i l = length l.groups.items - l.i
