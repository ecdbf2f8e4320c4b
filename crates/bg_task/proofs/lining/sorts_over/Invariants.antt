use Rattle.std.proofs.Common.{◌≡◌, List, map, take}
use Rattle.bg_ast.specs.Syntax.{Fun}
use Rattle.bg_terms.specs.Typed.{types_with}
use Rattle.bg_term_table.specs.Views.{terms_in, incs_of, GiveThese}
use Rattle.bg_task.specs.Sorts.{flat_sort}
use Rattle.bg_task.proofs.lining.sorts_over.Given as goal

abbrev pub invariant-loop-t : goal.invariant-loop-t
invariant-loop-t l =
    (fs : List Fun) → GiveThese fs l.around → l.made.items ≡ map flat_sort (types_with (incs_of l.around) (terms_in fs (take l.t-index l.terms)))
