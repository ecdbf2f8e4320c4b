use Rattle.std.proofs.Common.{sym, ap, ◌∙◌}
use Rattle.bg_task.specs.Sorts.{flat_sort}
use Rattle.bg_task.proofs.sorts.flat_sort.Goals as goal

pub returns-in-None : goal.returns-in-None
returns-in-None c = ap flat_sort (sym c.in-None.ensures.is.1.1)

pub returns-in-Some : goal.returns-in-Some
returns-in-Some c = c.sort_of.ensures ∙ ap flat_sort (sym c.in-Some.ensures.is)
