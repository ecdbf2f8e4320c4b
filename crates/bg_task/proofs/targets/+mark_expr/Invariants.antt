use Rattle.std.proofs.Common.{◌≡◌, drop}
use Rattle.std.specs.List.{list_any}
use Rattle.bg_slice.specs.Marks.{marked}
use Rattle.bg_term_table.specs.Views.{meaning}
use Rattle.bg_task.specs.Targets.{reads}
use Rattle.bg_task.proofs.targets.+mark_expr.Given as goal

abbrev pub invariant-mark_links-loop-l : goal.invariant-mark_links-loop-l
invariant-mark_links-loop-l l =
    marked (λ k. list_any (λ x. reads k (meaning x.operand)) (drop l.l-index l.links)) 0 l.marks ≡ marked (λ k. list_any (λ x. reads k (meaning x.operand)) l.links) 0 l.fn.marks
