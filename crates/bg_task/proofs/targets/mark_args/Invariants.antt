use Rattle.std.proofs.Common.{◌≡◌, drop}
use Rattle.std.specs.List.{list_any}
use Rattle.bg_slice.specs.Marks.{marked}
use Rattle.bg_term_table.specs.Views.{meaning}
use Rattle.bg_task.specs.Targets.{reads}
use Rattle.bg_task.proofs.targets.mark_args.Given as goal

abbrev pub invariant-loop-e : goal.invariant-loop-e
invariant-loop-e l =
    marked (λ k. list_any (λ x. reads k (meaning x)) (drop l.e-index l.es)) 0 l.marks ≡ marked (λ k. list_any (λ x. reads k (meaning x)) l.es) 0 l.fn.marks
