use Rattle.std.proofs.Common.{◌≡◌, drop}
use Rattle.std.specs.List.{list_any}
use Rattle.bg_slice.specs.Marks.{marked}
use Rattle.bg_term_table.specs.Views.{meaning}
use Rattle.bg_task.specs.Targets.{reads}
use Rattle.bg_task.proofs.targets.mark_terms.Given as goal

abbrev pub invariant-loop-t : goal.invariant-loop-t
invariant-loop-t l =
    marked (λ k. list_any (λ x. list_any (λ e. reads k (meaning e)) x.args.items) (drop l.t-index l.terms)) 0 l.marks
    ≡ marked (λ k. list_any (λ x. list_any (λ e. reads k (meaning e)) x.args.items) l.terms) 0 l.fn.marks
