use Rattle.std.proofs.Common.{ap, ◌∙◌}
use Rattle.std.specs.List.{list_any}
use Rattle.bg_slice.specs.Marks.{marked}
use Rattle.bg_term_table.specs.Views.{meaning}
use Rattle.bg_task.specs.Targets.{reads}
use Rattle.bg_task.proofs.Marked.{marked_next, marked_last}
use Rattle.bg_task.proofs.targets.mark_terms.Goals as goal

pub loop-t-preserved : goal.loop-t-preserved
loop-t-preserved c =
    marked_next (λ k x. list_any (λ e. reads k (meaning e)) x.args.items) c.args.terms.now c.loop-t.t-index c.t-item.result c.loop-t.marks c.mark_args.new.marks _ c.loop-t-test.true c.t-item.is
    (c.mark_args.ensures ∙ ap (λ l. marked (λ k. list_any (λ e. reads k (meaning e)) l) 0 c.loop-t.marks) c.deref.ensures.value)
    c.loop-t.invariant

pub returns : goal.returns
returns c =
    marked_last (λ k x. list_any (λ e. reads k (meaning e)) x.args.items) c.args.terms.now c.loop-t.t-index c.loop-t.marks _ c.loop-t-test.false c.loop-t.invariant
