use Rattle.bg_term_table.specs.Views.{meaning}
use Rattle.bg_task.specs.Targets.{reads}
use Rattle.bg_task.proofs.Marked.{marked_next, marked_last}
use Rattle.bg_task.proofs.targets.mark_args.Goals as goal

pub loop-e-preserved : goal.loop-e-preserved
loop-e-preserved c =
    marked_next (λ k x. reads k (meaning x)) c.args.es.now c.loop-e.e-index c.e-item.result c.loop-e.marks c.mark.new.marks _ c.loop-e-test.true c.e-item.is c.mark.ensures c.loop-e.invariant

pub returns : goal.returns
returns c =
    marked_last (λ k x. reads k (meaning x)) c.args.es.now c.loop-e.e-index c.loop-e.marks _ c.loop-e-test.false c.loop-e.invariant
