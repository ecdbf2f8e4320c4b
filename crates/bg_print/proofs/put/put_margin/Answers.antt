use Rattle.bg_print.proofs.Steps.{margin_step}
use Rattle.bg_print.proofs.put.put_margin.Goals as goal

pub loop-i-preserved : goal.loop-i-preserved
loop-i-preserved c = margin_step _ _ _ _ c.loop-i.invariant c.in_ok-extend_from_slice.ensures.items
