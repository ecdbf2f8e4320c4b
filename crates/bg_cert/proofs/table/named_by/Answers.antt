use Rattle.std.proofs.Common.{◌<◌, length, arith}
use Rattle.bg_cert.proofs.Wanted.{named_more}
use Rattle.bg_cert.proofs.table.named_by.Goals as goal

pub loop-step-preserved : goal.loop-step-preserved
loop-step-preserved c = λ j h.
    let lt : c.loop-step.step-index < length c.args.steps.now = omega arith in
    named_more c.loop-step.marks.items c.mark_named.new.marks.items c.args.steps.now c.loop-step.step-index j _ lt (c.mark_named.ensures j) (c.loop-step.invariant j h)
