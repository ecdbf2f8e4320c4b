use Rattle.std.proofs.Common.{◌∙◌, arith}
use Rattle.std.proofs.lemmas.Result.{IfOk-weaker}
use Rattle.bg_blocks.proofs.Jumped.{points_to}
use Rattle.bg_blocks.proofs.jumps.jumps_to.Goals as goal

pub returns-else-labels-eq0 : goal.returns-else-labels-eq0
returns-else-labels-eq0 c = IfOk-weaker c.each_ahead.result _ _ (λ to h. h ∙ points_to c.args.state.now c.args.labels.now (omega (arith, c.if-labels-eq0.false))) c.each_ahead.ensures
