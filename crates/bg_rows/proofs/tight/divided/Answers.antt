use Rattle.std.proofs.Common.{◌+◌, ◌++◌, drop, ap, ◌∙◌, arith}
use Rattle.bg_rows.specs.Rows.{divided}
use Rattle.bg_rows.proofs.Steps.{divided_more}
use Rattle.bg_rows.proofs.tight.divided.Goals as goal

pub loop-t-preserved : goal.loop-t-preserved
loop-t-preserved c =
    ap (λ made. made ++ divided c.args.g (drop (c.loop-t.t-index + 1) c.args.entries.now)) c.in_ok-push_quotient.ensures
    ∙ divided_more c.loop-t.made.items c.args.entries.now c.args.g c.loop-t.t-index (omega arith)
    ∙ c.loop-t.invariant
