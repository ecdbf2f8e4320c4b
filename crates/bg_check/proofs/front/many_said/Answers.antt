use Rattle.std.proofs.Common.{◌<◌, ◌≤◌, length, arith}
use Rattle.bg_check.proofs.Fronting.{many, one_said, all_said}
use Rattle.bg_check.proofs.front.many_said.Goals as goal

pub loop-line-preserved : goal.loop-line-preserved
loop-line-preserved c =
    let ls = c.args.lines.now in
    let here : c.loop-line.line-index < length ls = omega arith in
    one_said ls c.loop-line.line-index c.loop-line.n _ (many ls) _ here c.in_ok-n.ensures c.loop-line.invariant

pub returns : goal.returns
returns c =
    let ls = c.args.lines.now in
    let end : length ls ≤ c.loop-line.line-index = omega arith in
    all_said ls c.loop-line.line-index c.loop-line.n (many ls) end c.loop-line.invariant
