use Rattle.std.proofs.Common.{arith, ◌∙◌}
use Rattle.bg_cert.proofs.Counts.{decides_there, decides_past}
use Rattle.bg_cert.proofs.trail.decides.Goals as goal

pub returns-then-atom-len : goal.returns-then-atom-len
returns-then-atom-len c =
    let t = c.args.trail.now in
    c.is_counted.ensures ∙ decides_there t.counts.items t.decisions.items c.args.atom c.args.sign c.index.result.now t.counted (omega arith) c.index.ensures

pub returns-else-atom-len : goal.returns-else-atom-len
returns-else-atom-len c =
    let t = c.args.trail.now in
    decides_past t.counts.items t.decisions.items c.args.atom c.args.sign t.counted (omega arith)
