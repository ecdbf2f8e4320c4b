use Rattle.std.proofs.Common.{◌≤◌, length, [], false, arith}
use Rattle.std.proofs.lemmas.List.{append-nil, drop_all}
use Rattle.bg_conflict.proofs.Numbers.{derives_from}
use Rattle.bg_conflict.proofs.renumber.renumbered.Goals as goal

pub returns : goal.returns
returns c = λ given picked p d.
    let steps = c.args.steps.now in
    let le : length steps ≤ c.loop-step.step-index = omega arith in
    let i = rw (drop_all c.loop-step.step-index steps le, append-nil c.loop-step.made.items) at c.loop-step.invariant in
    rw i (derives_from given c.args.numbers.now picked [] false steps p d)
