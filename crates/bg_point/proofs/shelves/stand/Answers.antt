use Rattle.std.proofs.Common.{◌≡◌, ◌<◌, length, arith, rules, ◌∙◌}
use Rattle.std.specs.Prelude.{min}
use Rattle.bg_point.proofs.Shelved.{stand_none, stand_more}
use Rattle.bg_point.proofs.shelves.stand.Goals as goal

pub loop-t-init : goal.loop-t-init
loop-t-init c = stand_none c.args.order.now

pub loop-t-preserved : goal.loop-t-preserved
loop-t-preserved c =
    let lt : c.loop-t.t-index < length c.args.entries.now = omega arith in
    let e : c.min-first.result ≡ min c.loop-t.first c.place_of.result = search rules in
    e ∙ stand_more c.args.order.now c.args.entries.now c.loop-t.t-index c.loop-t.first c.place_of.result lt c.loop-t.invariant c.place_of.ensures
