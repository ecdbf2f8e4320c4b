use Rattle.std.proofs.Common.{ap, ◌∙◌}
use Rattle.std.proofs.lemmas.List.{take_all}
use Rattle.bg_scalar.specs.Views.{vals_in}
use Rattle.bg_wanted.proofs.Rowed.{scalar_more, table_there}
use Rattle.bg_wanted.proofs.rows.plain_scalars.Goals as goal

pub returns-in-None : goal.returns-in-None
returns-in-None c =
    table_there c.args.values.now c.loop-v.v-index c.v-item.result c.loop-v-test.true c.v-item.is c.in-None.ensures

pub loop-v-preserved : goal.loop-v-preserved
loop-v-preserved c =
    scalar_more c.args.values.now c.loop-v.v-index c.v-item.result c.in-Some.s c.loop-v.made.items c.push.new.self.items c.loop-v-test.true c.v-item.is c.in-Some.ensures c.in_ok-push-in-Some.ensures.items c.loop-v.invariant

pub returns : goal.returns
returns c = c.loop-v.invariant ∙ ap vals_in (take_all c.loop-v.v-index c.args.values.now c.loop-v-test.false)
