use Rattle.bg_scalar.specs.Views.{seen_of}
use Rattle.bg_replay.proofs.Written.{value_step}
use Rattle.bg_replay.proofs.values.values_for.Goals as goal

pub loop-i-preserved : goal.loop-i-preserved
loop-i-preserved c =
    value_step c.args.targets.now c.args.es.now c.loop-i.i c.index-targets-i.result c.index-es-i.result (seen_of c.args.sight) c.loop-i.made.items c.push.new.self.items c.in-Is.x c.in_ok-owned-in-Is.field-0 c.in_ok-o.field-0 _ c.loop-i-test.true c.if-i-es.false c.index-targets-i.is c.index-es-i.is c.in_ok-o.ensures c.in-Is.is c.in_ok-owned-in-Is.ensures c.in_ok-push-in-Is.ensures.items c.loop-i.invariant
