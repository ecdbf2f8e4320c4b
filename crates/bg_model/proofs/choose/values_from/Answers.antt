use Rattle.std.proofs.Common.{map}
use Rattle.bg_scalar.specs.Values.{value_of}
use Rattle.bg_model.proofs.Steps.{values_more}
use Rattle.bg_model.proofs.choose.values_from.Goals as goal

pub loop-left-preserved : goal.loop-left-preserved
loop-left-preserved c =
    values_more (map value_of c.args.values.now) c.loop-left.made.items c.push.new.self.items c.in_ok-copy_at.field-0 c.loop-left.j c.in_ok-j.j c.loop-left.left _ c.in_ok-push.ensures.items c.in_ok-copy_at.ensures c.in_ok-j.ensures c.loop-left-test.true c.loop-left.invariant
