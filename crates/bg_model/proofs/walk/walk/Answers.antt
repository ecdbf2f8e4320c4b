use Rattle.bg_model.proofs.Steps.{walk_goes}
use Rattle.bg_model.proofs.walk.walk.Goals as goal

pub loop-k-preserved : goal.loop-k-preserved
loop-k-preserved c =
    walk_goes _ _ _ c.args.cmds.now c.loop-k.k-index c.k-item.result c.step.result _ c.loop-k-test.true c.k-item.is c.step.ensures c.in-On.is c.loop-k.invariant
