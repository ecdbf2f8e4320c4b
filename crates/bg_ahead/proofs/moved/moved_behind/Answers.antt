use Rattle.std.proofs.Common.{ap}
use Rattle.bg_formed.specs.Views.{form_cmds_of}
use Rattle.bg_ahead.proofs.Behind.{one_behind}
use Rattle.bg_ahead.proofs.moved.moved_behind.Goals as goal

pub loop-b-preserved : goal.loop-b-preserved
loop-b-preserved c =
    one_behind c.args.goes.now (form_cmds_of c.loop-b.cmds.items) (form_cmds_of c.new-cmds.result.items) c.args.blocks.now c.loop-b.b-index c.b-item.result c.in_ok-x.x c.loop-b.made.items c.push.new.self.items _ c.loop-b-test.true c.b-item.is (ap form_cmds_of c.new-cmds.ensures.items) c.in_ok-push.ensures.items c.in_ok-x.ensures c.loop-b.invariant
