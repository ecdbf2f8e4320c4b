use Rattle.std.proofs.Common.{refl, arith}
use Rattle.bg_model.specs.Behind.{stretch_of}
use Rattle.bg_model.specs.Views.{walk_in}
use Rattle.bg_model.proofs.Last.{turned_none, turned_more, turned_all}
use Rattle.bg_model.proofs.turns.turns.Goals as goal

pub loop-i-init : goal.loop-i-init
loop-i-init c =
    turned_none (walk_in c.args.trial) stretch_of c.args.blocks.now _ c.new-later.result.items (omega arith) c.new-later.ensures.items

pub loop-i-preserved : goal.loop-i-preserved
loop-i-preserved c =
    turned_more (walk_in c.args.trial) stretch_of c.args.blocks.now c.loop-i.i _ c.index-blocks-k.result c.turn_at-t.result c.loop-i.later.items c.push_front.new.self.items c.loop-i-test.true refl c.index-blocks-k.is c.turn_at-t.ensures c.in_ok-push_front.ensures.items c.loop-i.invariant

pub returns : goal.returns
returns c =
    turned_all (walk_in c.args.trial) stretch_of c.args.blocks.now c.loop-i.i c.loop-i.later.items c.loop-i-test.false c.loop-i.invariant
