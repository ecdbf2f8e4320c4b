use Rattle.bg_blocks.specs.Views.{cmd_of}
use Rattle.bg_blocks.proofs.Undoing.{drop_whole}
use Rattle.bg_incarnate.proofs.Passing.{onto_step, onto_end}
use Rattle.bg_incarnate.proofs.command.commands.Goals as goal

pub loop-k-preserved : goal.loop-k-preserved
loop-k-preserved c =
    λ p. onto_step (cmd_of p) c.args.ks.now c.loop-k.k-index c.k-item.result _ _ _ c.loop-k-test.true c.k-item.is (c.in_ok-command.ensures p) (c.loop-k.invariant p)

pub returns : goal.returns
returns c =
    λ p. onto_end (cmd_of p) _ _ _ (drop_whole c.loop-k.k-index c.args.ks.now c.loop-k-test.false) (c.loop-k.invariant p)
