use Rattle.std.proofs.Common.{map, sym, ap, ◌∙◌, rules}
use Rattle.bg_blocks.specs.Views.{cmd_of}
use Rattle.bg_blocks.proofs.Undoing.{drop_whole}
use Rattle.bg_model.specs.Views.{made_by, next_by}
use Rattle.bg_model.proofs.Going.{next_command, last_command}
use Rattle.bg_model.proofs.commands.commands.Goals as goal

pub returns-then-not-branch : goal.returns-then-not-branch
returns-then-not-branch c =
    λ vs p rest. last_command (cmd_of p) vs c.args.trial c.args.ks.now c.loop-k.k-index c.k-item.result c.loop-k-test.true c.k-item.is c.loop-k.front c.command.new.front rest _ (c.loop-k.invariant vs p rest) c.in_ok-command.field-0 (search rules) (c.in_ok-command.ensures vs p)

pub loop-k-preserved : goal.loop-k-preserved
loop-k-preserved c =
    λ vs p rest. next_command (cmd_of p) vs c.args.trial c.args.ks.now c.loop-k.k-index c.k-item.result c.loop-k-test.true c.k-item.is c.loop-k.front c.command.new.front rest _ (c.loop-k.invariant vs p rest) c.in_ok-command.field-0 (search rules) (c.in_ok-command.ensures vs p)

pub returns : goal.returns
returns c =
    λ vs p rest. sym (c.loop-k.invariant vs p rest)
    ∙ ap (λ l. made_by vs c.loop-k.front (next_by vs c.args.trial (map (cmd_of p) l) c.loop-k.front rest)) (drop_whole c.loop-k.k-index c.args.ks.now c.loop-k-test.false)
