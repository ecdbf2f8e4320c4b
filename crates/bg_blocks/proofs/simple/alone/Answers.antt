use Rattle.std.proofs.Common.{map, ap, ◌∙◌}
use Rattle.std.proofs.lemmas.Result.{on_ok_weaker}
use Rattle.bg_flow.specs.Blocks.{Leap}
use Rattle.bg_blocks.specs.Views.{cmd_of}
use Rattle.bg_blocks.specs.Emitted.{pushed}
use Rattle.bg_blocks.specs.EmittedViews.{state_of}
use Rattle.bg_blocks.proofs.simple.alone.Goals as goal

pub returns : goal.returns
returns c =
    on_ok_weaker c.push.result
    (λ h p. h p ∙ ap (λ l. pushed (record { cmds = map (cmd_of p) c.args.cmds.items; exit = Leap l }) (state_of p c.args.state.now)) c.in_ok-on.ensures)
    c.push.ensures
