use Rattle.std.proofs.Common.{[], ◌∷◌, map, ap, ◌∙◌}
use Rattle.std.proofs.lemmas.Result.{on_ok_weaker}
use Rattle.bg_flow.specs.Blocks.{Leap}
use Rattle.bg_blocks.specs.Views.{cmd_of}
use Rattle.bg_blocks.specs.Emitted.{pushed}
use Rattle.bg_blocks.specs.EmittedViews.{state_of}
use Rattle.bg_blocks.proofs.branches.turn_of_loop.Goals as goal

pub returns : goal.returns
returns c =
    on_ok_weaker c.push.result
    (λ h p xs. h p
    ∙ (ap (λ l. pushed (record { cmds = map (cmd_of p) c.in_ok-cmds.cmds.items; exit = Leap l }) (state_of p c.args.state.now)) c.in_ok-on.ensures
    ∙ ap (λ l. pushed (record { cmds = l; exit = Leap (0 ∷ []) }) (state_of p c.args.state.now)) (c.in_ok-cmds.ensures p xs)))
    c.push.ensures
