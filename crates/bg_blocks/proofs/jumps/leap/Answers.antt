use Rattle.std.proofs.Common.{map, ap, ◌∙◌}
use Rattle.std.proofs.lemmas.Result.{on_ok_weaker}
use Rattle.bg_flow.specs.Blocks.{Leap}
use Rattle.bg_blocks.specs.Views.{cmd_of}
use Rattle.bg_blocks.specs.Emitted.{pushed}
use Rattle.bg_blocks.specs.EmittedViews.{state_of}
use Rattle.bg_blocks.proofs.Reading.{emits_leap}
use Rattle.bg_blocks.proofs.jumps.leap.Goals as goal

pub returns : goal.returns
returns c =
    on_ok_weaker c.push.result
    (λ h p ps is. emits_leap p ps c.args.to.items c.args.state.now c.push.new.state is (h p ∙ ap (λ l. pushed (record { cmds = map (cmd_of p) l; exit = Leap c.args.to.items }) (state_of p c.args.state.now)) c.new.ensures.items))
    c.push.ensures
