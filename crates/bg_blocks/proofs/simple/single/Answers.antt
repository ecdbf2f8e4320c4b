use Rattle.std.proofs.Common.{map, ◌∙◌}
use Rattle.std.proofs.lemmas.Result.{on_ok_weaker}
use Rattle.bg_blocks.specs.Views.{cmd_of}
use Rattle.bg_blocks.proofs.Reading.{emits_single, alone_is}
use Rattle.bg_blocks.proofs.simple.single.Goals as goal

pub returns-then-state : goal.returns-then-state
returns-then-state c =
    on_ok_weaker c.lead.result (λ h p. emits_single p (map (cmd_of p) c.args.cmds.items) c.args.state.now c.lead.new.state (h p)) c.lead.ensures

pub returns-else-state : goal.returns-else-state
returns-else-state c =
    on_ok_weaker c.alone.result
    (λ h p. emits_single p (map (cmd_of p) c.args.cmds.items) c.args.state.now c.alone.new.state (h p ∙ alone_is p (map (cmd_of p) c.args.cmds.items) c.args.state.now c.if-state.false))
    c.alone.ensures
