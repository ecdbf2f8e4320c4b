use Rattle.std.proofs.Common.{ap, ◌∙◌}
use Rattle.std.proofs.lemmas.Result.{on_ok_weaker}
use Rattle.bg_ast.specs.Meaning as m
use Rattle.bg_ast.specs.Views.{guard_of}
use Rattle.bg_flow.specs.Blocks.{Either}
use Rattle.bg_blocks.specs.Emitted.{pushed}
use Rattle.bg_blocks.specs.EmittedViews.{state_of}
use Rattle.bg_blocks.proofs.branches.head_of_loop.Goals as goal

pub returns : goal.returns
returns c =
    on_ok_weaker c.push.result
    (λ h p. h p ∙ ap (λ l. pushed (record { cmds = l; exit = Either (m.guard_of (guard_of c.args.head.guard.now)) 0 c.args.count }) (state_of p c.args.state.now)) (c.in_ok-cmds.ensures p))
    c.push.ensures
