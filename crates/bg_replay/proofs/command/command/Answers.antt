use Rattle.std.proofs.Common.{sym, ap, ◌∙◌}
use Rattle.std.proofs.lemmas.Result.{IfOk-weaker}
use Rattle.bg_ast.specs.Views.{program_of}
use Rattle.bg_blocks.specs.Views.{cmd_of}
use Rattle.bg_replay.specs.Acts.{acts}
use Rattle.bg_replay.specs.Views.{moment_of, around_of}
use Rattle.bg_replay.proofs.Plans.{plan_called}
use Rattle.bg_replay.proofs.command.command.Goals as goal

pub returns-in-Perform : goal.returns-in-Perform
returns-in-Perform c =
    let p = program_of c.args.around.program.now in
    let q = c.in-Perform.q.now in
    let a = around_of c.args.around in
    let n = moment_of c.args.moment.now in
    IfOk-weaker c.call.result _ _
    (λ step h. h ∙ (plan_called p c.in-Perform.k.now q c.in-Perform.xs.now a n ∙ ap (λ k. acts a (cmd_of p k) n) (sym c.in-Perform.is)))
    c.call.ensures
