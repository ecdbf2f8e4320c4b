use Rattle.std.proofs.Common.{map, ap, ◌∙◌}
use Rattle.std.proofs.lemmas.Result.{IfOk-weaker}
use Rattle.bg_ast.specs.Views.{program_of, impl_of, proc_of}
use Rattle.bg_kinds.specs.Views.{ref_in}
use Rattle.bg_scalar.specs.Choices.{choice_of}
use Rattle.bg_scalar.specs.Views.{tables_in, vals_in}
use Rattle.bg_replay.proofs.Replays.{replays}
use Rattle.bg_replay.proofs.whole.replay_body.Goals as goal

pub returns : goal.returns
returns c =
    IfOk-weaker c.run.result _ _
    (λ ending is. replays (program_of c.args.code.program.now) (impl_of c.args.m.now) (proc_of c.args.q.now) c.args.code.set.now c.args.code.blocks.now (tables_in c.args.start.tables.now) (vals_in c.args.start.globals.now) (vals_in c.in_ok-first.first.items) (vals_in c.args.start.frame.now) (vals_in c.in_ok-locals.locals.items) (map ref_in c.deref.result.now) (map ref_in c.deref-2.result.now) (map choice_of c.args.start.choices.now) ending c.in_ok-first.ensures c.in_ok-locals.ensures (ap (map ref_in) c.deref.ensures.value ∙ c.in_ok-of_globals.ensures) (ap (map ref_in) c.deref-2.ensures.value ∙ c.in_ok-of_frame.ensures) is)
    c.run.ensures
