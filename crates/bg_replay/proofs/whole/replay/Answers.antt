use Rattle.std.proofs.Common.{map}
use Rattle.std.proofs.lemmas.Result.{IfOk-weaker}
use Rattle.bg_ast.specs.Views.{program_of}
use Rattle.bg_scalar.specs.Choices.{choice_of}
use Rattle.bg_scalar.specs.Views.{tables_in, vals_in}
use Rattle.bg_replay.specs.Endings.{IsReplay}
use Rattle.bg_replay.proofs.Replays.{replay_of}
use Rattle.bg_replay.proofs.whole.replay.Goals as goal

pub returns : goal.returns
returns c =
    IfOk-weaker c.replay_body.result _ _
    (λ ending h m q hm hq. replay_of (λ im p. IsReplay (program_of c.args.code.program.now) c.args.code.blocks.now c.args.code.set.now c.args.implementation im p (tables_in c.args.start.tables.now) (vals_in c.args.start.globals.now) (vals_in c.args.start.frame.now) (map choice_of c.args.start.choices.now) ending) c.args.code.program.now.implementations.items c.args.code.program.now.procedures.items c.args.implementation c.in-Some.m.now c.in-Some-get.q.now m q (rw c.deref.ensures.value at c.in-Some.ensures.lookup.1) (rw c.deref-2.ensures.value at c.in-Some-get.ensures.lookup.1) hm hq (h c.args.implementation))
    c.replay_body.ensures
