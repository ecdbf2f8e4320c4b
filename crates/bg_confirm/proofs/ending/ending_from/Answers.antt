use Rattle.std.proofs.lemmas.Result.{IfOk-weaker}
use Rattle.bg_ast.specs.Views.{program_of}
use Rattle.bg_scalar.specs.Views.{tables_in, vals_in}
use Rattle.bg_confirm.proofs.Running.{ran}
use Rattle.bg_confirm.proofs.ending.ending_from.Goals as goal

pub returns : goal.returns
returns c =
    IfOk-weaker c.replay.result _ _
    (λ ending h m q hm hq. ran (program_of c.args.program.now) m q c.deref-2.result.now c.in_ok-blocks.blocks.items (tables_in c.args.tables.now) (vals_in c.args.values.now) ending c.deref-2.ensures.value (c.in_ok-blocks.ensures m q hm hq) (h m q hm hq))
    c.replay.ensures
