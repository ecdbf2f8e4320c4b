use Rattle.std.proofs.lemmas.Result.{IfOk-weaker}
use Rattle.std.proofs.Common.{◌∙◌}
use Rattle.bg_finish.proofs.Held.{value_there}
use Rattle.bg_finish.proofs.tables.value_or.Goals as goal

pub returns-in-Some : goal.returns-in-Some
returns-in-Some c =
    IfOk-weaker c.copy.result _ _
    (λ made h. h ∙ value_there c.args.values.now c.args.j c.in-Some.v.now c.in-Some.ensures.lookup.3.0 (c.in-Some.ensures.lookup.3.1 c.in-Some.v.now))
    c.copy.ensures
