use Rattle.std.proofs.Common.{map, ap, ◌∙◌}
use Rattle.std.proofs.lemmas.Result.{IfOk-weaker}
use Rattle.bg_ast.specs.Syntax.{Read}
use Rattle.bg_ast.specs.Meaning as m
use Rattle.bg_ast.specs.Views as view
use Rattle.bg_scalar.specs.Worths.{worth}
use Rattle.bg_scalar.specs.Views.{seen_of, worth_in}
use Rattle.bg_replay.specs.Levels.{levels, put_back}
use Rattle.bg_replay.proofs.Levels.{written_is}
use Rattle.bg_replay.proofs.values.value_for.Goals as goal

pub returns : goal.returns
returns c =
    let s = seen_of c.args.sight in
    let x = Read (view.var_of c.args.target.now.placed.variable) in
    let bs = (view.target_of c.args.target.now).brackets in
    let is = ap (λ ls. put_back ls (worth_in c.in_ok-new.new)) c.in_ok-levels.ensures ∙ (ap (put_back (levels (worth x s) bs s)) c.in_ok-new.ensures ∙ written_is x (m.ex_of (view.ex_of c.args.e.now)) bs s) in
    IfOk-weaker c.put_back.result _ _ (λ w h. h ∙ is) c.put_back.ensures
