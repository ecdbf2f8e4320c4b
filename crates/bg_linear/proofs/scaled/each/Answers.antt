use Rattle.std.proofs.Common.{sym, ◌∙◌}
use Rattle.std.proofs.lemmas.Result.{err_from_is_err_and}
use Rattle.bg_linear.proofs.Steps.{each_more, each_refused, each_done}
use Rattle.bg_linear.proofs.scaled.each.Goals as goal

pub loop-t-preserved : goal.loop-t-preserved
loop-t-preserved c =
    sym (each_more c.args.how c.loop-t.made.items c.args.entries.now c.loop-t.t-index c.push_changed.new.made.items c.loop-t-test.true c.in_ok-push_changed.ensures)
    ∙ c.loop-t.invariant

pub returns-in_err-push_changed : goal.returns-in_err-push_changed
returns-in_err-push_changed c =
    let p = err_from_is_err_and c.from_residual.result c.from_residual.ensures.1 in
    rw (p.1, p.2) (each_refused c.args.how c.loop-t.made.items c.args.entries.now c.loop-t.t-index _ _ c.loop-t-test.true c.in_err-push_changed.ensures c.loop-t.invariant)

pub returns : goal.returns
returns c = each_done c.args.how c.loop-t.made.items c.args.entries.now c.loop-t.t-index _ c.loop-t-test.false c.loop-t.invariant
