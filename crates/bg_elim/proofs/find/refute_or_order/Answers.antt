use Rattle.std.proofs.Common.{map, subst}
use Rattle.bg_rows.specs.Rows.{row_of}
use Rattle.bg_elim.specs.Work.{work_of, EndsAs, IsStarted}
use Rattle.bg_elim.proofs.Ends.{ends_as, solves}
use Rattle.bg_elim.proofs.find.refute_or_order.Goals as goal

pub found-requires-clause-ends : goal.found-requires-clause-ends
found-requires-clause-ends c =
    let given = map row_of c.args.rows.now in
    let start = work_of c.take_all.new.work in
    let w = work_of c.eliminate_all.new.work in
    let s = subst (EndsAs given c.args.budget start (IsStarted given start)) c.in-Whole.is c.in_ok-round.ensures.ends in
    let e = c.in_ok-round-in-Whole.ensures in
    ends_as given c.args.budget w _ _ c.in_ok-round-in-Whole.round
    (λ o. solves given c.deref-in-Whole.result.now start w s e.rows (e.sound given c.in_ok-round.ensures.holds) o)
    (e.ends given)
