use Rattle.std.proofs.Common.{◌<◌, length, map, arith, ◌∙◌}
use Rattle.bg_rows.specs.Rows.{row_of}
use Rattle.bg_elim.specs.Work.{work_of}
use Rattle.bg_elim.proofs.Places.{at_below}
use Rattle.bg_elim.proofs.Pairs.{taken_done, taken_false}
use Rattle.bg_elim.proofs.Begins.{given_at, there_more, there_below, start_placed}
use Rattle.bg_elim.proofs.start.take_all.Goals as goal

pub returns-in-False-clause-ends : goal.returns-in-False-clause-ends
returns-in-False-clause-ends c =
    let lt : c.loop-j.j < length c.args.given.now = omega arith in
    let at = given_at c.args.given.now c.loop-j.j c.index-given-j.result lt c.index-given-j.is in
    let t = taken_false c.args.budget (work_of c.loop-j.work) (row_of c.index-given-j.result) (work_of c.take_given.new.work) _ c.in_ok-take_given.ensures.taken c.in-False.is in
    (row_of c.index-given-j.result, t.1, at)

pub returns-in-Full-clause-holds : goal.returns-in-Full-clause-holds
returns-in-Full-clause-holds c =
    let lt : c.loop-j.j < length c.args.given.now = omega arith in
    let at = given_at c.args.given.now c.loop-j.j c.index-given-j.result lt c.index-given-j.is in
    c.in_ok-take_given.ensures.sound (map row_of c.args.given.now) c.loop-j.invariant.holds at

pub loop-j-preserved : goal.loop-j-preserved
loop-j-preserved c =
    let lt : c.loop-j.j < length c.args.given.now = omega arith in
    let given = map row_of c.args.given.now in
    let r = row_of c.index-given-j.result in
    let at = given_at c.args.given.now c.loop-j.j c.index-given-j.result lt c.index-given-j.is in
    let w = work_of c.loop-j.work in
    let made = work_of c.take_given.new.work in
    let e = c.in_ok-take_given.ensures in
    let i = c.loop-j.invariant in
    let s = taken_done c.args.budget w r made _ e.taken c.in-Done.is in
    record {
      indexed = e.indexed;
      room = e.room;
      order = e.extends.order ∙ i.order;
      holds = e.sound given i.holds at;
      there = there_below given made c.loop-j.j r at (λ n q lt h. there_more w made q e.extends.stays (i.there n q lt h)) (e.there c.in-Done.is);
      placed = start_placed given w made c.loop-j.j r i.order at s i.placed;
    }

pub returns-clause-ends : goal.returns-clause-ends
returns-clause-ends c =
    (λ n r h. let lt = at_below row_of c.args.given.now n r h in c.loop-j.invariant.there n r (omega arith) h, c.loop-j.invariant.placed)
