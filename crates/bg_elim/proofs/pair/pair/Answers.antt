use Rattle.bg_rows.specs.Rows.{row_of}
use Rattle.bg_elim.specs.Work.{work_of}
use Rattle.bg_elim.proofs.Pairs.{pair_ready, pair_false_at, taken_done, taken_false}
use Rattle.bg_elim.proofs.pair.pair.Goals as goal

pub returns-in-Done-clause-paired : goal.returns-in-Done-clause-paired
returns-in-Done-clause-paired c =
    let p = c.requires.pair in
    pair_ready (work_of c.args.work.now) (work_of c.take_derived.new.work) c.args.x c.args.i c.args.j p (row_of c.in-Ok.row)
    (c.in-Ok.ensures p.up p.low p.first p.second)
    (taken_done c.args.budget (work_of c.args.work.now) (row_of c.in-Ok.row) (work_of c.take_derived.new.work) _ c.in_ok-take_derived.ensures.taken c.in-Done.is)

pub returns-in-False-clause-paired : goal.returns-in-False-clause-paired
returns-in-False-clause-paired c =
    let p = c.requires.pair in
    let t = taken_false c.args.budget (work_of c.args.work.now) (row_of c.in-Ok.row) (work_of c.take_derived.new.work) _ c.in_ok-take_derived.ensures.taken c.in-False.is in
    pair_false_at (work_of c.args.work.now) (work_of c.take_derived.new.work) c.args.x c.args.i c.args.j p (row_of c.in-Ok.row) t.0 (c.in-Ok.ensures p.up p.low p.first p.second) t.1
