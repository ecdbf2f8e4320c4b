use Rattle.std.proofs.Common.{arith}
use Rattle.bg_turns.proofs.Leaving.{one_more_leaves, none_leave}
use Rattle.bg_turns.proofs.crew.+each.Goals as goal

pub leave_each-returns-then-last-eq0 : goal.leave_each-returns-then-last-eq0
leave_each-returns-then-last-eq0 g t c =
    let cut = c.split_at_mut-rest in
    one_more_leaves g.F.Fn c.args.f.now c.args.s.now cut.result.0.now cut.result.1.now cut.result.0.now _ c.index-end-0.result c.at_one.new.it cut.ensures.value cut.ensures.front_len
    (omega (arith, cut.ensures.back_len, c.requires.some)) (none_leave g.F.Fn c.args.f.now cut.result.0.now (omega (arith, cut.ensures.front_len, c.if-last-eq0.true))) c.at_one.ensures.at

pub leave_each-returns : goal.leave_each-returns
leave_each-returns g t c =
    let cut = c.split_at_mut-rest in
    one_more_leaves g.F.Fn c.args.f.now c.args.s.now cut.result.0.now cut.result.1.now c.both.new.rest _ c.index-end-0-2.result c.both.new.one cut.ensures.value cut.ensures.front_len
    (omega (arith, cut.ensures.back_len, c.requires.some)) c.both.ensures.rest c.both.ensures.one.at
