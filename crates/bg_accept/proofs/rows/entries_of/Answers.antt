use Rattle.std.proofs.Common.{◌<◌, length, arith}
use Rattle.bg_accept.proofs.Tables.{past_there}
use Rattle.bg_accept.proofs.rows.entries_of.Goals as goal

pub returns-then-t-terms : goal.returns-then-t-terms
returns-then-t-terms c =
    let l : c.loop-t.t-index < length c.args.row.now = omega arith in
    past_there c.args.terms c.args.row.now c.loop-t.t-index _ l c.if-t-terms.true
