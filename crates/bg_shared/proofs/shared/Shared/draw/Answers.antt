use Rattle.std.proofs.Common.{rules, arith, ◌*◌, ◌≤◌}
use Rattle.bg_shared.proofs.Table.{draws}
use Rattle.bg_shared.proofs.shared.Shared.draw.Goals as goal

pub fetch_add-number-requires : goal.fetch_add-number-requires
fetch_add-number-requires c = let own = c.args.self.now in let w = own.words in let k = own.key in let s = own.small in let may = c.requires.may in let whole = may.whole in
    let few : own.table.shared.key.seats ≤ 1024 = omega arith in let all : own.table.shared.key.cands ≤ 64 * c.args.seat.now.seat.me.0.seen.loaded = omega arith in
    (search rules, omega arith, draws own.table.shared.key.cands own.table.shared.key.seats own.table.shared.table_id.slots c.args.seat.now.seat.id c.args.seat.now.seat.me few all c.requires.idle may.room c.args.seat.now.live.1)
