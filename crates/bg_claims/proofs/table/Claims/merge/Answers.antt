use Rattle.std.proofs.Common.{rules, arith, ◌<◌, ap}
use Rattle.atomic_table.specs.Table.{Me, step}
use mathlib.Core.Option.{none}
use Rattle.bg_claims.specs.declared.view.ClaimView.{ClaimView}
use Rattle.bg_claims.proofs.Keeps.{joins, looks}
use Rattle.bg_claims.proofs.table.Claims.merge.Goals as goal

pub join_seat-requires : goal.join_seat-requires
join_seat-requires c = (search rules, search rules, search rules, omega arith, joins _ _ _ _ _ _ c.args.first.now.fits.1)

pub load-requires : goal.load-requires
load-requires c = let e = ap (λ (m : Me (Unit {0}) ClaimView). m.0.parts) c.join_seat.ensures.2 in let f = c.args.first.now.fits.1 in
    let has : 0 < c.join_seat.new.seat.me.0.parts = omega arith in
    (search rules, omega arith, looks _ _ _ _ _ (step c.args.self.now.table.shared.table_id.slots 0 0 0 none) has)
