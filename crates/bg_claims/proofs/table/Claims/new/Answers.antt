use Rattle.std.proofs.Common.{rules, arith, ◌<◌, ap}
use Rattle.atomic_table.specs.Table.{Me}
use Rattle.bg_claims.specs.declared.view.ClaimView.{ClaimView}
use Rattle.bg_claims.proofs.Keeps.{splits}
use Rattle.bg_claims.proofs.table.Claims.new.Goals as goal

pub split_seat-seat-requires : goal.split_seat-seat-requires
split_seat-seat-requires c = let inv = c.loop-i.invariant in
    let p = ap (λ (m : Me (Unit {0}) ClaimView). m.0.parts) inv.view_is in let z = ap (λ (m : Me (Unit {0}) ClaimView). m.0.stops) inv.view_is in
    let n = inv.count in let lt = c.loop-i-test.true in let w = c.in_ok-table.ensures in
    let two : 1 < c.loop-i.first.me.0.parts = omega arith in
    (search rules, omega (arith, w.0), splits _ _ _ _ two z)
