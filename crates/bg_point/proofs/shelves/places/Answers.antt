use Rattle.std.proofs.Common.{◌<◌, arith, refl}
use Rattle.bg_point.proofs.Shelved.{place_turn}
use Rattle.bg_point.proofs.shelves.places.Goals as goal

pub loop-i-preserved : goal.loop-i-preserved
loop-i-preserved c =
    let v = c.loop-i.invariant in
    let p : 0 < c.loop-i.i = omega arith in
    let w = v.within in
    record {
      within = omega (arith, w);
      is = λ x. place_turn c.args.order.now c.loop-i.i _ x _ _ p v.within refl (v.is x) (c.in_ok-insert.ensures.updates.0 x);
    }
