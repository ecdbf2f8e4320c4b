use Rattle.std.proofs.Common.{◌<◌, length, arith}
use Rattle.bg_check.proofs.Bare.{one_ordinary}
use Rattle.bg_check.proofs.ordinary.without_candidate.Goals as goal

pub loop-place-preserved : goal.loop-place-preserved
loop-place-preserved c =
    let l : c.loop-place.place-index < length c.args.places.now = omega arith in
    one_ordinary c.loop-place.made.items c.args.places.now c.add.new.made.items c.loop-place.place-index _ c.loop-place.invariant l c.in_ok-add.ensures
