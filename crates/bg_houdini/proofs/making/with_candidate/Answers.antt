use Rattle.std.proofs.Common.{◌<◌, length, arith}
use Rattle.bg_houdini.proofs.Once.{one_place}
use Rattle.bg_houdini.proofs.making.with_candidate.Goals as goal

pub loop-place-preserved : goal.loop-place-preserved
loop-place-preserved c =
    let l : c.loop-place.place-index < length c.args.places.now = omega arith in
    one_place c.loop-place.made.items c.args.places.now c.add.new.made.items c.loop-place.place-index _ c.loop-place.invariant l c.in_ok-add.ensures
