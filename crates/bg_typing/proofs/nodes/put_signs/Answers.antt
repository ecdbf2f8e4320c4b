use Rattle.std.proofs.Common.{◌≡◌, ◌+◌, ◌-◌, ◌<◌, length, sym, ◌∙◌, arith}
use Rattle.bg_kinds.specs.FaultViews.{best_of}
use Rattle.bg_typing.specs.SideViews.{side_of}
use Rattle.bg_typing.proofs.Signs.{signed_side, signed_best}
use Rattle.bg_typing.proofs.nodes.put_signs.Goals as goal

pub loop-i-preserved : goal.loop-i-preserved
loop-i-preserved c =
    let j = c.loop-i.i - 1 in
    let e : c.loop-i.i ≡ j + 1 = omega arith in
    let h : j < length c.args.signs.now = omega arith in
    record {
      within = omega arith;
      best =
          rw (c.put_sign-side.ensures.best, c.put_sign-side.ensures.side)
          (sym (signed_best c.args.signs.now c.loop-i.i j _ (side_of c.loop-i.side) (best_of c.loop-i.best) e h) ∙ c.loop-i.invariant.best);
      side =
          rw (c.put_sign-side.ensures.side)
          (sym (signed_side c.args.signs.now c.loop-i.i j _ (side_of c.loop-i.side) e h) ∙ c.loop-i.invariant.side);
    }
