use Rattle.std.proofs.Common.{arith}
use Rattle.bg_wanted.proofs.Building.{wrapped_more, default_all, plain_zero}
use Rattle.bg_wanted.proofs.tables.default_value.Goals as goal

pub loop-k-init : goal.loop-k-init
loop-k-init c = (omega arith, plain_zero c.args.ty.base _ c.plain.ensures)

pub loop-k-preserved : goal.loop-k-preserved
loop-k-preserved c =
    let lt = c.loop-k-test.true in
    (omega (arith, lt), wrapped_more c.loop-k.k _ c.new-in-loop-k.result c.in_ok-inner.inner c.loop-k.made c.new-in-loop-k.ensures.items c.in_ok-inner.ensures.ok c.loop-k.invariant.1)

pub returns : goal.returns
returns c = default_all c.args.ty.maps.now c.args.ty.base c.loop-k.k c.loop-k.made c.loop-k-test.false c.loop-k.invariant.0 c.loop-k.invariant.1
