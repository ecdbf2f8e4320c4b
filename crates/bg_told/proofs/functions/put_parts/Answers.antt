use Rattle.std.proofs.Common.{arith}
use Rattle.bg_kinds.specs.Views.{ref_in}
use Rattle.bg_told.specs.Entries.{types_in, part_behind}
use Rattle.bg_told.proofs.Texts.{pairs_end, pairs_step}
use Rattle.bg_told.proofs.functions.put_parts.Goals as goal

pub returns-then-i-parts : goal.returns-then-i-parts
returns-then-i-parts c =
    pairs_end (part_behind (types_in c.args.types.now)) ref_in c.args.kinds.now c.args.parts.now c.loop-i.i c.loop-i.out.items _ (omega (arith, c.if-i-parts.true)) c.loop-i.invariant

pub loop-i-preserved : goal.loop-i-preserved
loop-i-preserved c =
    rw c.in_ok-put_part.ensures
    (pairs_step (part_behind (types_in c.args.types.now)) ref_in c.args.kinds.now c.args.parts.now c.loop-i.i c.index-kinds-i.result c.index-parts-i.result c.loop-i.out.items _ c.loop-i-test.true c.index-kinds-i.is (omega (arith, c.if-i-parts.false)) c.index-parts-i.is c.loop-i.invariant)
