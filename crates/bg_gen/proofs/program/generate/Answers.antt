use Rattle.std.proofs.Common.{◌+◌, ◌/◌, ◌%◌, refl, arith}
use Rattle.bg_gen.proofs.Parts.{turned}
use Rattle.bg_gen.proofs.program.generate.Goals as goal

pub loop-k-preserved : goal.loop-k-preserved
loop-k-preserved c =
    let a = c.next-low.result / 65536 % 10 in
    let b = a + c.next-state.result / 65536 % 3 in
    let i = c.loop-k.invariant in
    let t = turned c.args.seed c.loop-k.k c.loop-k.state c.next-low.result c.next-state.result a b c.loop-k.out.items c.put_part.new.out.items c.loop-k.before i.0 i.1.0 i.1.1.0 c.next-low.ensures.is c.next-state.ensures.is refl refl c.in_ok-put_part.ensures in
    (t.made-is, (t.last-is, (t.before-is, (omega (arith, c.loop-k-test.true), c.next-state.ensures.below))))
