use Rattle.std.proofs.Common.{sym, ap, ◌∙◌, arith}
use Rattle.bg_houdini.specs.Told.{first_of}
use Rattle.bg_told.specs.Fates.{with_earlier}
use Rattle.bg_told.proofs.Texts.{one_back}
use Rattle.bg_told.proofs.fates.firsts_of.Goals as goal

pub loop-i-preserved : goal.loop-i-preserved
loop-i-preserved c =
    let d = c.index-removals-removals.result in
    let many = c.loop-i.invariant.many in
    let back = one_back c.args.removals.now c.loop-i.i _ d (omega (arith, c.loop-i-test.true)) c.index-removals-removals.is (omega arith) in
    record {
      many = c.enter.ensures.count ∙ many;
      each = λ b l. (c.enter.ensures.each b (omega (arith, l, many)) ∙ ap (with_earlier d b) (c.loop-i.invariant.each b l) ∙ ap (first_of b) (sym back));
    }
