use Rattle.std.proofs.Common.{sym, ◌∙◌, arith}
use Rattle.bg_atoms.proofs.Heading.{sums_more}
use Rattle.bg_atoms.proofs.heads.sums.Goals as goal

pub loop-l-preserved : goal.loop-l-preserved
loop-l-preserved c =
    (omega arith, omega arith, sums_more c.args.links.now c.loop-l.l-index c.l-item.result c.loop-l-test.true c.l-item.is (sym c.is_arithmetic.ensures ∙ c.if-not-is_arithmetic.false) c.loop-l.invariant.2)
