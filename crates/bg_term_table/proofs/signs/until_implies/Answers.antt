use Rattle.std.proofs.Common.{sym, ◌∙◌, arith}
use Rattle.bg_term_table.proofs.Until.{until_more, until_stop, until_end}
use Rattle.bg_term_table.proofs.signs.until_implies.Goals as goal

pub loop-l-preserved : goal.loop-l-preserved
loop-l-preserved c =
    (omega arith, omega arith, until_more c.args.links.now c.loop-l.n c.loop-l.l-index c.l-item.result c.loop-l-test.true c.l-item.is (sym c.is_implies.ensures ∙ c.if-is_implies.false) c.loop-l.invariant.2)

pub returns-then-is_implies-clause-until : goal.returns-then-is_implies-clause-until
returns-then-is_implies-clause-until c =
    until_stop c.args.links.now c.loop-l.n c.loop-l.l-index c.l-item.result c.loop-l-test.true c.l-item.is (sym c.is_implies.ensures ∙ c.if-is_implies.true) c.loop-l.invariant.2

pub returns-clause-until : goal.returns-clause-until
returns-clause-until c = until_end c.args.links.now c.loop-l.n c.loop-l.l-index c.loop-l-test.false c.loop-l.invariant.2
