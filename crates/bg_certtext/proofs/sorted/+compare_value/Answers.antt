use Rattle.std.proofs.Common.{sym, ◌∙◌, arith}
use Rattle.bg_certtext.proofs.Orders.{slots_over, slots_under, slots_level}
use Rattle.bg_certtext.proofs.sorted.+compare_value.Goals as goal

pub compare_all-returns-then-i-ys : goal.compare_all-returns-then-i-ys
compare_all-returns-then-i-ys t c =
    sym (slots_over c.args.xs.now c.args.ys.now c.loop-i.i c.loop-i-test.true (omega (arith, c.if-i-ys.true))) ∙ c.loop-i.invariant.so_far

pub compare_all-returns-then-xs-ys : goal.compare_all-returns-then-xs-ys
compare_all-returns-then-xs-ys t c =
    sym (slots_under c.args.xs.now c.args.ys.now c.loop-i.i (omega (arith, c.loop-i-test.false)) (omega (arith, c.if-xs-ys.true, c.loop-i.auto.i-end))) ∙ c.loop-i.invariant.so_far

pub compare_all-returns-else-xs-ys : goal.compare_all-returns-else-xs-ys
compare_all-returns-else-xs-ys t c =
    sym (slots_level c.args.xs.now c.args.ys.now c.loop-i.i (omega (arith, c.loop-i-test.false)) (omega (arith, c.if-xs-ys.false, c.loop-i-test.false))) ∙ c.loop-i.invariant.so_far
