use Rattle.std.proofs.Common.{◌<◌, length, sym, ◌∙◌, arith}
use Rattle.bg_check.specs.Fitting.{meant}
use Rattle.bg_check.proofs.Fits.{one_more, all_tested, tested_at}
use Rattle.bg_check.proofs.fitting.tables_fit.Goals as goal

pub loop-i-preserved : goal.loop-i-preserved
loop-i-preserved c =
    let fs = c.args.functions.now in
    let ts = c.args.tables.now in
    let h = meant c.args.types.now in
    let less : c.loop-i.i < length fs = omega (arith, c.loop-i-test.true, c.if-tables-functions.false) in
    λ none.
    one_more h fs ts c.loop-i.i c.index-functions-i.result _ c.index-tables-i.result _ less c.loop-i-test.true c.index-functions-i.is c.index-tables-i.is
    (tested_at h fs c.loop-i.i c.index-functions-i.result _ c.index-tables-i.result none less c.index-functions-i.is (sym c.in_ok-fits.ensures.fit ∙ c.if-not-fits.false) c.in_ok-fits.ensures.rise)
    ∙ c.loop-i.invariant none

pub returns : goal.returns
returns c ok none =
    sym (c.loop-i.invariant none) ∙ all_tested (meant c.args.types.now) c.args.functions.now c.args.tables.now c.loop-i.i (omega (arith, c.loop-i-test.false)) (omega (arith, c.if-tables-functions.false))
