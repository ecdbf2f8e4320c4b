use Rattle.std.proofs.Common.{arith}
use Rattle.bg_told.specs.Entries.{declared_types, types_in, function_line}
use Rattle.bg_told.proofs.Texts.{functions_step}
use Rattle.bg_told.proofs.functions.put_functions.Goals as goal

pub loop-i-preserved : goal.loop-i-preserved
loop-i-preserved c =
    rw c.in_ok-put_function.ensures
    (functions_step (declared_types c.args.types.now) (function_line (types_in c.args.types.now)) c.args.functions.now c.args.bodies.now c.args.tables.now c.loop-i.i c.index-functions-i.result _ c.index-tables-i.result c.loop-i.out.items _ c.loop-i-test.true c.index-functions-i.is (omega (arith, c.if-i-bodies.false)) (omega (arith, c.if-i-tables.false)) c.index-tables-i.is c.loop-i.invariant)
