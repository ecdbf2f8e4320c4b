use Rattle.bg_told.specs.Entries.{types_in, values_of}
use Rattle.bg_told.proofs.Texts.{values_end, values_step}
use Rattle.bg_told.proofs.values.put_values.Goals as goal

pub returns-in-None : goal.returns-in-None
returns-in-None c = values_end (types_in c.args.types.now) c.args.types.now c.args.variables.now (values_of c.args.values) c.loop-i.i c.loop-i.out.items _ c.in-None.ensures c.loop-i.invariant

pub loop-i-preserved : goal.loop-i-preserved
loop-i-preserved c =
    rw c.in_ok-put_variable-in-Some.ensures (values_step (types_in c.args.types.now) c.args.types.now c.args.variables.now (values_of c.args.values) c.loop-i.i c.index-variables-i.result c.in-Some.value.now c.loop-i.out.items _ c.loop-i-test.true c.index-variables-i.is c.in-Some.ensures c.loop-i.invariant)
