use Rattle.bg_keep.proofs.Forms.{implementation_there}
use Rattle.bg_keep.proofs.program.implementation_names.Goals as goal

pub returns-in-Some : goal.returns-in-Some
returns-in-Some c = implementation_there c.args.globals.now c.args.implementations.now c.args.at c.in-Some.m.now c.deref.result.now c.deref-in-Some.result.now c.deref-in-Some-2.result.now c.in-Some.ensures.lookup.3.0 c.in-Some.ensures.lookup.1 c.deref.ensures.value c.deref-in-Some.ensures.value c.deref-in-Some-2.ensures.value
