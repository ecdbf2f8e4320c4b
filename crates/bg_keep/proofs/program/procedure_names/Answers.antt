use Rattle.bg_keep.proofs.Forms.{procedure_there}
use Rattle.bg_keep.proofs.program.procedure_names.Goals as goal

pub returns-in-Some : goal.returns-in-Some
returns-in-Some c = procedure_there c.args.globals.now c.args.procedures.now c.args.at c.in-Some.q.now c.deref.result.now c.deref-in-Some.result.now c.in-Some.ensures.lookup.3.0 c.in-Some.ensures.lookup.1 c.deref.ensures.value c.deref-in-Some.ensures.value
