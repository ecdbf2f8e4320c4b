use Rattle.std.proofs.Common.{refl, map}
use Rattle.bg_text.specs.Views.{vars_of}
use Rattle.bg_print.specs.Printed.{local_doc}
use Rattle.bg_print.specs.Docs.{text, each}
use Rattle.bg_print.proofs.Loops.{one_more, none_left}
use Rattle.bg_print.proofs.decls.put_locals.Goals as goal

pub loop-variables-preserved : goal.loop-variables-preserved
loop-variables-preserved c = one_more (λ l. text (each local_doc (map vars_of l))) (λ l. text (each local_doc (map vars_of l))) c.args.locals.now c.loop-variables.variables-index c.variables-item.result (text (local_doc (vars_of c.variables-item.result))) _ _ _ (λ ys. refl) c.loop-variables-test.true c.variables-item.is c.in_ok-put_local.ensures c.loop-variables.invariant

pub returns : goal.returns
returns c = none_left (λ l. text (each local_doc (map vars_of l))) c.args.locals.now c.loop-variables.variables-index _ _ refl c.loop-variables-test.false c.loop-variables.invariant
