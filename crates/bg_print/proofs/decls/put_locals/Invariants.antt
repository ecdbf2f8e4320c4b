use Rattle.std.proofs.Common.{◌≡◌, ◌++◌, drop, map}
use Rattle.bg_text.specs.Views.{vars_of}
use Rattle.bg_print.specs.Docs.{text, each}
use Rattle.bg_print.specs.Printed.{local_doc}
use Rattle.bg_print.proofs.decls.put_locals.Given as goal

abbrev pub invariant-loop-variables : goal.invariant-loop-variables
invariant-loop-variables l = l.out.items ++ text (each local_doc (map vars_of (drop l.variables-index l.locals))) ≡ l.fn.out.items ++ text (each local_doc (map vars_of l.locals))
