use Rattle.std.proofs.Common.{◌≡◌, ◌++◌, drop, map}
use Rattle.bg_text.specs.Views.{spec_of}
use Rattle.bg_print.specs.Docs.{text, each}
use Rattle.bg_print.specs.Printed.{spec_doc}
use Rattle.bg_print.proofs.decls.put_specs.Given as goal

abbrev pub invariant-loop-spec : goal.invariant-loop-spec
invariant-loop-spec l = l.out.items ++ text (each spec_doc (map spec_of (drop l.spec-index l.specs))) ≡ l.fn.out.items ++ text (each spec_doc (map spec_of l.specs))
