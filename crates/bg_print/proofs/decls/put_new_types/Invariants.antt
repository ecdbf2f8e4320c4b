use Rattle.std.proofs.Common.{◌≡◌, ◌++◌, drop, map}
use Rattle.bg_text.specs.Views.{new_type_of}
use Rattle.bg_print.specs.Docs.{text, commas, commas_from}
use Rattle.bg_print.specs.Printed.{new_type_doc}
use Rattle.bg_print.proofs.decls.put_new_types.Given as goal

abbrev pub invariant-loop-decl : goal.invariant-loop-decl
invariant-loop-decl l = l.out.items ++ text (commas_from l.behind new_type_doc (map new_type_of (drop l.decl-index l.decls))) ≡ l.fn.out.items ++ text (commas new_type_doc (map new_type_of l.decls))
