use Rattle.std.proofs.Common.{◌≡◌, ◌++◌, drop, map}
use Rattle.bg_text.specs.Views.{decl_of}
use Rattle.bg_print.specs.Docs.{text, each}
use Rattle.bg_print.specs.Printed.{decl_doc}
use Rattle.bg_print.proofs.decls.put_decls.Given as goal

abbrev pub invariant-loop-decl : goal.invariant-loop-decl
invariant-loop-decl l = l.out.items ++ text (each decl_doc (map decl_of (drop l.decl-index l.decls))) ≡ l.fn.out.items ++ text (each decl_doc (map decl_of l.decls))
