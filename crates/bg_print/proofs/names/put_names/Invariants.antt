use Rattle.std.proofs.Common.{◌≡◌, ◌++◌, drop, map}
use Rattle.bg_text.specs.Views.{id_of}
use Rattle.bg_print.specs.Docs.{text, commas, commas_from}
use Rattle.bg_print.specs.Parts.{id_doc}
use Rattle.bg_print.proofs.names.put_names.Given as goal

abbrev pub invariant-loop-name : goal.invariant-loop-name
invariant-loop-name l = l.out.items ++ text (commas_from l.behind id_doc (map id_of (drop l.name-index l.names))) ≡ l.fn.out.items ++ text (commas id_doc (map id_of l.names))
