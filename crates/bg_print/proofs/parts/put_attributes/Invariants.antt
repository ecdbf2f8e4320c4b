use Rattle.std.proofs.Common.{◌≡◌, ◌++◌, drop, map}
use Rattle.bg_text.specs.Views.{attr_of}
use Rattle.bg_print.specs.Docs.{text, each}
use Rattle.bg_print.specs.Parts.{attr_doc}
use Rattle.bg_print.proofs.parts.put_attributes.Given as goal

abbrev pub invariant-loop-attribute : goal.invariant-loop-attribute
invariant-loop-attribute l = l.out.items ++ text (each attr_doc (map attr_of (drop l.attribute-index l.attributes))) ≡ l.fn.out.items ++ text (each attr_doc (map attr_of l.attributes))
