use Rattle.std.proofs.Common.{refl, map}
use Rattle.bg_text.specs.Views.{attr_of}
use Rattle.bg_print.specs.Parts.{attr_doc}
use Rattle.bg_print.specs.Docs.{text, each}
use Rattle.bg_print.proofs.Loops.{one_more, none_left}
use Rattle.bg_print.proofs.parts.put_attributes.Goals as goal

pub loop-attribute-preserved : goal.loop-attribute-preserved
loop-attribute-preserved c = one_more (λ l. text (each attr_doc (map attr_of l))) (λ l. text (each attr_doc (map attr_of l))) c.args.attributes.now c.loop-attribute.attribute-index c.attribute-item.result (text (attr_doc (attr_of c.attribute-item.result))) _ _ _ (λ ys. refl) c.loop-attribute-test.true c.attribute-item.is c.in_ok-put_attribute.ensures c.loop-attribute.invariant

pub returns : goal.returns
returns c = none_left (λ l. text (each attr_doc (map attr_of l))) c.args.attributes.now c.loop-attribute.attribute-index _ _ refl c.loop-attribute-test.false c.loop-attribute.invariant
