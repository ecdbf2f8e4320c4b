use Rattle.std.proofs.Common.{refl, map, true}
use Rattle.bg_text.specs.Views.{id_of}
use Rattle.bg_print.specs.Parts.{id_doc}
use Rattle.bg_print.specs.Docs.{text, gap, commas_from}
use Rattle.bg_print.proofs.Loops.{two_more, none_left}
use Rattle.bg_print.proofs.names.put_names.Goals as goal

pub loop-name-preserved : goal.loop-name-preserved
loop-name-preserved c = two_more (λ l. text (commas_from c.loop-name.behind id_doc (map id_of l))) (λ l. text (commas_from true id_doc (map id_of l))) c.args.names.now c.loop-name.name-index c.name-item.result (text (gap c.loop-name.behind)) (text (id_doc (id_of c.name-item.result))) _ _ _ _ (λ ys. refl) c.loop-name-test.true c.name-item.is c.in_ok-put_gap.ensures c.in_ok-put_name.ensures c.loop-name.invariant

pub returns : goal.returns
returns c = none_left (λ l. text (commas_from c.loop-name.behind id_doc (map id_of l))) c.args.names.now c.loop-name.name-index _ _ refl c.loop-name-test.false c.loop-name.invariant
