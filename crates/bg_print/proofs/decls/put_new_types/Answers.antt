use Rattle.std.proofs.Common.{refl, map, true}
use Rattle.bg_text.specs.Views.{new_type_of}
use Rattle.bg_print.specs.Printed.{new_type_doc}
use Rattle.bg_print.specs.Docs.{text, gap, commas_from}
use Rattle.bg_print.proofs.Loops.{two_more, none_left}
use Rattle.bg_print.proofs.decls.put_new_types.Goals as goal

pub loop-decl-preserved : goal.loop-decl-preserved
loop-decl-preserved c = two_more (λ l. text (commas_from c.loop-decl.behind new_type_doc (map new_type_of l))) (λ l. text (commas_from true new_type_doc (map new_type_of l))) c.args.decls.now c.loop-decl.decl-index c.decl-item.result (text (gap c.loop-decl.behind)) (text (new_type_doc (new_type_of c.decl-item.result))) _ _ _ _ (λ ys. refl) c.loop-decl-test.true c.decl-item.is c.in_ok-put_gap.ensures c.in_ok-put_new_type.ensures c.loop-decl.invariant

pub returns : goal.returns
returns c = none_left (λ l. text (commas_from c.loop-decl.behind new_type_doc (map new_type_of l))) c.args.decls.now c.loop-decl.decl-index _ _ refl c.loop-decl-test.false c.loop-decl.invariant
