use Rattle.std.proofs.Common.{refl, map, true}
use Rattle.bg_text.specs.Views.{arg_of}
use Rattle.bg_print.specs.Parts.{arg_doc}
use Rattle.bg_print.specs.Docs.{text, gap, commas_from}
use Rattle.bg_print.proofs.Loops.{two_more, none_left}
use Rattle.bg_print.proofs.parts.put_arg_list.Goals as goal

pub loop-arg-preserved : goal.loop-arg-preserved
loop-arg-preserved c = two_more (λ l. text (commas_from c.loop-arg.behind arg_doc (map arg_of l))) (λ l. text (commas_from true arg_doc (map arg_of l))) c.args.args.now c.loop-arg.arg-index c.arg-item.result (text (gap c.loop-arg.behind)) (text (arg_doc (arg_of c.arg-item.result))) _ _ _ _ (λ ys. refl) c.loop-arg-test.true c.arg-item.is c.in_ok-put_gap.ensures c.in_ok-put_arg.ensures c.loop-arg.invariant

pub returns : goal.returns
returns c = none_left (λ l. text (commas_from c.loop-arg.behind arg_doc (map arg_of l))) c.args.args.now c.loop-arg.arg-index _ _ refl c.loop-arg-test.false c.loop-arg.invariant
