use Rattle.std.proofs.Common.{refl, map, true}
use Rattle.bg_text.specs.Views.{fun_arg_of}
use Rattle.bg_print.specs.Printed.{fun_arg_doc}
use Rattle.bg_print.specs.Docs.{text, gap, commas_from}
use Rattle.bg_print.proofs.Loops.{two_more, none_left}
use Rattle.bg_print.proofs.decls.put_function_args.Goals as goal

pub loop-arg-preserved : goal.loop-arg-preserved
loop-arg-preserved c = two_more (λ l. text (commas_from c.loop-arg.behind fun_arg_doc (map fun_arg_of l))) (λ l. text (commas_from true fun_arg_doc (map fun_arg_of l))) c.args.args.now c.loop-arg.arg-index c.arg-item.result (text (gap c.loop-arg.behind)) (text (fun_arg_doc (fun_arg_of c.arg-item.result))) _ _ _ _ (λ ys. refl) c.loop-arg-test.true c.arg-item.is c.in_ok-put_gap.ensures c.in_ok-put_function_arg.ensures c.loop-arg.invariant

pub returns : goal.returns
returns c = none_left (λ l. text (commas_from c.loop-arg.behind fun_arg_doc (map fun_arg_of l))) c.args.args.now c.loop-arg.arg-index _ _ refl c.loop-arg-test.false c.loop-arg.invariant
