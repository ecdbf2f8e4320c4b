use Rattle.std.proofs.Common.{◌≡◌, ◌++◌, drop, map}
use Rattle.bg_text.specs.Views.{fun_arg_of}
use Rattle.bg_print.specs.Docs.{text, commas, commas_from}
use Rattle.bg_print.specs.Printed.{fun_arg_doc}
use Rattle.bg_print.proofs.decls.put_function_args.Given as goal

abbrev pub invariant-loop-arg : goal.invariant-loop-arg
invariant-loop-arg l = l.out.items ++ text (commas_from l.behind fun_arg_doc (map fun_arg_of (drop l.arg-index l.args))) ≡ l.fn.out.items ++ text (commas fun_arg_doc (map fun_arg_of l.args))
