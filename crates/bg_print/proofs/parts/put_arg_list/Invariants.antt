use Rattle.std.proofs.Common.{◌≡◌, ◌++◌, drop, map}
use Rattle.bg_text.specs.Views.{arg_of}
use Rattle.bg_print.specs.Docs.{text, commas, commas_from}
use Rattle.bg_print.specs.Parts.{arg_doc}
use Rattle.bg_print.proofs.parts.put_arg_list.Given as goal

abbrev pub invariant-loop-arg : goal.invariant-loop-arg
invariant-loop-arg l = l.out.items ++ text (commas_from l.behind arg_doc (map arg_of (drop l.arg-index l.args))) ≡ l.fn.out.items ++ text (commas arg_doc (map arg_of l.args))
