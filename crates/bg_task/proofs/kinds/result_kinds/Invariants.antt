use Rattle.std.proofs.Common.{◌≡◌, ◌++◌, map, drop}
use Rattle.bg_ast.specs.Meaning.{named_of, fun_of}
use Rattle.bg_ast.specs.Views as view
use Rattle.bg_kinds.specs.Views.{ref_in}
use Rattle.bg_term_table.specs.Views.{result_ty}
use Rattle.bg_task.proofs.kinds.result_kinds.Given as goal

abbrev pub invariant-loop-f : goal.invariant-loop-f
invariant-loop-f l =
    map ref_in l.made.items ++ map result_ty (map (fun_of (named_of (map view.type_name_of l.program.types.items))) (map view.fun_of (drop l.f-index l.program.functions.items)))
    ≡ map result_ty (map (fun_of (named_of (map view.type_name_of l.program.types.items))) (map view.fun_of l.program.functions.items))
