use Rattle.std.proofs.Common.{◌≡◌, ◌++◌, map, drop}
use Rattle.bg_ast.specs.Meaning.{fun_of, named_of}
use Rattle.bg_ast.specs.Views as ast
use Rattle.bg_scalar.specs.Views.{tables_in}
use Rattle.bg_certtext.specs.Views.{function_of}
use Rattle.bg_confirm.specs.Met.{tables_by}
use Rattle.bg_confirm.proofs.tables.tables_by.Given as goal

abbrev pub invariant-loop-f : goal.invariant-loop-f
invariant-loop-f l =
    tables_in l.made.items ++ tables_by (map (fun_of (named_of (map ast.type_name_of l.program.types.items))) (map ast.fun_of (drop l.f-index l.program.functions.items))) (map function_of (drop l.next l.given))
    ≡ tables_by (map (fun_of (named_of (map ast.type_name_of l.program.types.items))) (map ast.fun_of l.program.functions.items)) (map function_of l.given)
