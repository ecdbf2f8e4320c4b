use Rattle.std.proofs.Common.{◌≡◌, ◌≤◌, length, map, drop}
use Rattle.bg_ast.specs.Views.{fun_of, type_name_of}
use Rattle.bg_certtext.specs.Views.{function_of}
use Rattle.bg_confirm.specs.Typed.{functions_fit}
use Rattle.bg_confirm.proofs.functions.functions_fit.Given as goal

abbrev pub invariant-loop-f : goal.invariant-loop-f
invariant-loop-f l =
    (l.next ≤ length l.given)
    × (functions_fit (map type_name_of l.types) (map fun_of (drop l.f-index l.functions)) (map function_of (drop l.next l.given))
    ≡ functions_fit (map type_name_of l.types) (map fun_of l.functions) (map function_of l.given))
