use Rattle.std.proofs.Common.{◌≡◌, ◌++◌, map, drop}
use Rattle.bg_text.specs.Views as v
use Rattle.bg_spaces.specs.SpaceViews.{spaces_in}
use Rattle.bg_ast.specs.Views.{type_of}
use Rattle.bg_resolve.specs.Program.{arg_type}
use Rattle.bg_resolve.proofs.functions.arg_types.Given as goal

abbrev pub invariant-loop-a : goal.invariant-loop-a
invariant-loop-a l =
    let f = arg_type (spaces_in l.g) in
    map type_of l.out.items ++ map f (map v.fun_arg_of (drop l.a-index l.args)) ≡ map f (map v.fun_arg_of l.args)
