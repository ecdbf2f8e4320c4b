use Rattle.std.proofs.Common.{◌≡◌, ◌++◌, map, drop}
use Rattle.bg_text.specs.Views as v
use Rattle.bg_spaces.specs.SpaceViews.{spaces_in}
use Rattle.bg_ast.specs.Views.{const_of}
use Rattle.bg_resolve.specs.Program.{constant_as}
use Rattle.bg_resolve.proofs.kinds.push_named.Given as goal

abbrev pub invariant-loop-name : goal.invariant-loop-name
invariant-loop-name l =
    let f = constant_as (spaces_in l.g) (v.consts_of l.c) in
    map const_of l.out.items ++ map f (map v.id_of (drop l.name-index l.c.formals.names.items)) ≡ map const_of l.fn.out.items ++ map f (map v.id_of l.c.formals.names.items)
