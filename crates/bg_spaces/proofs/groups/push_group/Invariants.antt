use Rattle.std.proofs.Common.{◌≡◌, ◌++◌, map, drop}
use Rattle.bg_text.specs.Views as v
use Rattle.bg_spaces.specs.SpaceViews.{spaces_in}
use Rattle.bg_ast.specs.Views.{declared_of}
use Rattle.bg_spaces.specs.Declarations.{declared_as}
use Rattle.bg_spaces.proofs.groups.push_group.Given as goal

abbrev pub invariant-loop-name : goal.invariant-loop-name
invariant-loop-name l =
    let f = declared_as (spaces_in l.g) (v.type_of l.x.ty) in
    map declared_of l.out.items ++ map f (map v.id_of (drop l.name-index l.x.names.items)) ≡ map declared_of l.fn.out.items ++ map f (map v.id_of l.x.names.items)
