use Rattle.std.proofs.Common.{◌≡◌, ◌++◌, map, drop}
use Rattle.bg_text.specs.Views as v
use Rattle.bg_spaces.specs.SpaceViews.{spaces_in}
use Rattle.bg_ast.specs.Views.{declared_of}
use Rattle.bg_spaces.specs.Declarations.{named_groups}
use Rattle.bg_spaces.proofs.groups.push_groups.Given as goal

abbrev pub invariant-loop-x : goal.invariant-loop-x
invariant-loop-x l = map declared_of l.out.items ++ named_groups (spaces_in l.g) (map v.group_of (drop l.x-index l.xs)) ≡ map declared_of l.fn.out.items ++ named_groups (spaces_in l.g) (map v.group_of l.xs)
