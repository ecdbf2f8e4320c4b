use Rattle.std.proofs.Common.{◌≡◌, ◌++◌, map, flat_map, drop}
use Rattle.bg_text.specs.Views as v
use Rattle.bg_spaces.specs.SpaceViews.{spaces_in}
use Rattle.bg_ast.specs.Views.{declared_of}
use Rattle.bg_resolve.specs.Program.{named_vars}
use Rattle.bg_resolve.proofs.code.locals.Given as goal

abbrev pub invariant-loop-x : goal.invariant-loop-x
invariant-loop-x l = map declared_of l.out.items ++ flat_map (named_vars (spaces_in l.g)) (map v.vars_of (drop l.x-index l.xs)) ≡ flat_map (named_vars (spaces_in l.g)) (map v.vars_of l.xs)
