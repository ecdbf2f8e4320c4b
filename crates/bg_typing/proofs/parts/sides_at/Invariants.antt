use Rattle.std.proofs.Common.{◌≡◌, ◌++◌, map, drop}
use Rattle.bg_ast.specs.Views.{placed_of}
use Rattle.bg_typing.specs.Stmts.{placed_sides}
use Rattle.bg_typing.specs.SideViews.{side_of, scope_of}
use Rattle.bg_typing.proofs.parts.sides_at.Given as goal

abbrev pub invariant-loop-x : goal.invariant-loop-x
invariant-loop-x l = (map side_of l.made.items ++ placed_sides (scope_of l.g) (map placed_of (drop l.x-index l.xs))) ≡ placed_sides (scope_of l.g) (map placed_of l.xs)
