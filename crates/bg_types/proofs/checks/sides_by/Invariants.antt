use Rattle.std.proofs.Common.{◌≡◌, ◌++◌, map, drop}
use Rattle.bg_ast.specs.Views.{declared_of}
use Rattle.bg_types.specs.Checks.{sides_by}
use Rattle.bg_kinds.specs.KindViews.{kinds_in}
use Rattle.bg_typing.specs.SideViews.{side_of}
use Rattle.bg_types.proofs.checks.sides_by.Given as goal

abbrev pub invariant-loop-i : goal.invariant-loop-i
invariant-loop-i l = (map side_of l.made.items ++ sides_by (map declared_of (drop l.i l.ds)) (kinds_in (drop l.i l.kinds))) ≡ sides_by (map declared_of l.ds) (kinds_in l.kinds)
