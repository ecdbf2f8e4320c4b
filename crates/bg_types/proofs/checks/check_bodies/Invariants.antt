use Rattle.std.proofs.Common.{◌≡◌, map, drop}
use Rattle.bg_ast.specs.Views.{fun_of}
use Rattle.bg_kinds.specs.Faults.{first_of}
use Rattle.bg_types.specs.Checks.{bodies_by}
use Rattle.bg_kinds.specs.FaultViews.{best_of}
use Rattle.bg_typing.specs.SideViews.{scope_of, shape_of}
use Rattle.bg_types.proofs.checks.check_bodies.Given as goal

abbrev pub invariant-loop-i : goal.invariant-loop-i
invariant-loop-i l = first_of (best_of l.best) (bodies_by (scope_of l.g) (map shape_of (drop l.i l.shapes)) (map fun_of (drop l.i l.fs))) ≡ first_of (best_of l.fn.best) (bodies_by (scope_of l.g) (map shape_of l.shapes) (map fun_of l.fs))
