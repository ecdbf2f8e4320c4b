use Rattle.std.proofs.Common.{◌≡◌, map, drop}
use Rattle.bg_ast.specs.Views.{proc_of}
use Rattle.bg_kinds.specs.Faults.{first_of}
use Rattle.bg_types.specs.Checks.{specifications_by}
use Rattle.bg_kinds.specs.FaultViews.{best_of}
use Rattle.bg_typing.specs.SideViews.{scope_of, shape_of}
use Rattle.bg_types.specs.Tables.{frame_of}
use Rattle.bg_types.proofs.checks.check_specifications.Given as goal

abbrev pub invariant-loop-i : goal.invariant-loop-i
invariant-loop-i l = first_of (best_of l.best) (specifications_by (scope_of l.g) (map shape_of (drop l.i l.shapes)) (map frame_of (drop l.i l.frames)) (map proc_of (drop l.i l.qs))) ≡ first_of (best_of l.fn.best) (specifications_by (scope_of l.g) (map shape_of l.shapes) (map frame_of l.frames) (map proc_of l.qs))
