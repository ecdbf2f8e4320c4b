use Rattle.std.proofs.Common.{◌≡◌, map, drop}
use Rattle.bg_ast.specs.Views.{impl_of}
use Rattle.bg_kinds.specs.Faults.{first_of}
use Rattle.bg_types.specs.Checks.{implementations_by}
use Rattle.bg_kinds.specs.FaultViews.{best_of}
use Rattle.bg_typing.specs.SideViews.{scope_of}
use Rattle.bg_types.specs.Tables.{frame_of}
use Rattle.bg_types.proofs.checks.check_implementations.Given as goal

abbrev pub invariant-loop-i : goal.invariant-loop-i
invariant-loop-i l = first_of (best_of l.best) (implementations_by (scope_of l.g) (map frame_of (drop l.i l.frames)) (map impl_of (drop l.i l.ms))) ≡ first_of (best_of l.fn.best) (implementations_by (scope_of l.g) (map frame_of l.frames) (map impl_of l.ms))
