use Rattle.std.proofs.Common.{◌≡◌, map, drop}
use Rattle.bg_ast.specs.Views.{sts_in, arms_from, arm_view}
use Rattle.bg_kinds.specs.Faults.{first_of}
use Rattle.bg_typing.specs.Stmts.{sts_faults, arms_faults}
use Rattle.bg_kinds.specs.FaultViews.{best_of}
use Rattle.bg_typing.specs.SideViews.{scope_of}
use Rattle.bg_typing.proofs.stmts.+stmts.Given as goal

abbrev pub invariant-check_stmts-loop-s : goal.invariant-check_stmts-loop-s
invariant-check_stmts-loop-s l = first_of (best_of l.best) (sts_faults (scope_of l.fn.g) (sts_in (drop l.s-index l.ss))) ≡ first_of (best_of l.fn.best) (sts_faults (scope_of l.fn.g) (sts_in l.ss))

abbrev pub invariant-check_arms-loop-arm : goal.invariant-check_arms-loop-arm
invariant-check_arms-loop-arm l = first_of (best_of l.best) (arms_faults (scope_of l.fn.g) (arms_from (map arm_view (drop l.arm-index l.arms)))) ≡ first_of (best_of l.fn.best) (arms_faults (scope_of l.fn.g) (arms_from (map arm_view l.arms)))
