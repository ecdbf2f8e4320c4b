use Rattle.std.proofs.Common.{◌≡◌, ◌-◌, drop, map}
use Rattle.bg_ast.specs.Views.{sts_in, arms_from, arm_view}
use Rattle.bg_places.specs.Checks.{sts_checks, arms_checks}
use Rattle.bg_places.proofs.checks.+pass_stmts.Given as goal

abbrev pub invariant-pass_arms-loop-arm : goal.invariant-pass_arms-loop-arm
invariant-pass_arms-loop-arm l =
    l.rest - arms_checks l.required (arms_from (map arm_view (drop l.arm-index l.arms))) ≡ l.left - arms_checks l.required (arms_from (map arm_view l.arms))

abbrev pub invariant-pass_stmts-loop-s : goal.invariant-pass_stmts-loop-s
invariant-pass_stmts-loop-s l = l.rest - sts_checks l.required (sts_in (drop l.s-index l.ss)) ≡ l.left - sts_checks l.required (sts_in l.ss)
