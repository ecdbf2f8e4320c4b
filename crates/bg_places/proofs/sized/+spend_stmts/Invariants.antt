use Rattle.std.proofs.Common.{◌≡◌, ◌-◌, drop, map}
use Rattle.bg_ast.specs.Views.{sts_in, arms_from, arm_view}
use Rattle.bg_places.specs.Counts.{sts_nodes, arms_nodes}
use Rattle.bg_places.proofs.sized.+spend_stmts.Given as goal

abbrev pub invariant-spend_arms-loop-arm : goal.invariant-spend_arms-loop-arm
invariant-spend_arms-loop-arm l =
    l.rest - arms_nodes l.sizes (arms_from (map arm_view (drop l.arm-index l.arms))) ≡ l.left - arms_nodes l.sizes (arms_from (map arm_view l.arms))

abbrev pub invariant-spend_stmts-loop-s : goal.invariant-spend_stmts-loop-s
invariant-spend_stmts-loop-s l = l.rest - sts_nodes l.sizes (sts_in (drop l.s-index l.ss)) ≡ l.left - sts_nodes l.sizes (sts_in l.ss)
