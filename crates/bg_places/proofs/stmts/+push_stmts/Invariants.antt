use Rattle.std.proofs.Common.{◌≡◌, ◌++◌, map, drop}
use Rattle.bg_ast.specs.Views.{proc_of, sts_in, arms_from, arm_view}
use Rattle.bg_places.specs.Placed.{placed_sts, placed_arms}
use Rattle.bg_places.specs.Views.{placed_in}
use Rattle.bg_places.proofs.stmts.+push_stmts.Given as goal

abbrev pub invariant-push_arms-loop-a : goal.invariant-push_arms-loop-a
invariant-push_arms-loop-a l = placed_in l.out.items ++ placed_arms (map proc_of l.procedures) l.implementation (arms_from (map arm_view (drop l.a-index l.arms))) ≡ placed_in l.fn.out.items ++ placed_arms (map proc_of l.procedures) l.implementation (arms_from (map arm_view l.arms))

abbrev pub invariant-push_stmts-loop-s : goal.invariant-push_stmts-loop-s
invariant-push_stmts-loop-s l = placed_in l.out.items ++ placed_sts (map proc_of l.procedures) l.implementation (sts_in (drop l.s-index l.ss)) ≡ placed_in l.fn.out.items ++ placed_sts (map proc_of l.procedures) l.implementation (sts_in l.ss)
