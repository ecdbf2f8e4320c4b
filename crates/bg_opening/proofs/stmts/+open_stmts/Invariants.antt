use Rattle.std.proofs.Common.{◌≡◌, map, take}
use Rattle.bg_ast.specs.Views.{st_of, arm_view}
use Rattle.bg_opened.specs.Written as w
use Rattle.bg_opening.specs.Desks.{opened_at}
use Rattle.bg_opening.proofs.stmts.+open_stmts.Given as goal

abbrev pub invariant-stmts-loop-s : goal.invariant-stmts-loop-s
invariant-stmts-loop-s l = map st_of l.made.items ≡ map (w.opened_st (opened_at l.desk)) (map st_of (take l.s-index l.ss))

abbrev pub invariant-all_arms-loop-a : goal.invariant-all_arms-loop-a
invariant-all_arms-loop-a l = map arm_view l.made.items ≡ map (w.opened_arm (opened_at l.desk)) (map arm_view (take l.a-index l.arms))
