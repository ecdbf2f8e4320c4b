use Rattle.std.proofs.Common.{◌≡◌, map, take}
use Rattle.bg_ast.specs.Views.{target_of}
use Rattle.bg_opened.specs.Written as w
use Rattle.bg_opening.specs.Desks.{opened_at}
use Rattle.bg_opening.proofs.stmts.targets.Given as goal

abbrev pub invariant-loop-t : goal.invariant-loop-t
invariant-loop-t l = map target_of l.made.items ≡ map (w.opened_target (opened_at l.desk)) (map target_of (take l.t-index l.ts))
