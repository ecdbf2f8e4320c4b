use Rattle.std.proofs.Common.{◌≡◌, map, take}
use Rattle.bg_ast.specs.Views.{bracket_of}
use Rattle.bg_opened.specs.Written as w
use Rattle.bg_opening.specs.Desks.{opened_at}
use Rattle.bg_opening.proofs.stmts.brackets.Given as goal

abbrev pub invariant-loop-b : goal.invariant-loop-b
invariant-loop-b l = map bracket_of l.made.items ≡ map (w.opened_bracket (opened_at l.desk)) (map bracket_of (take l.b-index l.bs))
