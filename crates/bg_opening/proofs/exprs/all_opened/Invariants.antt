use Rattle.std.proofs.Common.{◌≡◌, map, take}
use Rattle.bg_ast.specs.Views.{ex_of}
use Rattle.bg_opening.specs.Desks.{opened_at}
use Rattle.bg_opening.proofs.exprs.all_opened.Given as goal

abbrev pub invariant-loop-e : goal.invariant-loop-e
invariant-loop-e l = map ex_of l.made.items ≡ map (opened_at l.desk) (map ex_of (take l.e-index l.es))
