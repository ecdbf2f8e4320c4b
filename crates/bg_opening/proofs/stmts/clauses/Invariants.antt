use Rattle.std.proofs.Common.{◌≡◌, map, take}
use Rattle.bg_ast.specs.Views.{clause_of}
use Rattle.bg_opened.specs.Written as w
use Rattle.bg_opening.specs.Desks.{opened_at}
use Rattle.bg_opening.proofs.stmts.clauses.Given as goal

abbrev pub invariant-loop-k : goal.invariant-loop-k
invariant-loop-k l = map clause_of l.made.items ≡ map (w.opened_clause (opened_at l.desk)) (map clause_of (take l.k-index l.ks))
