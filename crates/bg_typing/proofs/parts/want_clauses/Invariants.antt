use Rattle.std.proofs.Common.{◌≡◌, map, drop}
use Rattle.bg_ast.specs.Views.{clause_of}
use Rattle.bg_kinds.specs.Faults.{first_of}
use Rattle.bg_typing.specs.Stmts.{clauses_faults}
use Rattle.bg_kinds.specs.FaultViews.{best_of}
use Rattle.bg_typing.specs.SideViews.{scope_of}
use Rattle.bg_typing.proofs.parts.want_clauses.Given as goal

abbrev pub invariant-loop-k : goal.invariant-loop-k
invariant-loop-k l = first_of (best_of l.best) (clauses_faults (scope_of l.g) (map clause_of (drop l.k-index l.clauses))) ≡ first_of (best_of l.fn.best) (clauses_faults (scope_of l.g) (map clause_of l.clauses))
