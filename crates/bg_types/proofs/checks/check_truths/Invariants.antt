use Rattle.std.proofs.Common.{◌≡◌, map, drop}
use Rattle.bg_ast.specs.Views.{ex_of}
use Rattle.bg_kinds.specs.Faults.{first_of}
use Rattle.bg_typing.specs.Stmts.{truths_faults}
use Rattle.bg_kinds.specs.FaultViews.{best_of}
use Rattle.bg_typing.specs.SideViews.{scope_of}
use Rattle.bg_types.proofs.checks.check_truths.Given as goal

abbrev pub invariant-loop-e : goal.invariant-loop-e
invariant-loop-e l = first_of (best_of l.best) (truths_faults (scope_of l.g) (map ex_of (drop l.e-index l.es))) ≡ first_of (best_of l.fn.best) (truths_faults (scope_of l.g) (map ex_of l.es))
