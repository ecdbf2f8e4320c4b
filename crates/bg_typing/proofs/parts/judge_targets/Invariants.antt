use Rattle.std.proofs.Common.{◌≡◌, ◌++◌, map, drop}
use Rattle.bg_ast.specs.Views.{target_of}
use Rattle.bg_kinds.specs.Faults.{first_of}
use Rattle.bg_typing.specs.Exprs.{sides_of, faults_of}
use Rattle.bg_typing.specs.Stmts.{targets}
use Rattle.bg_kinds.specs.FaultViews.{best_of}
use Rattle.bg_typing.specs.SideViews.{side_of, scope_of}
use Rattle.bg_typing.proofs.parts.judge_targets.Given as goal

abbrev pub invariant-loop-t : goal.invariant-loop-t
invariant-loop-t l = record { best : first_of (best_of l.best) (faults_of (targets (scope_of l.g) (map target_of (drop l.t-index l.ts)))) ≡ first_of (best_of l.fn.best) (faults_of (targets (scope_of l.g) (map target_of l.ts))); sides : (map side_of l.made.items ++ sides_of (targets (scope_of l.g) (map target_of (drop l.t-index l.ts)))) ≡ sides_of (targets (scope_of l.g) (map target_of l.ts)) }
