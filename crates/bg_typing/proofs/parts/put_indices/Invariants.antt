use Rattle.std.proofs.Common.{◌≡◌, map, drop}
use Rattle.bg_ast.specs.Views.{bracket_of}
use Rattle.bg_kinds.specs.Faults.{first_of}
use Rattle.bg_typing.specs.Stmts.{indexed}
use Rattle.bg_kinds.specs.FaultViews.{best_of}
use Rattle.bg_typing.specs.SideViews.{side_of, scope_of}
use Rattle.bg_typing.proofs.parts.put_indices.Given as goal

abbrev pub invariant-loop-bracket : goal.invariant-loop-bracket
invariant-loop-bracket l = record { best : first_of (best_of l.best) (indexed (scope_of l.g) (side_of l.side) (map bracket_of (drop l.bracket-index l.brackets))).faults ≡ first_of (best_of l.fn.best) (indexed (scope_of l.g) (side_of l.fn.m) (map bracket_of l.brackets)).faults; side : (indexed (scope_of l.g) (side_of l.side) (map bracket_of (drop l.bracket-index l.brackets))).side ≡ (indexed (scope_of l.g) (side_of l.fn.m) (map bracket_of l.brackets)).side }
