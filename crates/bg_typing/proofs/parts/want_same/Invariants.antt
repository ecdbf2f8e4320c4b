use Rattle.std.proofs.Common.{◌≡◌, map, drop}
use Rattle.bg_kinds.specs.Faults.{first_of}
use Rattle.bg_typing.specs.Sides.{pairs_faults}
use Rattle.bg_typing.specs.Stmts.{kinds_of}
use Rattle.bg_kinds.specs.FaultViews.{best_of}
use Rattle.bg_typing.specs.SideViews.{side_of}
use Rattle.bg_typing.proofs.parts.want_same.Given as goal

abbrev pub invariant-loop-i : goal.invariant-loop-i
invariant-loop-i l = first_of (best_of l.best) (pairs_faults (kinds_of (map side_of (drop l.i l.ts))) (map side_of (drop l.i l.es))) ≡ first_of (best_of l.fn.best) (pairs_faults (kinds_of (map side_of l.ts)) (map side_of l.es))
