use Rattle.std.proofs.Common.{◌≡◌, map, drop}
use Rattle.bg_kinds.specs.Faults.{first_of}
use Rattle.bg_typing.specs.Stmts.{takes_faults}
use Rattle.bg_kinds.specs.FaultViews.{best_of}
use Rattle.bg_typing.specs.SideViews.{side_of}
use Rattle.bg_kinds.specs.KindViews.{kinds_in}
use Rattle.bg_typing.proofs.parts.want_takes.Given as goal

abbrev pub invariant-loop-i : goal.invariant-loop-i
invariant-loop-i l = first_of (best_of l.best) (takes_faults (map side_of (drop l.i l.xs)) (kinds_in (drop l.i l.ts))) ≡ first_of (best_of l.fn.best) (takes_faults (map side_of l.xs) (kinds_in l.ts))
