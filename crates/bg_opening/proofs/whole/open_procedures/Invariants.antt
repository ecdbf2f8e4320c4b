use Rattle.std.proofs.Common.{◌≡◌, ◌++◌, take, drop, map}
use Rattle.bg_ast.specs.Views.{proc_of}
use Rattle.bg_opened.specs.Written as w
use Rattle.bg_opening.specs.Desks.{opened_at}
use Rattle.bg_opening.proofs.whole.open_procedures.Given as goal

abbrev pub invariant-loop-k : goal.invariant-loop-k
invariant-loop-k l =
    map proc_of (take l.k l.qs.items) ++ map (w.opened_proc (opened_at l.desk)) (map proc_of (drop l.k l.qs.items))
    ≡ map (w.opened_proc (opened_at l.desk)) (map proc_of l.fn.qs.items)
