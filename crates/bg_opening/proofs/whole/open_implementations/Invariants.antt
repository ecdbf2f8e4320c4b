use Rattle.std.proofs.Common.{◌≡◌, ◌++◌, take, drop, map}
use Rattle.bg_ast.specs.Views.{ex_of, impl_of}
use Rattle.bg_opened.specs.Written as w
use Rattle.bg_opening.specs.Desks.{opened_at}
use Rattle.bg_opening.proofs.whole.open_implementations.Given as goal

abbrev pub invariant-loop-k : goal.invariant-loop-k
invariant-loop-k l =
    map impl_of (take l.k l.ms.items) ++ map (w.opened_impl (opened_at l.desk) (map ex_of l.axioms)) (map impl_of (drop l.k l.ms.items))
    ≡ map (w.opened_impl (opened_at l.desk) (map ex_of l.axioms)) (map impl_of l.fn.ms.items)
