use Rattle.std.proofs.Common.{◌≡◌, ◌-◌, map}
use Rattle.bg_ast.specs.Views.{ex_of, fun_of}
use Rattle.bg_opened.specs.Changed.{opened_within}
use Rattle.bg_opening.proofs.exprs.opened.Given as goal

abbrev pub invariant-loop : goal.invariant-loop
invariant-loop l =
    opened_within (l.desk.depth - l.counter) l.desk.globals (map fun_of l.desk.functions.now) (ex_of l.left)
    ≡ opened_within l.desk.depth l.desk.globals (map fun_of l.desk.functions.now) (ex_of l.e)
