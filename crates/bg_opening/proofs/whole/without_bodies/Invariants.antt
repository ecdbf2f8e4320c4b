use Rattle.std.proofs.Common.{◌≡◌, ◌++◌, take, drop, map}
use Rattle.bg_ast.specs.Views.{fun_of}
use Rattle.bg_opened.specs.Written as w
use Rattle.bg_opening.proofs.whole.without_bodies.Given as goal

abbrev pub invariant-loop-k : goal.invariant-loop-k
invariant-loop-k l =
    map fun_of (take l.k l.fs.items) ++ map w.bodiless (map fun_of (drop l.k l.fs.items))
    ≡ map w.bodiless (map fun_of l.fn.fs.items)
