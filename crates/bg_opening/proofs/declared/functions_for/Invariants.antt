use Rattle.std.proofs.Common.{◌≡◌, take, map}
use Rattle.bg_ast.specs.Views.{fun_of}
use Rattle.bg_opened.specs.Written as w
use Rattle.bg_opening.proofs.declared.functions_for.Given as goal

abbrev pub invariant-loop-f : goal.invariant-loop-f
invariant-loop-f l = map fun_of l.made.items ≡ map w.bodiless (map fun_of (take l.f-index l.functions))
