use Rattle.std.proofs.Common.{◌≡◌, take, map}
use Rattle.bg_ast.specs.Views.{const_of, declared_of}
use Rattle.bg_opened.specs.Written as w
use Rattle.bg_opening.proofs.declared.globals_for.Given as goal

abbrev pub invariant-loop-c : goal.invariant-loop-c
invariant-loop-c l =
    map declared_of l.made.items ≡ map w.global_for (map const_of (take l.c-index l.constants))
