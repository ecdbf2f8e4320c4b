use Rattle.std.proofs.Common.{◌≡◌, ◌++◌, take, drop, map}
use Rattle.bg_ast.specs.Views.{proc_of, impl_of}
use Rattle.bg_guess.specs.Guessed.{guessed_impls}
use Rattle.bg_guess.specs.Views.{survey_view}
use Rattle.bg_guess.proofs.procedures.guess_implementations.Given as goal

abbrev pub invariant-loop-i : goal.invariant-loop-i
invariant-loop-i l =
    map impl_of (take l.i l.implementations.items) ++ guessed_impls (survey_view l.v) (map proc_of l.procedures) l.desk.above l.nexts.items (map impl_of (drop l.i l.implementations.items))
    ≡ guessed_impls (survey_view l.v) (map proc_of l.procedures) l.desk.above l.fn.nexts.items (map impl_of l.fn.implementations.items)
