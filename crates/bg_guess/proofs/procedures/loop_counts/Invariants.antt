use Rattle.std.proofs.Common.{◌≡◌, drop, map}
use Rattle.bg_ast.specs.Views.{proc_of, impl_of}
use Rattle.bg_guess.specs.Guessed.{with_loops, loop_counts}
use Rattle.bg_guess.specs.Views.{survey_view}
use Rattle.bg_guess.proofs.procedures.loop_counts.Given as goal

abbrev pub invariant-loop-m : goal.invariant-loop-m
invariant-loop-m l =
    with_loops (survey_view l.v) (map proc_of l.procedures) (map impl_of (drop l.m-index l.implementations)) l.made.items
    ≡ loop_counts (survey_view l.v) (map proc_of l.procedures) (map impl_of l.implementations)
