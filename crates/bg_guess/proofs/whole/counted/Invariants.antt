use Rattle.std.proofs.Common.{◌≡◌, ◌-◌, ◌^◌, drop, map}
use Rattle.bg_ast.specs.Views.{proc_of, impl_of}
use Rattle.bg_guess.specs.Guessed.{impls_count, whole_count}
use Rattle.bg_guess.specs.Views.{survey_view}
use Rattle.bg_guess.proofs.whole.counted.Given as goal

abbrev pub invariant-loop-m : goal.invariant-loop-m
invariant-loop-m l =
    l.left - impls_count (survey_view l.v) (map proc_of l.procedures) (map impl_of (drop l.m-index l.implementations))
    ≡ 2 ^ 128 - 1 - whole_count (survey_view l.v) (map proc_of l.procedures) (map impl_of l.implementations)
