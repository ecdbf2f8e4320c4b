use Rattle.std.proofs.Common.{◌≡◌, ◌-◌, ◌^◌, drop, map}
use Rattle.bg_ast.specs.Views.{proc_of}
use Rattle.bg_guess.specs.Guessed.{procs_count}
use Rattle.bg_guess.specs.Views.{survey_view}
use Rattle.bg_guess.proofs.whole.pass_procedures.Given as goal

abbrev pub invariant-loop-k : goal.invariant-loop-k
invariant-loop-k l =
    l.left - procs_count (survey_view l.v) l.k (map proc_of (drop l.k l.procedures))
    ≡ 2 ^ 128 - 1 - procs_count (survey_view l.v) 0 (map proc_of l.procedures)
