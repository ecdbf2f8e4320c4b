use Rattle.std.proofs.Common.{◌≡◌, ◌++◌, take, drop, map}
use Rattle.bg_ast.specs.Views.{proc_of}
use Rattle.bg_guess.specs.Guessed.{guessed_procs}
use Rattle.bg_guess.specs.Views.{survey_view}
use Rattle.bg_guess.proofs.procedures.guess_procedures.Given as goal

abbrev pub invariant-loop-k : goal.invariant-loop-k
invariant-loop-k l =
    map proc_of (take l.k l.procedures.items) ++ guessed_procs (survey_view l.v) l.loops l.desk.above l.next l.k (map proc_of (drop l.k l.procedures.items))
    ≡ guessed_procs (survey_view l.v) l.loops l.desk.above l.first 0 (map proc_of l.fn.procedures.items)
