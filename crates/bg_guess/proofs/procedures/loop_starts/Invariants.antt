use Rattle.std.proofs.Common.{◌≡◌, ◌++◌, drop, map}
use Rattle.bg_ast.specs.Views.{proc_of}
use Rattle.bg_guess.specs.Guessed.{loop_starts}
use Rattle.bg_guess.specs.Views.{survey_view}
use Rattle.bg_guess.proofs.procedures.loop_starts.Given as goal

abbrev pub invariant-loop-k : goal.invariant-loop-k
invariant-loop-k l =
    l.made.items ++ loop_starts (survey_view l.v) l.loops l.next l.k (map proc_of (drop l.k l.procedures))
    ≡ loop_starts (survey_view l.v) l.loops l.first 0 (map proc_of l.procedures)
