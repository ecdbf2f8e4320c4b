use Rattle.std.proofs.Common.{take, drop}
use Rattle.bg_words.specs.Sets.{has}
use Rattle.bg_check.specs.Verdicts.{judged}
use Rattle.bg_houdini.specs.Known.{AreKnownFrom}
use Rattle.bg_houdini.specs.Checkers.{program_in}
use Rattle.bg_houdini.proofs.ordinary.judge_piece.Given as goal

abbrev pub invariant-loop-k : goal.invariant-loop-k
invariant-loop-k l =
    AreKnownFrom l.judging.effort (program_in l.judging) (has l.set) l.first (take l.k (drop l.first (program_in l.judging).implementations)) (judged l.made.items)
