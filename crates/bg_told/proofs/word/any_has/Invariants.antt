use Rattle.std.proofs.Common.{◌≡◌, drop}
use Rattle.std.specs.List.{list_any}
use Rattle.bg_check.specs.Verdicts.{judged}
use Rattle.bg_told.specs.Words.{has}
use Rattle.bg_told.proofs.word.any_has.Given as goal

abbrev pub invariant-loop-judged : goal.invariant-loop-judged
invariant-loop-judged l = list_any (has l.word) (judged l.outcome) ≡ list_any (has l.word) (judged (drop l.judged-index l.outcome))
