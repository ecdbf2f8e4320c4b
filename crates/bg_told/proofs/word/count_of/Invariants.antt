use Rattle.std.proofs.Common.{◌≡◌, ◌+◌, ◌≤◌, drop}
use Rattle.bg_check.specs.Verdicts.{judged}
use Rattle.bg_told.specs.Words.{count_of}
use Rattle.bg_told.proofs.word.count_of.Given as goal

abbrev pub invariant-loop-judged : goal.invariant-loop-judged
invariant-loop-judged l = record {
  so_far : l.count + count_of l.word (judged (drop l.judged-index l.outcome)) ≡ count_of l.word (judged l.outcome);
  few : l.count ≤ l.judged-index;
}
