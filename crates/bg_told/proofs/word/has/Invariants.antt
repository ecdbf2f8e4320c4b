use Rattle.std.proofs.Common.{◌≡◌, drop}
use Rattle.bg_told.specs.Words.{has}
use Rattle.bg_told.proofs.word.has.Given as goal

abbrev pub invariant-loop-of : goal.invariant-loop-of
invariant-loop-of l = has l.word l.judged ≡ has l.word (drop l.of-index l.judged)
