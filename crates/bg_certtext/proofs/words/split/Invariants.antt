use Rattle.std.proofs.Common.{◌≡◌, ◌++◌, length, map}
use Rattle.bg_certtext.specs.Words.{word_in, words_of}
use Rattle.bg_certtext.proofs.words.split.Given as goal

abbrev pub invariant-loop-end : goal.invariant-loop-end
invariant-loop-end l = record {
  so_far : map (λ w. w.now) l.words.items ++ words_of l.rest ≡ words_of l.line;
  word : l.end ≡ word_in l.rest;
}

abbrev pub decreases-loop-end : goal.decreases-loop-end
decreases-loop-end l = length l.rest
