use Rattle.std.proofs.Common.{ℕ, List, Bor}
use Rattle.bg_certtext.proofs.ReadsGivens.{tail_words}
use Rattle.bg_certtext.proofs.stages.on_given.Goals as goal

abbrev text : Bor (List ℕ) → List ℕ
text w = w.now

pub given_in-requires : goal.given_in-requires
given_in-requires c =
    tail_words text c.args.words.now c.args.line.now c.behind_word.result.now c.in-len1-up.len_at_least c.requires.words c.behind_word.ensures
