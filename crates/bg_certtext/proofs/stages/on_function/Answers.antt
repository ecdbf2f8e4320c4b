use Rattle.std.proofs.Common.{ℕ, List, Bor}
use Rattle.bg_certtext.proofs.ReadsGivens.{tail_words}
use Rattle.bg_certtext.proofs.stages.on_function.Goals as goal

abbrev text : Bor (List ℕ) → List ℕ
text w = w.now

pub function_in-requires : goal.function_in-requires
function_in-requires c =
    tail_words text c.args.words.now c.args.line.now c.behind_word.result.now c.in-len1-up.len_at_least c.requires.words c.behind_word.ensures
