use Rattle.std.proofs.Common.{arith, length, ap}
use Rattle.bg_words.specs.Sets.{present}
use Rattle.bg_words.proofs.Words.{length-tabulate}
use Rattle.bg_words.proofs.set.CandSet.declared.Goals as goal

pub returns : goal.returns
returns c = let e = ap length c.self.view_is in let l = length-tabulate c.self.inside.n (present c.self.inside.words.items) in omega arith
