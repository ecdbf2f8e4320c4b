use Rattle.std.proofs.Common.{ℕ, arith}
use Rattle.bg_words.specs.Sets.{present}
use Rattle.bg_words.proofs.Words.{filled, length-tabulate}
use Rattle.bg_words.proofs.set.CandSet.new.Goals as goal

pub returns-clause-members : goal.returns-clause-members
returns-clause-members c = let i = c.loop-i.invariant in let n : ℕ = c.args.n in let d = c.div_ceil-count.ensures in let stop = c.loop-i-test.false in let end = c.loop-i.auto.i-end in let len = i.length in
    filled n c.args.full c.loop-i.words.items (omega arith) (λ j k lt small. i.words j k (omega arith) small)

pub returns-clause-count : goal.returns-clause-count
returns-clause-count c = length-tabulate c.args.n (present c.loop-i.words.items)
