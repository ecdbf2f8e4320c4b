use Rattle.std.proofs.Common.{◌≡◌, ℕ, arith}
use Rattle.bg_words.specs.Sets.{words_for}
use Rattle.bg_shared.proofs.calls.opening_words.Goals as goal

pub returns : goal.returns
returns c = let i = c.loop-i.invariant in let n : ℕ = c.args.cands in let d = c.div_ceil-count.ensures in let stop = c.loop-i-test.false in let end = c.loop-i.auto.i-end in let whole : c.loop-i.i ≡ words_for n = omega arith in record {
  length = let len = i.length in omega arith;
  first = i.first;
  full = λ j k lt small. i.words j k (omega arith) small;
}
