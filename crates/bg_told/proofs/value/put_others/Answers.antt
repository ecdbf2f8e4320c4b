use Rattle.std.proofs.Common.{arith}
use Rattle.bg_kinds.specs.Views.{key_of}
use Rattle.bg_told.specs.ValueTexts.{number_behind}
use Rattle.bg_told.specs.Entries.{types_in}
use Rattle.bg_told.proofs.Texts.{pairs_end, pairs_at}
use Rattle.bg_told.proofs.value.put_others.Goals as goal

pub returns-then-i-numbers : goal.returns-then-i-numbers
returns-then-i-numbers c =
    pairs_end (number_behind (types_in c.args.types.now)) key_of c.args.keys.now c.args.numbers.now c.loop-i.i c.loop-i.out.items _ (omega (arith, c.if-i-numbers.true)) c.loop-i.invariant

pub loop-i-preserved : goal.loop-i-preserved
loop-i-preserved c =
    rw c.in_ok-put_other.ensures
    (pairs_at (number_behind (types_in c.args.types.now)) key_of c.args.keys.now c.args.numbers.now c.loop-i.i _ _ c.loop-i.out.items _ c.loop-i-test.true (omega (arith, c.if-i-numbers.false)) c.loop-i.invariant)
