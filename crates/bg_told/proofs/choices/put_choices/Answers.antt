use Rattle.std.proofs.Common.{arith}
use Rattle.bg_kinds.specs.Views.{ref_in}
use Rattle.bg_told.specs.Entries.{types_in, choice_line}
use Rattle.bg_told.proofs.Texts.{pairs_end, pairs_step}
use Rattle.bg_told.proofs.choices.put_choices.Goals as goal

pub returns-then-i-choices : goal.returns-then-i-choices
returns-then-i-choices c =
    pairs_end (choice_line (types_in c.args.types.now)) ref_in c.args.kinds.now c.args.choices.now c.loop-i.i c.loop-i.out.items _ (omega (arith, c.if-i-choices.true)) c.loop-i.invariant

pub loop-i-preserved : goal.loop-i-preserved
loop-i-preserved c =
    rw c.in_ok-put_choice.ensures
    (pairs_step (choice_line (types_in c.args.types.now)) ref_in c.args.kinds.now c.args.choices.now c.loop-i.i c.index-kinds-i.result c.index-choices-i.result c.loop-i.out.items _ c.loop-i-test.true c.index-kinds-i.is (omega (arith, c.if-i-choices.false)) c.index-choices-i.is c.loop-i.invariant)
