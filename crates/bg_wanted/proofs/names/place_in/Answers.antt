use Rattle.std.proofs.Common.{arith, sym, ◌∙◌}
use Rattle.bg_kinds.specs.Views.{keys_of, ref_of}
use Rattle.bg_wanted.proofs.Grouping.{there_at, no_group_more, no_group_all}
use Rattle.bg_wanted.proofs.names.place_in.Goals as goal

pub returns-then-is_of : goal.returns-then-is_of
returns-then-is_of c =
    (c.index-groups-i.result, (there_at c.args.groups.now c.loop-i.i c.index-groups-i.result c.loop-i-test.true c.index-groups-i.is, sym c.is_of.ensures ∙ c.if-is_of.true))

pub loop-i-init : goal.loop-i-init
loop-i-init c = λ k g lt e. absurd (omega (arith, lt))

pub loop-i-preserved : goal.loop-i-preserved
loop-i-preserved c =
    no_group_more c.args.groups.now c.loop-i.i (keys_of c.args.keys.now) (ref_of c.args.gives) c.index-groups-i.result c.loop-i-test.true c.index-groups-i.is c.loop-i.invariant (sym c.is_of.ensures ∙ c.if-is_of.false)

pub returns : goal.returns
returns c =
    no_group_all c.args.groups.now c.loop-i.i (keys_of c.args.keys.now) (ref_of c.args.gives) c.loop-i-test.false c.loop-i.invariant
