use Rattle.std.proofs.Common.{ap, ◌∙◌}
use Rattle.std.proofs.lemmas.List.{take_all}
use Rattle.bg_wanted.specs.Scalars.{scalars_in}
use Rattle.bg_wanted.proofs.Rowed.{plain_more}
use Rattle.bg_wanted.proofs.rows.plain_values.Goals as goal

pub loop-s-preserved : goal.loop-s-preserved
loop-s-preserved c =
    plain_more c.args.scalars.now c.loop-s.s-index _ c.loop-s.made.items c.push.new.self.items c.loop-s-test.true c.in_ok-push.ensures.items c.loop-s.invariant

pub returns : goal.returns
returns c = c.loop-s.invariant ∙ ap scalars_in (take_all c.loop-s.s-index c.args.scalars.now c.loop-s-test.false)
