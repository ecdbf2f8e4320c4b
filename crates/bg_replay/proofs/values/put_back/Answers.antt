use Rattle.std.proofs.Common.{map, sym, ap, ◌∙◌}
use Rattle.bg_scalar.specs.Worths.{updated}
use Rattle.bg_scalar.specs.Lists.{listed}
use Rattle.bg_scalar.specs.Views.{worth_in}
use Rattle.bg_replay.specs.Levels.{level_of, put_back}
use Rattle.bg_replay.proofs.Levels.{back_step}
use Rattle.bg_replay.proofs.values.put_back.Goals as goal

pub loop-level-preserved : goal.loop-level-preserved
loop-level-preserved c =
    let w = worth_in c.loop-level.new in
    back_step c.pop.new.self.items c.in-Some.level w (worth_in c.in_ok-new.new) _
    (c.in_ok-new.ensures ∙ ap (λ a. updated a (listed c.in-Some.level.index) w) c.as_worth.ensures)
    (ap (λ ls. put_back (map level_of ls) w) (sym c.in-Some.ensures.items) ∙ c.loop-level.invariant)

pub loop-level-preserved-in_ok-new : goal.loop-level-preserved-in_ok-new
loop-level-preserved-in_ok-new c =
    let w = worth_in c.loop-level.new in
    back_step c.pop.new.self.items c.in-Some.level w (worth_in c.in_ok-new.new) _
    (c.in_ok-new.ensures ∙ ap (λ a. updated a (listed c.in-Some.level.index) w) c.as_worth.ensures)
    (ap (λ ls. put_back (map level_of ls) w) (sym c.in-Some.ensures.items) ∙ c.loop-level.invariant)
