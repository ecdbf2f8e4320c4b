use Rattle.std.proofs.Common.{map, drop, sym, ap, ◌∙◌, append-nil, arith}
use Rattle.bg_blocks.specs.Views.{block_of}
use Rattle.bg_blocks.proofs.Undoing.{drop_whole}
use Rattle.bg_model.specs.Behind.{stretch_of}
use Rattle.bg_model.specs.Picks.{choice_by}
use Rattle.bg_model.specs.Turns.{taken}
use Rattle.bg_model.specs.Views.{walk_in, made_by}
use Rattle.bg_model.proofs.Visits.{steps_over, steps_on, steps_end}
use Rattle.bg_model.proofs.choices.choices.Goals as goal
use Rattle.bg_model.proofs.choices.choices.Goals.{then-skip-gt0, else-skip-gt0+in_ok-visit+in-Some}

pub returns-in-None : goal.returns-in-None
returns-in-None c =
    λ vs p. steps_end (walk_in c.args.trial) vs stretch_of (block_of p) c.args.blocks.now c.args.course.forms.now c.args.course.firsts.now c.args.course.turns.now.items c.loop-i.i c.index-blocks-i.result c.loop-i-test.true c.index-blocks-i.is c.loop-i.front c.loop-i.skip _ (c.loop-i.invariant vs p) c.visit.new.front c.in_ok-visit.field-0 (omega arith) (c.in_ok-visit.ensures vs p) c.in-None.is

pub loop-i-preserved : goal.loop-i-preserved
loop-i-preserved c =
    elim c.if-skip-gt0.branch [
      | then-skip-gt0 w ↦ λ vs p. rw (w.front-is, w.skip-is) (steps_over (walk_in c.args.trial) vs stretch_of (block_of p) c.args.blocks.now c.args.course.forms.now c.args.course.firsts.now c.args.course.turns.now.items c.loop-i.i c.index-blocks-i.result c.loop-i-test.true c.index-blocks-i.is c.loop-i.front c.loop-i.skip _ (c.loop-i.invariant vs p) w.if-skip-gt0.true)
      | else-skip-gt0+in_ok-visit+in-Some w ↦ λ vs p. rw (w.front-is, w.skip-is) (steps_on (walk_in c.args.trial) vs stretch_of (block_of p) c.args.blocks.now c.args.course.forms.now c.args.course.firsts.now c.args.course.turns.now.items c.loop-i.i c.index-blocks-i.result c.loop-i-test.true c.index-blocks-i.is c.loop-i.front c.loop-i.skip _ (c.loop-i.invariant vs p) w.visit.new.front w.in_ok-visit.field-0 (omega arith) (w.in_ok-visit.ensures vs p) _ w.in-Some.is)
    ]

pub returns : goal.returns
returns c = λ vs p.
    let i = c.loop-i.i in
    sym (append-nil (map (choice_by vs) c.loop-i.front.made.items))
    ∙ (ap (λ bs. made_by vs c.loop-i.front (taken (walk_in c.args.trial) vs (map (block_of p) bs) (map stretch_of (drop i c.args.course.forms.now)) (drop i c.args.course.firsts.now) (drop i c.args.course.turns.now.items) c.loop-i.skip)) (sym (drop_whole i c.args.blocks.now c.loop-i-test.false))
    ∙ c.loop-i.invariant vs p)
