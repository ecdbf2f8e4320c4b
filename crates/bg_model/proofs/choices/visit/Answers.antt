use Rattle.std.proofs.Common.{◌≡◌, ◌+◌, ◌<◌, Some, length, drop, map, ap, ◌∙◌, rules}
use Rattle.std.specs.Prelude.{slice_get}
use Rattle.bg_blocks.specs.Views.{block_of}
use Rattle.bg_model.specs.Behind.{stretch_of}
use Rattle.bg_model.specs.Turns.{taken}
use Rattle.bg_model.specs.Views.{walk_in, made_by}
use Rattle.bg_model.proofs.Visits.{visited, got}
use Rattle.bg_model.proofs.choices.visit.Goals as goal

pub returns : goal.returns
returns c =
    let forms = c.args.course.forms.now in
    let firsts = c.args.course.firsts.now in
    let i = c.args.i in
    let w = walk_in c.args.trial in
    let block_there : slice_get forms i ≡ Some c.in-Some.q.now = got forms i c.in-Some.q.now c.in-Some.ensures.lookup.3.0 c.in-Some.ensures.lookup.1 in
    let first_there : slice_get firsts i ≡ Some c.in-Some-get.first.now = got firsts i c.in-Some-get.first.now c.in-Some-get.ensures.lookup.3.0 c.in-Some-get.ensures.lookup.1 in
    let low : i < length c.args.course.turns.now.items = search rules in
    let turn_there : slice_get c.args.course.turns.now.items i ≡ Some c.in-Some-get-2.turn.now = got c.args.course.turns.now.items i c.in-Some-get-2.turn.now low c.in-Some-get-2.ensures.lookup in
    λ vs p bs. ap (made_by vs c.args.front.now) (visited w vs stretch_of (block_of p c.args.b.now) bs forms firsts c.args.course.turns.now.items i c.in-Some.q.now c.in-Some-get.first.now c.in-Some-get-2.turn.now block_there first_there turn_there)
    ∙ c.in_ok-to.ensures vs p (taken w vs bs (map stretch_of (drop (i + 1) forms)) (drop (i + 1) firsts) (drop (i + 1) c.args.course.turns.now.items))
