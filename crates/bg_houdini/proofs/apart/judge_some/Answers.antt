use Rattle.bg_words.specs.Sets.{has}
use Rattle.bg_houdini.specs.Checkers.{meaning_in}
use Rattle.bg_houdini.proofs.Places.{right_on}
use Rattle.bg_houdini.proofs.apart.judge_some.Goals as goal

pub returns : goal.returns
returns c =
    let j = c.args.judging.now in
    right_on j.effort (meaning_in j) (has c.args.set.now) c.args.places.now c.judge_places.result c.judge_places.ensures.places c.judge_places.ensures.right c.judge_places.ensures.whole
