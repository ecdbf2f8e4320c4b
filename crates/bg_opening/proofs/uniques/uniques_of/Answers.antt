use Rattle.std.proofs.Common.{map}
use Rattle.bg_opened.specs.Unique.{uniques}
use Rattle.bg_opening.specs.Constants.{constants_in, unique_of}
use Rattle.bg_opening.proofs.UniqueSteps.{counted}
use Rattle.bg_opening.proofs.uniques.uniques_of.Goals as goal

pub loop-c-preserved : goal.loop-c-preserved
loop-c-preserved c =
    let types = c.args.types.now in
    let cs = c.args.constants.now in
    let x = c.c-item.result in
    counted types (map unique_of c.loop-c.made.items) (map unique_of c.push_unique.new.made.items) c.loop-c.number c.in_ok-after.after cs c.loop-c.c-index x (uniques 0 (constants_in types cs)) c.loop-c-test.true c.c-item.is c.in_ok-push_unique.ensures c.in_ok-after.ensures c.loop-c.invariant
