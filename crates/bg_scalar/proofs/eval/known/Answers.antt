use Rattle.bg_scalar.proofs.Kept.{there, nowhere}
use Rattle.bg_scalar.proofs.eval.known.Goals as goal

pub returns-in-Some : goal.returns-in-Some
returns-in-Some c =
    there c.args.values.now c.args.place c.in-Some.x.now c.in-Some.ensures.lookup.3.0 c.in-Some.ensures.lookup.1
