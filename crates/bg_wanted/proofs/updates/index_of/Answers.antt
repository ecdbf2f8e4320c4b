use Rattle.std.proofs.Common.{ap}
use Rattle.bg_wanted.specs.Asked.{index_in}
use Rattle.bg_wanted.proofs.Asking.{none_in}
use Rattle.bg_wanted.proofs.updates.index_of.Goals as goal

pub returns-in-None : goal.returns-in-None
returns-in-None c = none_in c.args.args.now c.in-None.ensures.cases

pub returns-in-Some : goal.returns-in-Some
returns-in-Some c = ap index_in c.in-Some.ensures.cases.0
