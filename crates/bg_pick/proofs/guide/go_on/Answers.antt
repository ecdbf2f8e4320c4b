use Rattle.std.proofs.Common.{arith}
use Rattle.bg_pick.proofs.Readies.{none_ready}
use Rattle.bg_pick.proofs.guide.go_on.Goals as goal

pub returns-in_default : goal.returns-in_default
returns-in_default c =
    λ f set i ps r. none_ready f set i ps c.args.guide.now.marks.items _ (let z = c.in_default.ensures.cases.0 in omega arith) r
