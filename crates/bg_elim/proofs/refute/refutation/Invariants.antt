use Rattle.std.proofs.Common.{take}
use Rattle.bg_elim.specs.Work.{work_of, StepsFor}
use Rattle.bg_elim.proofs.refute.refutation.Given as goal

abbrev pub invariant-loop-r : goal.invariant-loop-r
invariant-loop-r l = StepsFor (work_of l.work) (take l.r-index l.r-items) l.steps.items
