use Rattle.bg_wanted.specs.Chased.{Keeps}
use Rattle.bg_wanted.proofs.chased.along_all.Given as goal

abbrev pub invariant-loop-a : goal.invariant-loop-a
invariant-loop-a l = Keeps l.sight l.initial.way l.way
