use Rattle.bg_wanted.specs.Chased.{Keeps}
use Rattle.bg_wanted.proofs.chased.along_later.Given as goal

abbrev pub invariant-loop : goal.invariant-loop
invariant-loop l = Keeps l.sight l.initial.way l.way
