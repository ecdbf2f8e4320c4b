use Rattle.bg_wanted.specs.Chased.{KeepsLost}
use Rattle.bg_wanted.proofs.chased.put_all_near.Given as goal

abbrev pub invariant-loop-l : goal.invariant-loop-l
invariant-loop-l l = KeepsLost l.sight l.initial.lost.items l.lost.items
