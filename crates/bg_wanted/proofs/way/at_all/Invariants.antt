use Rattle.bg_wanted.specs.Rows.{rows_of}
use Rattle.bg_wanted.specs.Chased.{IsSelectAt, Keeps}
use Rattle.bg_wanted.proofs.way.at_all.Given as goal

abbrev pub invariant-loop-y : goal.invariant-loop-y
invariant-loop-y l = IsSelectAt (rows_of l.sight.rows.now) l.x → Keeps l.sight l.initial.way l.way
