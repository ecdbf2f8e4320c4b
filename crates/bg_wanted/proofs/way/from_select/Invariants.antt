use Rattle.bg_wanted.specs.Rows.{rows_of}
use Rattle.bg_wanted.specs.Chased.{IsSelectAt, Keeps}
use Rattle.bg_wanted.proofs.way.from_select.Given as goal

abbrev pub invariant-loop : goal.invariant-loop
invariant-loop l = IsSelectAt (rows_of l.sight.rows.now) l.x → Keeps l.sight l.initial.way l.way
