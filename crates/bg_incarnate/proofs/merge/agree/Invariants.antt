use Rattle.std.proofs.Common.{◌≡◌, map, drop}
use Rattle.bg_incarnate.specs.Arrived.{held_part, same_at}
use Rattle.bg_incarnate.proofs.merge.agree.Given as goal

abbrev pub invariant-loop-way : goal.invariant-loop-way
invariant-loop-way l = same_at l.i l.j (map (held_part l.part) (drop l.way-index l.ways)) ≡ same_at l.i l.j (map (held_part l.part) l.ways)
