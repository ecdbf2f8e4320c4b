use Rattle.std.proofs.Common.{◌≡◌, drop, map}
use Rattle.bg_kinds.specs.Views.{ref_in}
use Rattle.bg_flatten.specs.Plain.{are_mapless}
use Rattle.bg_task.proofs.kinds.are_mapless.Given as goal

abbrev pub invariant-loop-t : goal.invariant-loop-t
invariant-loop-t l = are_mapless (map ref_in (drop l.t-index l.kinds)) ≡ are_mapless (map ref_in l.kinds)
