use Rattle.std.proofs.Common.{◌≡◌, map, take}
use Rattle.bg_kinds.specs.Views.{ref_in}
use Rattle.bg_model.specs.Picks.{type_by}
use Rattle.bg_model.proofs.picked.kinds_for.Given as goal

abbrev pub invariant-loop-pick : goal.invariant-loop-pick
invariant-loop-pick l = map ref_in l.made.items ≡ map (type_by (map ref_in l.kinds)) (take l.pick-index l.picks)
