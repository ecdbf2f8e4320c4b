use Rattle.std.proofs.Common.{◌≡◌, map, drop}
use Rattle.bg_kinds.specs.Views.{ref_in}
use Rattle.bg_scalar.specs.Views.{vals_in}
use Rattle.bg_scalar.specs.Choices.{choice_of}
use Rattle.bg_replay.specs.Acts.{append_o, chosen}
use Rattle.bg_replay.proofs.values.chosen.Given as goal

abbrev pub invariant-loop-t : goal.invariant-loop-t
invariant-loop-t l =
    append_o (vals_in l.made.items) (chosen (map ref_in (drop l.t-index l.kinds)) (map choice_of l.left)) ≡ chosen (map ref_in l.kinds) (map choice_of l.choices)
