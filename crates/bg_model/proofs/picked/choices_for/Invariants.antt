use Rattle.std.proofs.Common.{◌≡◌, map, take}
use Rattle.bg_scalar.specs.Values.{value_of}
use Rattle.bg_scalar.specs.Choices.{choice_of}
use Rattle.bg_model.specs.Picks.{choice_by}
use Rattle.bg_model.proofs.picked.choices_for.Given as goal

abbrev pub invariant-loop-pick : goal.invariant-loop-pick
invariant-loop-pick l = map choice_of l.made.items ≡ map (choice_by (map value_of l.values)) (take l.pick-index l.picks)
