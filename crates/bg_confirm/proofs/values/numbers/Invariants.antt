use Rattle.std.proofs.Common.{◌≡◌, map, take}
use Rattle.bg_certtext.specs.Views.{part_of}
use Rattle.bg_confirm.specs.Met.{number_at}
use Rattle.bg_confirm.proofs.values.numbers.Given as goal

abbrev pub invariant-loop-part : goal.invariant-loop-part
invariant-loop-part l = l.made.items ≡ map number_at (map part_of (take l.part-index l.index))
