use Rattle.std.proofs.Common.{◌≡◌, ◌++◌, map, drop}
use Rattle.bg_kinds.specs.Views.{ref_in}
use Rattle.bg_guess.specs.Lists.{places_of_numbers}
use Rattle.bg_guess.proofs.places.places_of_numbers.Given as goal

abbrev pub invariant-loop-k : goal.invariant-loop-k
invariant-loop-k l =
    l.made.items ++ places_of_numbers l.k (map ref_in (drop l.k l.kinds)) ≡ places_of_numbers 0 (map ref_in l.kinds)
