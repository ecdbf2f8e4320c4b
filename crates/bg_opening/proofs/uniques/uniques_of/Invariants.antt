use Rattle.std.proofs.Common.{◌≡◌, ◌++◌, map, drop}
use Rattle.bg_opened.specs.Unique.{uniques}
use Rattle.bg_opening.specs.Constants.{constants_in, unique_of}
use Rattle.bg_opening.proofs.uniques.uniques_of.Given as goal

abbrev pub invariant-loop-c : goal.invariant-loop-c
invariant-loop-c l =
    map unique_of l.made.items ++ uniques l.number (constants_in l.types (drop l.c-index l.constants)) ≡ uniques 0 (constants_in l.types l.constants)
