use Rattle.std.proofs.Common.{◌≡◌, drop, map}
use Rattle.bg_ast.specs.Views.{impl_of}
use Rattle.bg_places.specs.Checks.{impl_checks}
use Rattle.bg_places.specs.Counts.{most_places, first_above}
use Rattle.bg_places.proofs.crowded.first_of.Given as goal

abbrev pub invariant-loop-m : goal.invariant-loop-m
invariant-loop-m l =
    first_above most_places (map (impl_checks l.required l.ensured) (map impl_of (drop l.m-index l.implementations)))
    ≡ first_above most_places (map (impl_checks l.required l.ensured) (map impl_of l.implementations))
