use Rattle.std.proofs.Common.{◌≡◌, drop, map}
use Rattle.bg_ast.specs.Views.{impl_of}
use Rattle.bg_places.specs.Counts.{most_expanded, expanded_count, is_any_above}
use Rattle.bg_places.proofs.expanded.is_any_of.Given as goal

abbrev pub invariant-loop-m : goal.invariant-loop-m
invariant-loop-m l =
    is_any_above most_expanded (map (expanded_count l.sizes) (map impl_of (drop l.m-index l.implementations)))
    ≡ is_any_above most_expanded (map (expanded_count l.sizes) (map impl_of l.implementations))
