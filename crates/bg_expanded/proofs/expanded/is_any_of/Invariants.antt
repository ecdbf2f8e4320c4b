use Rattle.std.proofs.Common.{◌≡◌, [], drop, map}
use Rattle.bg_ast.specs.Resolved.{Ex}
use Rattle.bg_ast.specs.Views.{impl_of}
use Rattle.bg_places.specs.Counts.{most_expanded, expanded_count, is_any_above}
use Rattle.bg_opened.specs.Written.{opened_impl}
use Rattle.bg_expanded.specs.Bodies.{IsCountOf}
use Rattle.bg_expanded.proofs.expanded.is_any_of.Given as goal

abbrev pub invariant-loop-m : goal.invariant-loop-m
invariant-loop-m l =
    (o : Ex → Ex) → IsCountOf l.table o →
    is_any_above most_expanded (map (expanded_count l.sizes) (map (opened_impl o []) (map impl_of (drop l.m-index l.implementations))))
    ≡ is_any_above most_expanded (map (expanded_count l.sizes) (map (opened_impl o []) (map impl_of l.implementations)))
