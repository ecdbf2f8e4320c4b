use Rattle.std.proofs.Common.{◌≡◌, ◌≤◌, List, length, drop}
use Rattle.bg_ast.specs.Syntax.{Fun}
use Rattle.bg_kinds.specs.Views.{keys_of, ref_in}
use Rattle.bg_term_table.specs.Views.{meaning, terms_in}
use Rattle.bg_fronts.proofs.Pairs.{from}
use Rattle.bg_fronts.proofs.PartsBehind.{parts}
use Rattle.bg_fronts.proofs.parts.are_parts.Given as goal

abbrev pub invariant-loop-j : goal.invariant-loop-j
invariant-loop-j l =
    (l.j ≤ length l.maps.keys.now.keys.items)
    × ((l.j ≤ length l.qs)
    × ((fs : List Fun) → meaning l.made ≡ parts l.at.count (terms_in fs l.at.terms.now) (keys_of l.maps.keys.now) (ref_in l.maps.gives.now) (meaning l.maps.first.now) (meaning l.maps.second.now) l.j (drop l.j (keys_of l.maps.keys.now)) (from l.j l.qs)))

abbrev pub decreases-loop-j : goal.decreases-loop-j
decreases-loop-j l = l.j
