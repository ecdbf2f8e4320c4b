use Rattle.std.proofs.Common.{◌+◌, [], drop, map}
use Rattle.bg_ast.specs.Resolved.{Ex}
use Rattle.bg_ast.specs.Views.{bracket_of}
use Rattle.bg_places.specs.Counts.{index_nodes}
use Rattle.bg_opened.specs.Written.{opened_bracket}
use Rattle.bg_expanded.specs.Bodies.{IsAlike, IsCountOf, worth}
use Rattle.bg_expanded.proofs.sized.add_indices.Given as goal

abbrev pub invariant-loop-bracket : goal.invariant-loop-bracket
invariant-loop-bracket l =
    (o : Ex → Ex) → IsCountOf l.table o →
    IsAlike (worth l.count [] + index_nodes (map (opened_bracket o) (map bracket_of (drop l.bracket-index l.brackets))))
    (worth l.fn.count [] + index_nodes (map (opened_bracket o) (map bracket_of l.brackets)))
