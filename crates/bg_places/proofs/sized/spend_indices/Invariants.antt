use Rattle.std.proofs.Common.{◌≡◌, ◌-◌, drop, map}
use Rattle.bg_ast.specs.Views.{bracket_of}
use Rattle.bg_places.specs.Counts.{index_nodes}
use Rattle.bg_places.proofs.sized.spend_indices.Given as goal

abbrev pub invariant-loop-bracket : goal.invariant-loop-bracket
invariant-loop-bracket l = l.rest - index_nodes (map bracket_of (drop l.bracket-index l.brackets)) ≡ l.left - index_nodes (map bracket_of l.brackets)
