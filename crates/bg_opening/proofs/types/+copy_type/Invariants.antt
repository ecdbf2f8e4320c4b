use Rattle.std.proofs.Common.{◌≡◌, map, take}
use Rattle.bg_ast.specs.Views.{type_of, index_view}
use Rattle.bg_opening.proofs.types.+copy_type.Given as goal

abbrev pub invariant-copy_types-loop-e : goal.invariant-copy_types-loop-e
invariant-copy_types-loop-e l = map type_of l.made.items ≡ map type_of (take l.e-index l.es)

abbrev pub invariant-copy_indices-loop-b : goal.invariant-copy_indices-loop-b
invariant-copy_indices-loop-b l = map index_view l.made.items ≡ map index_view (take l.b-index l.brackets)
