use Rattle.std.proofs.Common.{◌≡◌, ◌≤◌, ◌+◌, ◌*◌, List, length, drop}
use Rattle.bg_ast.specs.Values.{Ty}
use Rattle.bg_ast.specs.Syntax.{Fun}
use Rattle.bg_kinds.specs.Views.{ref_of}
use Rattle.bg_term_table.specs.Views.{terms_in}
use Rattle.bg_scalar.specs.declared.scalar.Scalar.{Scalar}
use Rattle.bg_wanted.specs.Scalars.{scalars_in}
use Rattle.bg_wanted.specs.Asked.{looked_rows, IsLooked}
use Rattle.bg_wanted.specs.Behind.{put_all, entries_of}
use Rattle.bg_wanted.proofs.tables.+built.Given as goal

abbrev pub decreases-built : goal.decreases-built
decreases-built l = 3 * length l.ty.maps.now

abbrev pub decreases-built_map : goal.decreases-built_map
decreases-built_map l = 3 * length l.gives.maps.now + 2

abbrev pub decreases-put_entry : goal.decreases-put_entry
decreases-put_entry l = 3 * length l.gives.maps.now + 1

abbrev pub invariant-built_map-loop-i : goal.invariant-built_map-loop-i
invariant-built_map-loop-i l =
    (l.i ≤ length l.all)
    × ((fs : List Fun) (incs : List Ty) (values : List Scalar) → IsLooked fs incs values l.looked → entries_of l.map ≡ put_all (scalars_in values) (length incs) (terms_in fs l.looked.terms.now) (ref_of l.gives) (looked_rows l.looked) (drop l.i l.all))

abbrev pub decreases-built_map-loop-i : goal.decreases-built_map-loop-i
decreases-built_map-loop-i l = l.i
