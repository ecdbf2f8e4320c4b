use Rattle.std.proofs.Common.{◌≡◌, map, drop}
use Rattle.bg_ast.specs.Values as v
use Rattle.bg_ast.specs.Meaning.{map_type, named_within}
use Rattle.bg_ast.specs.Views.{indexed_of, index_view, type_name_of}
use Rattle.bg_kinds.specs.Views.{tower}
use Rattle.bg_fits.proofs.written.push_brackets.Given as goal

abbrev pub invariant-loop-bracket : goal.invariant-loop-bracket
invariant-loop-bracket l =
    (t : v.Ty) → tower l.maps.items (map_type (named_within l.left (map type_name_of l.types)) (indexed_of (map index_view (drop l.bracket-index l.brackets))) t)
    ≡ tower l.fn.maps.items (map_type (named_within l.left (map type_name_of l.types)) (indexed_of (map index_view l.brackets)) t)
