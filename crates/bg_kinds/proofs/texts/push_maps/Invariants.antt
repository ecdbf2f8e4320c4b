use Rattle.std.proofs.Common.{◌≡◌, ◌++◌, map, drop}
use Rattle.bg_ast.specs.Views.{type_name_of}
use Rattle.bg_kinds.specs.Views.{keys_of}
use Rattle.bg_kinds.specs.Texts.{maps_text}
use Rattle.bg_kinds.proofs.texts.push_maps.Given as goal

abbrev pub invariant-loop-keys : goal.invariant-loop-keys
invariant-loop-keys l = (l.out.items ++ maps_text (map type_name_of l.types) (map keys_of (drop l.keys-index l.maps))) ≡ l.fn.out.items ++ maps_text (map type_name_of l.types) (map keys_of l.maps)
