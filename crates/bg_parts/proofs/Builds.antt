-- What is built of parts.
use Rattle.std.proofs.Common.{◌≡◌, List, [], ◌∷◌, map, length, refl, sym, ap, ◌∙◌, Vec, Box, Global, ◌<◌, arith}
use Rattle.bg_text.specs.declared.tree.TreeType.{TreeType}
use Rattle.bg_text.specs.declared.tree.TreeType.TheVariants as type
use Rattle.bg_text.specs.declared.tree.TypeBracket.{TypeBracket}
use Rattle.bg_text.specs.Trees as t
use Rattle.bg_text.specs.Views.{type_of, indexed_of, index_view}
use Rattle.bg_text.proofs.Lists.{type_of-Map}
use Rattle.bg_parts.specs.Types.{map_type}

map_some : (e : t.Ty) (bs : List TypeBracket) → 0 < length bs → map_type (map index_view bs) e ≡ t.MapType (indexed_of (map index_view bs)) e
map_some e [] h = absurd (omega arith)
map_some e (b ∷ bs) h = refl

pub mapped_is : (e : Box TreeType Global) (bs : Vec TypeBracket Global) (a : TreeType) → e.value ≡ a → 0 < length bs.items → type_of (type.Map bs e) ≡ map_type (map index_view bs.items) (type_of a)
mapped_is e bs a h k = type_of-Map bs e ∙ sym (map_some (type_of e.value) bs.items k) ∙ ap (λ (x : TreeType). map_type (map index_view bs.items) (type_of x)) h
