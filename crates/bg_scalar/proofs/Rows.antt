-- How values are read, at the lists that code meets.
use Rattle.std.proofs.Common.{◌≡◌, [], ◌∷◌, map, refl, ap, ◌∙◌, Vec, Box, Global}
use mathlib.Core.Former.{Count}
use Rattle.bg_ast.specs.Values.{Val, Default, Entry}
use Rattle.bg_scalar.specs.declared.value.Value.{Value, Row_of-Entry, end_of-Entry, more_of-Entry, items-the_row-Entry, items_hidden-the_row-Entry-0}
use Rattle.bg_scalar.specs.declared.value.Value.TheVariants as value
use Rattle.bg_scalar.specs.declared.value.Entry as kept
use Rattle.bg_scalar.specs.Values.{value_of, entered}
use Rattle.bg_scalar.specs.Maps.{entry_in, with_entries, map_of}

entries_row : (n : _) (row : Row_of-Entry n) (m : Val) → entered row m ≡ with_entries (map entry_in (items-the_row-Entry n row)) m
entries_row n end_of-Entry m = refl
entries_row n (more_of-Entry k v es) m = ap (Entry k.items (value_of v)) (entries_row _ es m)

abbrev entries_in : Value → (n : Count) × Row_of-Entry n
entries_in (value.Map' shape row p d) = (_, row)
entries_in _ = (_, end_of-Entry)

pub value_of-Map : (es : Vec kept.Entry Global) (d : Box Value Global) → value_of (value.Map es d) ≡ map_of es.items (value_of d.value)
value_of-Map es d =
    let row = entries_in (value.Map es d) in
    entries_row row.0 row.1 (Default (value_of d.value))
    ∙ ap (λ l. with_entries (map entry_in l) (Default (value_of d.value))) (items_hidden-the_row-Entry-0 es)
