-- The order of two values, by whether the first is below the second and whether they are the same.
use Rattle.std.specs.Prelude.{Bool, true, false, ◌&&◌, List, [], ◌∷◌}
use Rattle.std.specs.declared.cmp.Ordering.{Ordering}
use Rattle.std.specs.declared.cmp.Ordering.TheVariants.{Less, Equal, Greater}
use Rattle.std.specs.Ordering.{ordering_then}
use Rattle.bg_certtext.specs.Views.{PartOf, ValueOf, Item}
use Rattle.bg_certtext.specs.Spellable.{part_lt, part_eq, index_lt, index_eq, value_lt, value_eq, is_index, is_value}

abbrev pub order_of : (is_below is_same : Bool) → Ordering
order_of true same = Less
order_of false true = Equal
order_of false false = Greater

abbrev pub part_order : PartOf → PartOf → Ordering
part_order p q = order_of (part_lt p q) (part_eq p q)

abbrev pub index_order : List PartOf → List PartOf → Ordering
index_order k l = order_of (index_lt k l) (index_eq k l)

abbrev pub value_order : ValueOf → ValueOf → Ordering
value_order v w = order_of (value_lt v w) (value_eq v w)

abbrev pub item_order : Item → Item → Ordering
item_order e f = ordering_then (index_order e.0 f.0) (value_order e.1 f.1)

-- slots of two maps one by one, then their defaults
abbrev pub slots_order : List Item → List Item → Ordering → Ordering
slots_order [] [] o = o
slots_order [] (f ∷ fs) o = Less
slots_order (e ∷ es) [] o = Greater
slots_order (e ∷ es) (f ∷ fs) o = ordering_then (item_order e f) (slots_order es fs o)

-- an index and a value that have texts
abbrev pub is_item : Item → Bool
is_item e = is_index e.0 && is_value e.1
