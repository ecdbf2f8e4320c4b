-- Indices of maps: lists of parts, each a number or an element.
use Rattle.std.specs.Prelude.{ℤ, if◌then◌else◌, List, [], ◌∷◌, Option, Some, None, Vec}
use Rattle.std.specs.declared.alloc.Global.{Global}
use Rattle.bg_ast.specs.Values.{Val, number_of, select}
use Rattle.bg_scalar.specs.Worths.{is_part, is_table}

-- the number of what may be a part
abbrev pub part_in : Val → Option ℤ
part_in v = if is_part v then Some (number_of v) else None

abbrev pub in_front_of : Option ℤ → Option (List ℤ) → Option (List ℤ)
in_front_of None k = None
in_front_of (Some z) None = None
in_front_of (Some z) (Some k) = Some (z ∷ k)

-- the numbers of an index's parts, if they may be parts
abbrev pub index_in : List Val → Option (List ℤ)
index_in [] = Some []
index_in (q ∷ qs) = in_front_of (part_in q) (index_in qs)

abbrev pub key_made : Option (Vec ℤ Global) → Option (List ℤ)
key_made None = None
key_made (Some k) = Some k.items

-- the value of what is a map at a key
abbrev pub kept_at : Val → List ℤ → Option Val
kept_at m k = if is_table m then Some (select m k) else None
