-- Selects by their maps.
use Rattle.std.specs.Prelude.{◌≡◌, ℕ, suc, Bool, false, if◌then◌else◌, List, [], ◌∷◌, Option, None, Some, Vec}
use Rattle.std.specs.Ordering.{nat_cmp, ordering_then, is_eq}
use Rattle.std.specs.BTreeMap.{BTreeMap, get_by}
use Rattle.std.specs.declared.alloc.Global.{Global}
use Rattle.std.specs.declared.cmp.Ordering.{Ordering}
use Rattle.bg_scalar.specs.declared.scalar.Scalar.{Scalar}
use Rattle.bg_wanted.specs.declared.class.Class.{Class}
use Rattle.bg_wanted.specs.declared.class.Class.TheVariants as class
use Rattle.bg_wanted.specs.Rows.{RowOf}
use Rattle.bg_wanted.specs.Firsts.{scalar_cmp}

-- a type of maps, and a map's scalar
abbrev pub MapOf : Type 0
MapOf = ℕ × Scalar

abbrev pub map_cmp : MapOf → MapOf → Ordering
map_cmp k l = ordering_then (nat_cmp k.0 l.0) (scalar_cmp k.1 l.1)

abbrev pub is_map : MapOf → MapOf → Bool
is_map k l = is_eq (map_cmp k l)

abbrev pub items_of : Option (Vec ℕ Global) → List ℕ
items_of None = []
items_of (Some v) = v.items

-- the places that a table has for a map
abbrev pub places_at : BTreeMap MapOf (Vec ℕ Global) → MapOf → List ℕ
places_at m k = items_of (get_by (λ y. map_cmp k y) m)

-- the map that a row selects from
abbrev pub map_in : Class → List Scalar → Option MapOf
map_in (class.Select m) (x ∷ xs) = Some (m, x)
map_in _ _ = None

abbrev pub is_from : MapOf → Option MapOf → Bool
is_from k None = false
is_from k (Some l) = is_map k l

-- the places of the rows that select from a map, where the first of these has place a
abbrev pub places_of : MapOf → ℕ → List RowOf → List ℕ
places_of k a [] = []
places_of k a (r ∷ rs) =
    if is_from k (map_in r.class r.args) then a ∷ places_of k (suc a) rs else places_of k (suc a) rs

abbrev pub HasSelects : BTreeMap MapOf (Vec ℕ Global) → List RowOf → Type 0
HasSelects m rs = (k : MapOf) → places_at m k ≡ places_of k 0 rs
