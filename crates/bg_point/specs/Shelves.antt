-- Rows by the first of their variables in an order.
use Rattle.std.specs.Prelude.{◌≡◌, ℕ, suc, ◌<◌, ◌≤◌, ◌+◌, nat_eq, List, [], ◌∷◌, length, Option, Some, None, slice_index_or, if◌then◌else◌}
use Rattle.std.specs.Ordering.{nat_cmp}
use Rattle.std.specs.BTreeMap.{BTreeMap, get}
use Rattle.bg_rows.specs.declared.entry.Entry.{Entry}
use Rattle.bg_rows.specs.Entries.{mentions}
use Rattle.bg_rows.specs.Rows.{RowOf}
use Rattle.bg_rows.specs.Steps.{row_at}
use Rattle.bg_point.specs.declared.shelves.Shelves.{Shelves}

-- the place of a variable in an order, or the order's length
abbrev pub place_in : List ℕ → ℕ → ℕ
place_in [] x = 0
place_in (y ∷ ys) x = if nat_eq x y then 0 else suc (place_in ys x)

-- the first place of a variable that stands in the entries, or the order's length
abbrev pub stand : List ℕ → List Entry → ℕ
stand [] ts = 0
stand (y ∷ ys) ts = if mentions y ts then 0 else suc (stand ys ts)

-- the first place of a variable, counted from n
abbrev pub place_from : ℕ → List ℕ → ℕ → Option ℕ
place_from n [] x = None
place_from n (y ∷ ys) x = if nat_eq x y then Some n else place_from (suc n) ys x

-- each variable of the order is found at its place
abbrev pub IsPlaces : List ℕ → BTreeMap ℕ ℕ → Type 0
IsPlaces order m = (x : ℕ) → get nat_cmp m x ≡ place_from 0 order x

-- the first row, from one on, that stands at a place, or the number of rows
pub record Leads (order : List ℕ) (rows : List RowOf) (p from to : ℕ) : Type 0 where
  pub low : from ≤ to
  pub within : to ≤ length rows
  pub gap : (m : ℕ) (r : RowOf) → from ≤ m → m < to → row_at rows m ≡ Some r → stand order r.entries ≡ p → ⊥
  pub on : (r : RowOf) → row_at rows to ≡ Some r → stand order r.entries ≡ p

-- from each place the first row leads on to all that stand there
pub record IsShelved (order : List ℕ) (rows : List RowOf) (s : Shelves) : Type 0 where
  pub placed : length s.heads.items ≡ length order
  pub sized : length s.nexts.items ≡ length rows
  pub heads : (p : ℕ) → p < length order → Leads order rows p 0 (slice_index_or s.heads.items p 0)
  pub nexts : (n : ℕ) (r : RowOf) → row_at rows n ≡ Some r → stand order r.entries < length order → Leads order rows (stand order r.entries) (n + 1) (slice_index_or s.nexts.items n 0)
