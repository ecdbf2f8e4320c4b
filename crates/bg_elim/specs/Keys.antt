-- The places of kept rows, by their keys.
use Rattle.std.specs.Prelude.{ℕ, suc, List, [], ◌∷◌, Option, Some, None, if◌then◌else◌}
use Rattle.std.specs.Ordering.{is_eq}
use Rattle.bg_rows.specs.Rows.{RowOf}
use Rattle.bg_rows.specs.Keys.{KeyOf, key_cmp, key_of}

-- the first place, from n on, of the row with this key
abbrev pub place_of : KeyOf → ℕ → List RowOf → Option ℕ
place_of k n [] = None
place_of k n (r ∷ rs) = if is_eq (key_cmp k (key_of r)) then Some n else place_of k (suc n) rs
