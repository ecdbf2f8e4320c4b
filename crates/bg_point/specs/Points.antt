-- Points near their targets that are read off kept rows, and the gaps between whole numbers.
use Rattle.std.specs.Prelude.{◌≡◌, ℕ, ◌<◌, nat_eq, Bool, true, false, not, ◌&&◌, ◌||◌, List, [], ◌∷◌, map, reverse, Option, Some, None, slice_get, ℤ, pos, ◌+ℤ◌, ◌-ℤ◌, ◌*ℤ◌, neg_ℤ, int_lt, int_le, unsigned_abs, Result, Ok, Err, is_ok, if◌then◌else◌}
use Rattle.std.specs.Ordering.{int_eq}
use Rattle.bg_base.specs.declared.exact.OutOfRange.{OutOfRange}
use Rattle.bg_base.specs.Exact.{sum_of, difference_of, product_of, negation_of, floor_quotient}
use Rattle.bg_rows.specs.declared.entry.Entry.{Entry}
use Rattle.bg_rows.specs.Entries.{coefficient}
use Rattle.bg_rows.specs.Rows.{RowOf, Meets, holds, left_for, and_then}
use Rattle.bg_rows.specs.Steps.{row_at}
use Rattle.bg_elim.specs.Kept.{none_before, only_behind}
use Rattle.bg_point.specs.declared.spot.Spot.{Spot}

-- ---- values

-- the value of a variable: that of its spot, else 0
abbrev pub value_of : List Spot → ℕ → ℤ
value_of [] x = pos 0
value_of (s ∷ ss) x = if nat_eq x s.variable then s.value else value_of ss x

-- the values with another one for x
abbrev pub with_value : (ℕ → ℤ) → ℕ → ℤ → ℕ → ℤ
with_value v x z y = if nat_eq y x then z else v y

-- the target of a variable: the number at its place in a list, 0 where the list has ended
abbrev pub target_or : Option ℤ → ℤ
target_or None = pos 0
target_or (Some z) = z

abbrev pub target_of : List ℤ → ℕ → ℤ
target_of targets x = target_or (slice_get targets x)

-- one step toward a target
abbrev pub nearer : ℤ → ℤ → ℤ
nearer t z = if int_lt t z then z -ℤ pos 1 else if int_lt z t then z +ℤ pos 1 else z

-- the variables behind x in an order
abbrev pub behind : ℕ → List ℕ → List ℕ
behind x [] = []
behind x (y ∷ ys) = if nat_eq x y then ys else behind x ys

-- ---- bounds

-- whether a row bounds x from above, or from below, with no variable before it
abbrev pub bounds_above : List ℕ → ℕ → RowOf → Bool
bounds_above order x r = none_before order x r && int_lt (pos 0) (coefficient x r.entries)

abbrev pub bounds_below : List ℕ → ℕ → RowOf → Bool
bounds_below order x r = none_before order x r && int_lt (coefficient x r.entries) (pos 0)

-- whether a row bounds x on the side of a target t on which the value z is
abbrev pub bounds_toward : List ℕ → ℕ → ℤ → ℤ → RowOf → Bool
bounds_toward order x t z r = if int_lt t z then bounds_below order x r else bounds_above order x r

-- ---- near values, where each variable has a target

-- the row keeps out the value of x that is one step nearer to its target, and so each nearer one
abbrev pub keeps_out : (ℕ → ℤ) → List ℕ → (ℕ → ℤ) → ℕ → Option RowOf → Bool
keeps_out targets order v x None = false
keeps_out targets order v x (Some r) =
    bounds_toward order x (targets x) (v x) r && not (holds (with_value v x (nearer (targets x) (v x))) r)

-- the value of x is its target, or the row of this number keeps out every whole number nearer to that
abbrev pub is_near : (ℕ → ℤ) → List ℕ → List RowOf → (ℕ → ℤ) → ℕ → ℕ → Bool
is_near targets order rows v x reason = int_eq (v x) (targets x) || keeps_out targets order v x (row_at rows reason)

-- a whole number is nearer to a target than another one
abbrev pub IsNearer : ℤ → ℤ → ℤ → Type 0
IsNearer t z w = unsigned_abs (z -ℤ t) < unsigned_abs (w -ℤ t)

-- a row that is there keeps out this value of x
abbrev pub KeepsOut : (ℕ → ℤ) → ℕ → ℤ → Option RowOf → Type 0
KeepsOut v x z None = ⊥
KeepsOut v x z (Some r) = Meets (with_value v x z) r → ⊥

-- each spot's variable, by its reason
abbrev pub all_near : (ℕ → ℤ) → List ℕ → List RowOf → (ℕ → ℤ) → List Spot → Bool
all_near targets order rows v [] = true
all_near targets order rows v (s ∷ ss) =
    is_near targets order rows v s.variable s.reason && all_near targets order rows v ss

-- the values meet each row on variables behind x alone
abbrev pub meet_behind : List ℕ → (ℕ → ℤ) → ℕ → List RowOf → Bool
meet_behind order v x [] = true
meet_behind order v x (r ∷ rs) = (not (only_behind order x r) || holds v r) && meet_behind order v x rs

-- a lower bound of x is at most an upper one, multiplied out
abbrev pub pair_agrees : (ℕ → ℤ) → ℕ → RowOf → RowOf → Bool
pair_agrees v x up low =
    int_le (neg_ℤ (coefficient x up.entries) *ℤ left_for v x low) (neg_ℤ (coefficient x low.entries) *ℤ left_for v x up)

abbrev pub agrees_below : List ℕ → (ℕ → ℤ) → ℕ → RowOf → List RowOf → Bool
agrees_below order v x up [] = true
agrees_below order v x up (low ∷ rs) =
    (not (bounds_below order x low) || pair_agrees v x up low) && agrees_below order v x up rs

-- each upper bound of x among some rows with each lower one among others
abbrev pub bounds_agree : List ℕ → (ℕ → ℤ) → ℕ → List RowOf → List RowOf → Bool
bounds_agree order v x rows [] = true
bounds_agree order v x rows (up ∷ us) =
    (not (bounds_above order x up) || agrees_below order v x up rows) && bounds_agree order v x rows us

-- near values for the variables behind x, the last one first: they meet the rows on them, and the bounds of x agree there
pub record AreNear (targets : ℕ → ℤ) (order : List ℕ) (rows : List RowOf) (x : ℕ) (spots : List Spot) : Type 0 where
  pub variables : map (λ s. s.variable) spots ≡ reverse (behind x order)
  pub near : all_near targets order rows (value_of spots) spots ≡ true
  pub meets : meet_behind order (value_of spots) x rows ≡ true
  pub agrees : bounds_agree order (value_of spots) x rows rows ≡ true

-- ---- gaps and points

abbrev pub keeps_below : List ℕ → (ℕ → ℤ) → ℕ → ℤ → Option RowOf → Bool
keeps_below order v x z None = false
keeps_below order v x z (Some r) = bounds_above order x r && not (holds (with_value v x z) r)

abbrev pub keeps_above : List ℕ → (ℕ → ℤ) → ℕ → ℤ → Option RowOf → Bool
keeps_above order v x z None = false
keeps_above order v x z (Some r) = bounds_below order x r && not (holds (with_value v x z) r)

-- no whole number fits: a row keeps x above k, and one keeps it below k + 1, at near values of the variables behind
pub record IsGap (targets : ℕ → ℤ) (order : List ℕ) (rows : List RowOf) (spots : List Spot) (x : ℕ) (k : ℤ) (low up : ℕ) : Type 0 where
  pub near : AreNear targets order rows x spots
  pub above : keeps_above order (value_of spots) x k (row_at rows low) ≡ true
  pub below : keeps_below order (value_of spots) x (k +ℤ pos 1) (row_at rows up) ≡ true

abbrev pub holds_all : (ℕ → ℤ) → List RowOf → Bool
holds_all v [] = true
holds_all v (r ∷ rs) = holds v r && holds_all v rs

-- a value for each variable, the last one first: they meet the rows, and each is near
pub record IsPoint (targets : ℕ → ℤ) (order : List ℕ) (rows : List RowOf) (spots : List Spot) : Type 0 where
  pub variables : map (λ s. s.variable) spots ≡ reverse order
  pub near : all_near targets order rows (value_of spots) spots ≡ true
  pub meets : holds_all (value_of spots) rows ≡ true

-- ---- the operations of back-substitution

-- the products of the entries but that of x, in order, each added to the sum so far
abbrev pub others : (ℕ → ℤ) → ℕ → ℤ → List Entry → Result ℤ OutOfRange
others v x sum [] = Ok sum
others v x sum (t ∷ ts) =
    if nat_eq x t.variable then others v x sum ts
    else and_then (product_of t.by (v t.variable)) (λ p. and_then (sum_of sum p) (λ s. others v x s ts))

-- the bound that is nearest to what a row allows x: its bound less that sum, divided by the coefficient,
-- rounded down, and up from below
abbrev pub limit : (ℕ → ℤ) → ℕ → RowOf → Result ℤ OutOfRange
limit v x r =
    and_then (others v x (pos 0) r.entries) (λ s. and_then (difference_of r.bound s) (λ left.
    let q = floor_quotient left (unsigned_abs (coefficient x r.entries)) in
    if int_lt (pos 0) (coefficient x r.entries) then Ok q else negation_of q))

-- whether a row bounds x, from any side
abbrev pub binds : List ℕ → ℕ → RowOf → Bool
binds order x r = bounds_above order x r || bounds_below order x r

abbrev pub refused_at : (ℕ → ℤ) → List ℕ → ℕ → OutOfRange → Option RowOf → Type 0
refused_at v order x e None = ⊥
refused_at v order x e (Some r) = (binds order x r ≡ true) × (limit v x r ≡ Err e)

-- an operation leaves the range, the first one in the order of the rows, at near values of the variables behind
pub record IsFar (targets : ℕ → ℤ) (order : List ℕ) (rows : List RowOf) (spots : List Spot) (x n : ℕ) (e : OutOfRange) : Type 0 where
  pub near : AreNear targets order rows x spots
  pub refused : refused_at (value_of spots) order x e (row_at rows n)
  pub first : (m : ℕ) (r : RowOf) → m < n → row_at rows m ≡ Some r → binds order x r ≡ true → is_ok (limit (value_of spots) x r) ≡ true
