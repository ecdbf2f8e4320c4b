-- Rows that are kept, each with its reason, and what an order of the variables says of them.
use Rattle.std.specs.Prelude.{◌≡◌, ℕ, ◌==◌, nat_eq, Bool, true, false, not, ◌&&◌, List, [], ◌∷◌, ◌++◌, length, Option, Some, None, ℤ, pos, neg_ℤ, ◌*ℤ◌, ◌≤ℤ◌, ◌<ℤ◌, int_le, ◌⊎◌, Err, if◌then◌else◌}
use Rattle.std.specs.List.{list_any}
use Rattle.std.specs.Ordering.{int_eq}
use Rattle.bg_base.specs.declared.exact.OutOfRange.{OutOfRange}
use Rattle.bg_rows.specs.declared.entry.Entry.{Entry}
use Rattle.bg_rows.specs.Entries.{mentions, coefficient}
use Rattle.bg_rows.specs.Rows.{RowOf, Meets, is_empty, is_false, tightened, eliminated, opposite, left_for}
use Rattle.bg_rows.specs.Steps.{row_at, ok_of, tight_of}
use Rattle.bg_elim.specs.declared.order.Reason.{Reason}
use Rattle.bg_elim.specs.declared.order.Reason.TheVariants.{Given, Tightened, Eliminated}

-- ---- tests on rows

abbrev pub entries_eq : List Entry → List Entry → Bool
entries_eq [] [] = true
entries_eq (t ∷ ts) (u ∷ us) = t.variable == u.variable && (int_eq t.by u.by && entries_eq ts us)
entries_eq _ _ = false

abbrev pub row_eq : RowOf → RowOf → Bool
row_eq r s = entries_eq r.entries s.entries && int_eq r.bound s.bound

abbrev pub is_in : ℕ → List ℕ → Bool
is_in x ys = list_any (nat_eq x) ys

-- x stands in the order, and no variable before it stands in the row
abbrev pub none_before : List ℕ → ℕ → RowOf → Bool
none_before [] x r = false
none_before (y ∷ ys) x r = if nat_eq x y then true else not (mentions y r.entries) && none_before ys x r

-- only variables behind x in the order stand in the row
abbrev pub only_behind : List ℕ → ℕ → RowOf → Bool
only_behind order x r = none_before order x r && not (mentions x r.entries)

-- no row of the list is equal to r
abbrev pub is_new : RowOf → List RowOf → Bool
is_new r [] = true
is_new r (s ∷ ss) = not (row_eq s r) && is_new r ss

-- ---- reasons

-- whether x may be eliminated from two rows: it has opposite signs, and nothing before it is there
abbrev pub may_eliminate : List ℕ → ℕ → RowOf → RowOf → Bool
may_eliminate order x r s =
    opposite (coefficient x r.entries) (coefficient x s.entries) && (none_before order x r && none_before order x s)

abbrev pub gone_of : List ℕ → ℕ → Option RowOf → Option RowOf → Option RowOf
gone_of order x (Some r) (Some s) = if may_eliminate order x r s then ok_of (eliminated r s x) else None
gone_of order x _ _ = None

-- the row that a reason gives, from the given rows and those made before
abbrev pub reason_row : List RowOf → List ℕ → List RowOf → Reason → Option RowOf
reason_row given order made (Given j) = row_at given j
reason_row given order made (Tightened i) = tight_of (row_at made i)
reason_row given order made (Eliminated i j x) = gone_of order x (row_at made i) (row_at made j)

-- the rows of some reasons, each made from the rows before it; None where one of them makes no row
abbrev pub made_rows : List RowOf → List ℕ → List RowOf → List Reason → Option (List RowOf)
made_rows given order made [] = Some made
made_rows given order made (r ∷ rs) =
    elim (reason_row given order made r) [ None ↦ None | Some row ↦ made_rows given order (made ++ (row ∷ [])) rs ]

abbrev pub none_false : List RowOf → Bool
none_false [] = true
none_false (r ∷ rs) = not (is_false r) && none_false rs

abbrev pub all_different : List RowOf → Bool
all_different [] = true
all_different (r ∷ rs) = is_new r rs && all_different rs

-- ---- the cause Rows: exactly the budget's number of different rows, none of them false
abbrev pub fill : ℕ → Option (List RowOf) → Bool
fill budget None = false
fill budget (Some rows) = length rows == budget && (none_false rows && all_different rows)

abbrev pub FillBudget : List RowOf → ℕ → List ℕ → List Reason → Type 0
FillBudget given budget order reasons = fill budget (made_rows given order [] reasons) ≡ true

-- ---- the cause Range, at a further elimination on kept rows, none of them false
abbrev pub leaves_at : List ℕ → ℕ → OutOfRange → Option RowOf → Option RowOf → Type 0
leaves_at order x o (Some r) (Some s) = (may_eliminate order x r s ≡ true) × (eliminated r s x ≡ Err o)
leaves_at order x o _ _ = ⊥

abbrev pub leaves_from : List ℕ → ℕ → ℕ → ℕ → OutOfRange → Option (List RowOf) → Type 0
leaves_from order i j x o None = ⊥
leaves_from order i j x o (Some rows) = (none_false rows ≡ true) × leaves_at order x o (row_at rows i) (row_at rows j)

abbrev pub LeavesRange : List RowOf → List ℕ → List Reason → ℕ → ℕ → ℕ → OutOfRange → Type 0
LeavesRange given order reasons i j x o = leaves_from order i j x o (made_rows given order [] reasons)

-- ---- an order that solves the rows

-- no variable stands in it twice
abbrev pub no_twice : List ℕ → Bool
no_twice [] = true
no_twice (y ∷ ys) = not (is_in y ys) && no_twice ys

-- each variable of the entries, and of the rows, stands in the order
abbrev pub entries_in : List ℕ → List Entry → Bool
entries_in order [] = true
entries_in order (t ∷ ts) = is_in t.variable order && entries_in order ts

abbrev pub rows_in : List ℕ → List RowOf → Bool
rows_in order [] = true
rows_in order (r ∷ rs) = entries_in order r.entries && rows_in order rs

abbrev pub Among : RowOf → List RowOf → Type 0
Among r rows = (n : ℕ) × (row_at rows n ≡ Some r)

-- a row without entries that holds
abbrev pub is_true_row : RowOf → Bool
is_true_row r = is_empty r.entries && int_le (pos 0) r.bound

-- each given row or its tightening is kept; one that is always true may be dropped
abbrev pub AllKept : List RowOf → List RowOf → Type 0
AllKept [] rows = Unit {0}
AllKept (g ∷ gs) rows = ((is_true_row g ≡ true) ⊎ (Among g rows ⊎ Among (tightened g) rows)) × AllKept gs rows

-- the values meet each kept row on variables behind x alone
abbrev pub MeetBehind : (ℕ → ℤ) → List ℕ → ℕ → List RowOf → Type 0
MeetBehind v order x rows = (r : RowOf) → Among r rows → only_behind order x r ≡ true → Meets v r

-- the lower bound of x that one row gives is at most the upper one of another, multiplied out
abbrev pub PairAgrees : (ℕ → ℤ) → ℕ → RowOf → RowOf → Type 0
PairAgrees v x up low =
    (neg_ℤ (coefficient x up.entries) *ℤ left_for v x low) ≤ℤ (neg_ℤ (coefficient x low.entries) *ℤ left_for v x up)

-- each lower bound of x is at most each upper one, of the kept rows without earlier variables
abbrev pub BoundsAgree : (ℕ → ℤ) → List ℕ → ℕ → List RowOf → Type 0
BoundsAgree v order x rows =
    (up low : RowOf) → Among up rows → Among low rows → none_before order x up ≡ true → none_before order x low ≡ true →
    pos 0 <ℤ coefficient x up.entries → coefficient x low.entries <ℤ pos 0 → PairAgrees v x up low

-- an order of the variables and kept rows, from which values can be read off from the last variable on
pub record Solves (given : List RowOf) (order : List ℕ) (reasons : List Reason) (rows : List RowOf) : Type 0 where
  pub made : made_rows given order [] reasons ≡ Some rows
  pub fine : none_false rows ≡ true
  pub once : no_twice order ≡ true
  pub inside : rows_in order rows ≡ true
  pub kept : AllKept given rows
  pub agree : (v : ℕ → ℤ) (x : ℕ) → MeetBehind v order x rows → BoundsAgree v order x rows
