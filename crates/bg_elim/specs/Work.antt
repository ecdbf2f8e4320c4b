-- The state of an elimination.
use Rattle.std.specs.Prelude.{◌≡◌, ℕ, suc, nat_eq, Bool, true, false, not, ◌&&◌, ◌||◌, slice_index_or, if◌then◌else◌, List, [], ◌∷◌, ◌++◌, length, map, Option, Some, None, ℤ, pos, ◌*ℤ◌, ◌≤ℤ◌, ◌<ℤ◌, ◌⊎◌, Vec, int_lt}
use Rattle.std.specs.BTreeMap.{get_by}
use Rattle.std.specs.declared.alloc.Global.{Global}
use Rattle.bg_rows.specs.Entries.{is_zero, total, mentions, coefficient}
use Rattle.bg_rows.specs.Rows.{RowOf, row_of, is_false, IsNormal}
use Rattle.bg_rows.specs.declared.step.Step.{Step}
use Rattle.bg_rows.specs.Steps.{row_at, step_row}
use Rattle.bg_elim.specs.declared.order.Reason.{Reason}
use Rattle.bg_elim.specs.declared.work.Work.{Work}
use Rattle.bg_elim.specs.declared.order.Reason.TheVariants.{Eliminated}
use Rattle.bg_elim.specs.declared.work.Side.{Side}
use Rattle.bg_elim.specs.declared.work.Side.TheVariants.{Above, Below}
use Rattle.bg_elim.specs.declared.work.Round.{Round}
use Rattle.bg_elim.specs.declared.work.Round.TheVariants.{Whole, RefutedBy, Filled, Left}
use Rattle.bg_elim.specs.declared.work.Paired.{Paired}
use Rattle.bg_elim.specs.declared.work.Paired.TheVariants.{Ready, Refutes, NoRoom, Leaves}
use Rattle.bg_elim.specs.declared.work.Stand.{Stand}
use Rattle.bg_elim.specs.declared.work.Stand.TheVariants.{Alone, Implied, Nearer}
use Rattle.bg_elim.specs.declared.work.Taken.{Taken}
use Rattle.bg_elim.specs.declared.work.Taken.TheVariants.{Done, False, Full}
use Rattle.bg_rows.specs.Keys.{key_cmp}
use Rattle.bg_elim.specs.Keys.{place_of}
use Rattle.bg_elim.specs.Columns.{Stands}
use Rattle.bg_elim.specs.Kept.{Solves, no_twice, is_in, none_before, made_rows, none_false, all_different, is_new, entries_in, reason_row, is_true_row, Among, leaves_at, MeetBehind, BoundsAgree, PairAgrees}

-- what is kept so far: the variables done, rows with their reasons, and the numbers of the rows that are still paired
pub record WorkOf : Type 0 where
  pub order : List ℕ
  pub reasons : List Reason
  pub rows : List RowOf
  pub live : List ℕ

-- whether a number is marked, and the numbers that are
abbrev pub is_live : List Bool → ℕ → Bool
is_live bs n = slice_index_or bs n false

abbrev pub marked : ℕ → List Bool → List ℕ
marked n [] = []
marked n (b ∷ bs) = if b then n ∷ marked (suc n) bs else marked (suc n) bs

abbrev pub work_of : Work → WorkOf
work_of w = record { order = w.order.items; reasons = w.reasons.items; rows = map row_of w.rows.items; live = marked 0 w.live.items }

-- no variable of the list stands in the row
abbrev pub free : List ℕ → RowOf → Bool
free [] r = true
free (y ∷ ys) r = not (mentions y r.entries) && free ys r

-- every bound that b gives, a gives at least as near: b is a multiple of a, perhaps with a greater bound
pub record Covers (a b : RowOf) : Type 0 where
  pub factor : ℤ
  pub above : pos 0 <ℤ factor
  pub totals : (v : ℕ → ℤ) → total v b.entries ≡ factor *ℤ total v a.entries
  pub coefficients : (x : ℕ) → coefficient x b.entries ≡ factor *ℤ coefficient x a.entries
  pub bounds : (factor *ℤ a.bound) ≤ℤ b.bound

-- the rows are made by their reasons, none is false, all are different
pub record Holds (given : List RowOf) (w : WorkOf) : Type 0 where
  pub made : made_rows given w.order [] w.reasons ≡ Some w.rows
  pub fine : none_false w.rows ≡ true
  pub different : all_different w.rows ≡ true

-- a live row covers r
pub record Covered (w : WorkOf) (r : RowOf) : Type 0 where
  pub number : ℕ
  pub row : RowOf
  pub there : row_at w.rows number ≡ Some row
  pub lives : is_in number w.live ≡ true
  pub covers : Covers row r

-- the live rows hold no variable of the order, each kept row without one is covered by a live one,
-- and the bounds of each variable that is ready agree
pub record Placed (all ready : List ℕ) (w : WorkOf) : Type 0 where
  pub normal : (n : ℕ) (r : RowOf) → row_at w.rows n ≡ Some r → IsNormal r
  pub inside : (n : ℕ) (r : RowOf) → row_at w.rows n ≡ Some r → entries_in all r.entries ≡ true
  pub done : (x : ℕ) → is_in x ready ≡ true → is_in x w.order ≡ true
  pub living : (n : ℕ) → is_in n w.live ≡ true → (r : RowOf) × (row_at w.rows n ≡ Some r) × (free w.order r ≡ true)
  pub cover : (n : ℕ) (r : RowOf) → row_at w.rows n ≡ Some r → free w.order r ≡ true → Covered w r
  pub agree : (v : ℕ → ℤ) (x : ℕ) → is_in x ready ≡ true → MeetBehind v w.order x w.rows → BoundsAgree v w.order x w.rows

-- the order is the same, each row that was kept has the number that it had, and new ones hold no variable of the order
pub record Grows (w made : WorkOf) : Type 0 where
  pub order : made.order ≡ w.order
  pub stays : (n : ℕ) (r : RowOf) → row_at w.rows n ≡ Some r → row_at made.rows n ≡ Some r
  pub back : (n : ℕ) (r : RowOf) → row_at made.rows n ≡ Some r → (row_at w.rows n ≡ Some r) ⊎ (free w.order r ≡ true)

-- the order is the same, and each row that was kept has the number that it had
pub record Extends (w made : WorkOf) : Type 0 where
  pub order : made.order ≡ w.order
  pub stays : (n : ℕ) (r : RowOf) → row_at w.rows n ≡ Some r → row_at made.rows n ≡ Some r

-- kept rows i and j bound x from above and from below, and hold no variable before it
pub record IsPair (w : WorkOf) (x i j : ℕ) : Type 0 where
  pub up : RowOf
  pub low : RowOf
  pub first : row_at w.rows i ≡ Some up
  pub second : row_at w.rows j ≡ Some low
  pub above : pos 0 <ℤ coefficient x up.entries
  pub below : coefficient x low.entries <ℤ pos 0
  pub no_first : none_before w.order x up ≡ true
  pub no_second : none_before w.order x low ≡ true

-- their bounds of x agree
abbrev pub PairReady : WorkOf → ℕ → ℕ → ℕ → Type 0
PairReady w x i j =
    (u : RowOf) × (l : RowOf) × (row_at w.rows i ≡ Some u) × (row_at w.rows j ≡ Some l) ×
    ((v : ℕ → ℤ) → MeetBehind v w.order x w.rows → PairAgrees v x u l)

-- each row is found by its key, has a mark, and where that is set it stands in the column of each of its variables
pub record IsIndexed (w : Work) : Type 0 where
  pub keys : (k : Vec (ℕ × ℤ) Global × ℤ) → get_by (λ y. key_cmp (k.0.items, k.1) (y.0.items, y.1)) w.at ≡ place_of (k.0.items, k.1) 0 (map row_of w.rows.items)
  pub sized : length w.live.items ≡ length w.rows.items
  pub listed : (n : ℕ) (r : RowOf) (x : ℕ) → is_live w.live.items n ≡ true → row_at (map row_of w.rows.items) n ≡ Some r → mentions x r.entries ≡ true → Stands w.columns x n

-- one more row, with its reason
abbrev pub with_row : WorkOf → RowOf → Reason → WorkOf
with_row w r reason = record w { reasons = w.reasons ++ (reason ∷ []); rows = w.rows ++ (r ∷ []) }

-- the row stood there already, or stands at the end now
abbrev pub KeptAs : WorkOf → RowOf → Reason → WorkOf → Type 0
KeptAs w r reason made = (made ≡ w) ⊎ ((made ≡ with_row w r reason) × (is_new r w.rows ≡ true))

-- the row's number; None where it isn't kept and there are as many rows as the budget says
abbrev pub IsPlace : ℕ → RowOf → WorkOf → Option ℕ → Type 0
IsPlace budget r made None = length made.rows ≡ budget
IsPlace budget r made (Some n) = row_at made.rows n ≡ Some r

-- ---- what taking a row in did

-- where the reason makes the row, what is kept stays sound
abbrev pub StaysSound : WorkOf → RowOf → Reason → WorkOf → Type 0
StaysSound w r reason made =
    (given : List RowOf) → Holds given w → reason_row given w.order w.rows reason ≡ Some r → Holds given made

-- where the row holds no variable of the order, it is covered now, and what is placed stays placed
abbrev pub StaysPlaced : WorkOf → RowOf → WorkOf → Type 0
StaysPlaced w r made =
    (all ready : List ℕ) → Placed all ready w → entries_in all r.entries ≡ true → free w.order r ≡ true →
    Placed all ready made × ((is_true_row r ≡ true) ⊎ Covered made r) × Grows w made

abbrev pub IsTaken : ℕ → WorkOf → RowOf → WorkOf → Taken → Type 0
IsTaken budget w r made Done = StaysPlaced w r made
IsTaken budget w r made False = (made ≡ w) × (is_false r ≡ true)
IsTaken budget w r made Full = length made.rows ≡ budget

-- a kept row of the same entries has a bound that is at least as near, or no nearer one
abbrev pub IsStand : WorkOf → RowOf → Stand → Type 0
IsStand w r Alone = Unit {0}
IsStand w r (Implied n) = (s : RowOf) × (row_at w.rows n ≡ Some s) × (s.entries ≡ r.entries) × (s.bound ≤ℤ r.bound)
IsStand w r (Nearer n) = (s : RowOf) × (row_at w.rows n ≡ Some s) × (s.entries ≡ r.entries) × (r.bound ≤ℤ s.bound)

-- whether a row implies the one of this number
abbrev pub is_nearer : ℕ → Stand → Bool
is_nearer q Alone = false
is_nearer q (Implied n) = false
is_nearer q (Nearer n) = nat_eq q n

-- a kept row is live now, in the place of one that it implies
pub record IsJoined (w : WorkOf) (m : ℕ) (stand : Stand) (made : WorkOf) : Type 0 where
  pub same : made ≡ record w { live = made.live }
  pub live : (q : ℕ) → is_in q made.live ≡ (nat_eq q m || (is_in q w.live && not (is_nearer q stand)))

-- the row is kept, or always true
abbrev pub IsThere : RowOf → WorkOf → Type 0
IsThere r w = (is_true_row r ≡ true) ⊎ Among r w.rows

-- ---- what pairing two kept rows did

-- a reason that makes a false row of the kept ones
abbrev pub MakesFalse : WorkOf → Reason → Type 0
MakesFalse w reason =
    (r : RowOf) × (is_false r ≡ true) × ((given : List RowOf) → reason_row given w.order w.rows reason ≡ Some r)

abbrev pub IsPaired : ℕ → WorkOf → ℕ → ℕ → ℕ → WorkOf → Paired → Type 0
IsPaired budget w x i j made Ready =
    (all done : List ℕ) → w.order ≡ done ++ (x ∷ []) → is_in x done ≡ false → Placed all done w →
    Placed all done made × Grows w made × PairReady made x i j
IsPaired budget w x i j made Refutes = MakesFalse made (Eliminated i j x)
IsPaired budget w x i j made NoRoom = length made.rows ≡ budget
IsPaired budget w x i j made (Leaves e) = leaves_at made.order x e (row_at made.rows i) (row_at made.rows j)

-- ---- what a row of pairs did

-- what is placed stays placed, and a fact holds of what is kept then
abbrev pub GetsReady : WorkOf → ℕ → WorkOf → Type 0 → Type 0
GetsReady w x made fact =
    (all done : List ℕ) → w.order ≡ done ++ (x ∷ []) → is_in x done ≡ false → Placed all done w →
    Placed all done made × Grows w made × fact

abbrev pub IsRound : ℕ → WorkOf → ℕ → WorkOf → Type 0 → Round → Type 0
IsRound budget w x made fact Whole = GetsReady w x made fact
IsRound budget w x made fact (RefutedBy reason) = MakesFalse made reason
IsRound budget w x made fact Filled = length made.rows ≡ budget
IsRound budget w x made fact (Left f) = leaves_at made.order f.variable f.operation (row_at made.rows f.first) (row_at made.rows f.second)

abbrev pub KeepsSound : WorkOf → WorkOf → Type 0
KeepsSound w made = (given : List RowOf) → Holds given w → Holds given made

-- ---- the sides of a variable

abbrev pub has_side : Side → ℤ → Bool
has_side Above c = int_lt (pos 0) c
has_side Below c = int_lt c (pos 0)

-- whether a kept row's coefficient of x is on this side of 0
abbrev pub on_side : Side → ℕ → Option RowOf → Bool
on_side side x None = false
on_side side x (Some r) = has_side side (coefficient x r.entries)

-- whether x doesn't stand in a kept row
abbrev pub off_side : ℕ → Option RowOf → Bool
off_side x None = false
off_side x (Some r) = is_zero (coefficient x r.entries)

-- besides some numbers, those of others that are live rows with the coefficient of x on this side
abbrev pub IsMore : Work → Side → ℕ → List ℕ → List ℕ → List ℕ → Type 0
IsMore w side x numbers old new =
    (n : ℕ) → is_in n new ≡ (is_in n old || (is_in n numbers && (is_live w.live.items n && on_side side x (row_at (work_of w).rows n))))

-- the live rows with the coefficient of x on this side
abbrev pub IsSide : WorkOf → Side → ℕ → List ℕ → Type 0
IsSide w side x ns = (n : ℕ) → is_in n ns ≡ (is_in n w.live && on_side side x (row_at w.rows n))

-- ---- what eliminating a variable did

abbrev pub IsGone : ℕ → WorkOf → ℕ → WorkOf → Round → Type 0
IsGone budget w x made Whole = (all : List ℕ) → Placed all w.order w → Placed all made.order made
IsGone budget w x made (RefutedBy reason) = MakesFalse made reason
IsGone budget w x made Filled = length made.rows ≡ budget
IsGone budget w x made (Left f) = leaves_at made.order f.variable f.operation (row_at made.rows f.first) (row_at made.rows f.second)

-- each variable of the rows stands in the list
abbrev pub AllInside : List ℕ → List RowOf → Type 0
AllInside all rows = (n : ℕ) (r : RowOf) → row_at rows n ≡ Some r → entries_in all r.entries ≡ true

-- each row that was kept has the number that it had
abbrev pub KeepsRows : WorkOf → WorkOf → Type 0
KeepsRows w made = (n : ℕ) (r : RowOf) → row_at w.rows n ≡ Some r → row_at made.rows n ≡ Some r

-- ---- where an elimination stands

-- a reason that makes a false row of the given and the kept ones
abbrev pub FalseOf : List RowOf → WorkOf → Reason → Type 0
FalseOf given w reason = (r : RowOf) × (is_false r ≡ true) × (reason_row given w.order w.rows reason ≡ Some r)

-- how it ended: the fact holds, or a false row, as many rows as the budget says, or a refusal
abbrev pub EndsAs : List RowOf → ℕ → WorkOf → Type 0 → Round → Type 0
EndsAs given budget w fact Whole = fact
EndsAs given budget w fact (RefutedBy reason) = FalseOf given w reason
EndsAs given budget w fact Filled = length w.rows ≡ budget
EndsAs given budget w fact (Left f) = leaves_at w.order f.variable f.operation (row_at w.rows f.first) (row_at w.rows f.second)

-- each given row is kept or always true, and what is kept is placed
abbrev pub IsStarted : List RowOf → WorkOf → Type 0
IsStarted given w =
    ((n : ℕ) (r : RowOf) → row_at given n ≡ Some r → IsThere r w) ×
    ((all : List ℕ) → AllInside all given → Placed all [] w)

-- all variables are done
abbrev pub IsOver : List ℕ → WorkOf → Type 0
IsOver all w =
    Placed all w.order w × (no_twice w.order ≡ true) × ((q : ℕ) → is_in q all ≡ is_in q w.order)

-- ---- reasons as steps

-- of rows made before, which are kept in the same places, the step makes the row that the reason makes
abbrev pub IsStep : WorkOf → Reason → Step → Type 0
IsStep w reason step =
    (given made : List RowOf) (r : RowOf) → ((n : ℕ) (s : RowOf) → row_at made n ≡ Some s → row_at w.rows n ≡ Some s) →
    reason_row given w.order made reason ≡ Some r → step_row given made step ≡ Some r

-- one for each
abbrev pub StepsFor : WorkOf → List Reason → List Step → Type 0
StepsFor w [] [] = Unit {0}
StepsFor w (r ∷ rs) (s ∷ ss) = IsStep w r s × StepsFor w rs ss
StepsFor w _ _ = ⊥

-- what is kept, as an order that solves the given rows
abbrev pub SolvesAs : List RowOf → WorkOf → Type 0
SolvesAs given w = Solves given w.order w.reasons w.rows
