-- What the rows looked at so far allow a variable.
use Rattle.std.specs.Prelude.{◌≡◌, ℕ, ◌<◌, length, true, false, List, Option, Some, None, ℤ, ◌≤ℤ◌, ◌<ℤ◌, ◌⊎◌, Ok, is_ok}
use Rattle.bg_base.specs.declared.exact.OutOfRange.{OutOfRange}
use Rattle.bg_rows.specs.Rows.{RowOf}
use Rattle.bg_rows.specs.Steps.{row_at}
use Rattle.bg_point.specs.Points.{bounds_above, bounds_below, binds, refused_at, limit}
use Rattle.bg_point.specs.declared.span.Span.{Span}
use Rattle.bg_point.specs.declared.span.Mark.{Mark}
use Rattle.bg_point.specs.declared.span.Choice.{Choice}
use Rattle.bg_point.specs.declared.span.Choice.TheVariants.{Value, Empty}
use Rattle.bg_point.specs.declared.span.Next.{Next}
use Rattle.bg_point.specs.declared.span.Next.TheVariants.{Value as NextValue, Empty as NextEmpty, Refused}

abbrev pub AtMost : Option Mark → ℤ → Type 0
AtMost None b = ⊥
AtMost (Some m) b = m.value ≤ℤ b

abbrev pub AtLeast : Option Mark → ℤ → Type 0
AtLeast None b = ⊥
AtLeast (Some m) b = b ≤ℤ m.value

-- the mark is the limit that a row sets from above, or from below
abbrev pub MarksAbove : List ℕ → (ℕ → ℤ) → ℕ → List RowOf → Mark → Type 0
MarksAbove order v x rows m =
    (r : RowOf) × (row_at rows m.row ≡ Some r) × (bounds_above order x r ≡ true) × (limit v x r ≡ Ok m.value)

abbrev pub MarksBelow : List ℕ → (ℕ → ℤ) → ℕ → List RowOf → Mark → Type 0
MarksBelow order v x rows m =
    (r : RowOf) × (row_at rows m.row ≡ Some r) × (bounds_below order x r ≡ true) × (limit v x r ≡ Ok m.value)

-- the least upper and the greatest lower limit of the first n rows
pub record IsSpan (order : List ℕ) (rows : List RowOf) (v : ℕ → ℤ) (x n : ℕ) (span : Span) : Type 0 where
  pub ups : (m : ℕ) (r : RowOf) → m < n → row_at rows m ≡ Some r → bounds_above order x r ≡ true → (b : ℤ) × (limit v x r ≡ Ok b) × AtMost span.up b
  pub lows : (m : ℕ) (r : RowOf) → m < n → row_at rows m ≡ Some r → bounds_below order x r ≡ true → (b : ℤ) × (limit v x r ≡ Ok b) × AtLeast span.low b
  pub up : (m : Mark) → span.up ≡ Some m → MarksAbove order v x rows m
  pub low : (m : Mark) → span.low ≡ Some m → MarksBelow order v x rows m

-- one of the two, at most each of them
abbrev pub IsLesser : Option Mark → Mark → Option Mark → Type 0
IsLesser up m made = ((made ≡ up) ⊎ (made ≡ Some m)) × AtMost made m.value × ((b : ℤ) → AtMost up b → AtMost made b)

-- one of the two, at least each of them
abbrev pub IsGreater : Option Mark → Mark → Option Mark → Type 0
IsGreater low m made = ((made ≡ low) ⊎ (made ≡ Some m)) × AtLeast made m.value × ((b : ℤ) → AtLeast low b → AtLeast made b)

abbrev pub mark_of : ℤ → ℕ → Mark
mark_of b n = record { value = b; row = n }

-- one more row is looked at, with number n
pub record IsWidened (order : List ℕ) (v : ℕ → ℤ) (x : ℕ) (r : RowOf) (n : ℕ) (span made : Span) : Type 0 where
  pub up : bounds_above order x r ≡ true → (b : ℤ) × (limit v x r ≡ Ok b) × IsLesser span.up (mark_of b n) made.up
  pub up_else : bounds_above order x r ≡ false → made.up ≡ span.up
  pub low : bounds_below order x r ≡ true → (b : ℤ) × (limit v x r ≡ Ok b) × IsGreater span.low (mark_of b n) made.low
  pub low_else : bounds_below order x r ≡ false → made.low ≡ span.low

-- an operation on row n leaves the range, and none on an earlier one
abbrev pub IsRefused : List ℕ → List RowOf → (ℕ → ℤ) → ℕ → ℕ → OutOfRange → Type 0
IsRefused order rows v x n e =
    refused_at v order x e (row_at rows n) ×
    ((m : ℕ) (r : RowOf) → m < n → row_at rows m ≡ Some r → binds order x r ≡ true → is_ok (limit v x r) ≡ true)

-- the value is within the span
abbrev pub Within : Span → ℤ → Type 0
Within span z = ((m : Mark) → span.up ≡ Some m → z ≤ℤ m.value) × ((m : Mark) → span.low ≡ Some m → m.value ≤ℤ z)

-- the value is the target, or the limit on its side of that
abbrev pub IsNearest : ℤ → Span → ℤ → ℕ → Type 0
IsNearest t span z reason =
    (z ≡ t) ⊎ (((t <ℤ z) × (span.low ≡ Some (mark_of z reason))) ⊎ ((z <ℤ t) × (span.up ≡ Some (mark_of z reason))))

abbrev pub IsChoice : ℤ → Span → Choice → Type 0
IsChoice t span (Value m) = Within span m.value × IsNearest t span m.value m.row
IsChoice t span (Empty k low up) = (l : ℤ) × (span.low ≡ Some (mark_of l low)) × (span.up ≡ Some (mark_of k up)) × (k <ℤ l)

abbrev pub IsNext : (ℕ → ℤ) → List ℕ → List RowOf → (ℕ → ℤ) → ℕ → Next → Type 0
IsNext targets order rows v x (NextValue s) =
    (s.variable ≡ x) × ((span : Span) × IsSpan order rows v x (length rows) span × Within span s.value × IsNearest (targets x) span s.value s.reason)
IsNext targets order rows v x (NextEmpty g) =
    (g.variable ≡ x) × ((span : Span) × IsSpan order rows v x (length rows) span × IsChoice (targets x) span (Empty g.below g.low g.up))
IsNext targets order rows v x (Refused f) = (f.variable ≡ x) × IsRefused order rows v x f.row f.operation
