-- Rows, their meaning, and the rows that follow from them.
use Rattle.std.specs.Prelude.{◌≡◌, ℕ, ◌==◌, ◌/◌, nat_lt, ◌^◌, Bool, true, false, ◌&&◌, List, [], ◌∷◌, ◌++◌, ℤ, pos, negsuc, ◌-ℤ◌, ◌*ℤ◌, neg_ℤ, ◌≤ℤ◌, int_lt, int_le, Result, Ok, Err, if◌then◌else◌, unsigned_abs}
use Rattle.std.specs.Int.{◌∣◌}
use Rattle.bg_base.specs.declared.exact.OutOfRange.{OutOfRange}
use Rattle.bg_base.specs.Exact.{sum_of, difference_of, product_of, negation_of, floor_quotient, gcd_of}
use Rattle.bg_rows.specs.declared.entry.Entry.{Entry}
use Rattle.bg_rows.specs.Entries.{is_zero, rising, total, coefficient}
use Rattle.bg_rows.specs.declared.row.Row.{Row}
use Rattle.bg_rows.specs.declared.refused.Refused.{Refused}
use Rattle.bg_rows.specs.declared.refused.Refused.TheVariants.{Range, Memory}

-- a row, as its meaning sees it: the sum of the entries is at most the bound
pub record RowOf : Type 0 where
  pub entries : List Entry
  pub bound : ℤ

abbrev pub row_of : Row → RowOf
row_of r = record { entries = r.entries.items; bound = r.bound }

-- ---- meaning

-- whether the values meet the row
abbrev pub holds : (ℕ → ℤ) → RowOf → Bool
holds v r = int_le (total v r.entries) r.bound

abbrev pub Meets : (ℕ → ℤ) → RowOf → Type 0
Meets v r = total v r.entries ≤ℤ r.bound

abbrev pub is_empty : List Entry → Bool
is_empty [] = true
is_empty (t ∷ ts) = false

-- each variable once and in order, no coefficient 0
abbrev pub IsNormal : RowOf → Type 0
IsNormal r = rising 0 r.entries ≡ true

-- no variable is left, and the bound is below 0
abbrev pub is_false : RowOf → Bool
is_false r = is_empty r.entries && int_lt r.bound (pos 0)

-- ---- operations, each refused at its first result outside the range

abbrev pub and_then : {A B E : Type 0} → Result A E → (A → Result B E) → Result B E
and_then (Ok a) f = f a
and_then (Err e) f = Err e

abbrev pub entry : ℕ → ℤ → Entry
entry x c = record { variable = x; by = c }

-- an entry in front; a zero is left out
abbrev pub put : ℕ → ℤ → List Entry → List Entry
put x c ts = if is_zero c then ts else entry x c ∷ ts

-- k times each coefficient, in order
abbrev pub multiples : ℤ → List Entry → Result (List Entry) OutOfRange
multiples k [] = Ok []
multiples k (t ∷ ts) =
    and_then (product_of k t.by) (λ c. and_then (multiples k ts) (λ us. Ok (put t.variable c us)))

-- k times the row: the coefficients, then the bound
abbrev pub times : ℤ → RowOf → Result RowOf OutOfRange
times k r =
    and_then (multiples k r.entries) (λ ts. and_then (product_of k r.bound) (λ c. Ok (record { entries = ts; bound = c })))

abbrev pub put_first : Entry → Result (List Entry) OutOfRange → Result (List Entry) OutOfRange
put_first t us = and_then us (λ ts. Ok (t ∷ ts))

-- the sum of t in front of some entries and of others, where `rest` is the sum of those some and any others
abbrev pub beside : Entry → (List Entry → Result (List Entry) OutOfRange) → List Entry → Result (List Entry) OutOfRange
beside t rest [] = put_first t (rest [])
beside t rest (u ∷ us) =
    if nat_lt t.variable u.variable then put_first t (rest (u ∷ us))
    else if nat_lt u.variable t.variable then put_first u (beside t rest us)
    else and_then (sum_of t.by u.by) (λ c. and_then (rest us) (λ ts. Ok (put t.variable c ts)))

-- the sum, by variable number
abbrev pub merged : List Entry → List Entry → Result (List Entry) OutOfRange
merged [] us = Ok us
merged (t ∷ ts) us = beside t (merged ts) us

-- the sum of two rows: the coefficients, then the bound
abbrev pub plus : RowOf → RowOf → Result RowOf OutOfRange
plus r s =
    and_then (merged r.entries s.entries) (λ ts. and_then (sum_of r.bound s.bound) (λ c. Ok (record { entries = ts; bound = c })))

-- k times r and l times s
abbrev pub combined : RowOf → ℤ → RowOf → ℤ → Result RowOf OutOfRange
combined r k s l = and_then (times k r) (λ x. and_then (times l s) (λ y. plus x y))

-- a multiplier; 2^127 is the negation of -2^127, which is outside
abbrev pub multiplier : ℕ → Result ℤ OutOfRange
multiplier n = if nat_lt n (2 ^ 127) then Ok (pos n) else negation_of (neg_ℤ (pos n))

-- the sum without the variable, by the least multipliers
abbrev pub eliminated : RowOf → RowOf → ℕ → Result RowOf OutOfRange
eliminated r s x =
    let a = unsigned_abs (coefficient x r.entries) in
    let b = unsigned_abs (coefficient x s.entries) in
    let g = gcd_of a b in
    and_then (multiplier (b / g)) (λ k. and_then (multiplier (a / g)) (λ l. combined r k s l))

-- of the two coefficients one is above 0 and one below
abbrev pub opposite : ℤ → ℤ → Bool
opposite (pos a) (negsuc b) = nat_lt 0 a
opposite (negsuc a) (pos b) = nat_lt 0 b
opposite _ _ = false

-- the greatest common divisor of g and the coefficients
abbrev pub gcd_from : ℕ → List Entry → ℕ
gcd_from g [] = g
gcd_from g (t ∷ ts) = gcd_from (gcd_of g (unsigned_abs t.by)) ts

abbrev pub divided : ℕ → List Entry → List Entry
divided g [] = []
divided g (t ∷ ts) = entry t.variable (floor_quotient t.by g) ∷ divided g ts

-- divided by the greatest common divisor of the coefficients, the bound rounded down
abbrev pub tightened : RowOf → RowOf
tightened r =
    let g = gcd_from 0 r.entries in
    if g == 0 then r else record { entries = divided g r.entries; bound = floor_quotient r.bound g }

abbrev pub negations : List Entry → Result (List Entry) OutOfRange
negations [] = Ok []
negations (t ∷ ts) = and_then (negation_of t.by) (λ c. and_then (negations ts) (λ us. Ok (entry t.variable c ∷ us)))

-- the row that holds where this one does not
abbrev pub denied : RowOf → Result RowOf OutOfRange
denied r =
    and_then (negations r.entries) (λ ts. and_then (difference_of (negsuc 0) r.bound) (λ c. Ok (record { entries = ts; bound = c })))

-- ---- what a call answers

-- what is defined, or the operation that left the range; or memory ran out
abbrev pub Told : {A B : Type 0} → (A → B) → Result A Refused → Result B OutOfRange → Type 0
Told view (Ok a) made = made ≡ Ok (view a)
Told view (Err (Range e)) made = made ≡ Err e
Told view (Err Memory) made = Unit {0}

-- entries in front of those of an answer
abbrev pub after : List Entry → Result (List Entry) OutOfRange → Result (List Entry) OutOfRange
after made rest = and_then rest (λ ts. Ok (made ++ ts))

-- what is left of a row's bound for the entry of x
abbrev pub left_for : (ℕ → ℤ) → ℕ → RowOf → ℤ
left_for v x r = r.bound -ℤ (total v r.entries -ℤ (coefficient x r.entries *ℤ v x))

-- g divides each coefficient
abbrev pub DividesAll : ℕ → List Entry → Type 0
DividesAll g [] = Unit {0}
DividesAll g (t ∷ ts) = (g ∣ unsigned_abs t.by) × DividesAll g ts

-- the values meet each row
abbrev pub AllMeet : (ℕ → ℤ) → List RowOf → Type 0
AllMeet v [] = Unit {0}
AllMeet v (r ∷ rs) = Meets v r × AllMeet v rs
