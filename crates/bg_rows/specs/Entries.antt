-- Lists of entries: a variable with its coefficient each.
use Rattle.std.specs.Prelude.{ℕ, suc, ◌==◌, Bool, true, false, not, ◌&&◌, ◌||◌, List, [], ◌∷◌, ℤ, pos, negsuc, ◌+ℤ◌, ◌*ℤ◌, nat_le, if◌then◌else◌}
use Rattle.bg_rows.specs.declared.entry.Entry.{Entry}

abbrev pub is_zero : ℤ → Bool
is_zero (pos n) = n == 0
is_zero (negsuc n) = false

-- the variables rise, from `low` on, and no coefficient is 0
abbrev pub rising : ℕ → List Entry → Bool
rising low [] = true
rising low (t ∷ ts) = nat_le low t.variable && (not (is_zero t.by) && rising (suc t.variable) ts)

-- the sum of the entries where each variable has its value
abbrev pub total : (ℕ → ℤ) → List Entry → ℤ
total v [] = pos 0
total v (t ∷ ts) = (t.by *ℤ v t.variable) +ℤ total v ts

-- the coefficient of a variable
abbrev pub coefficient : ℕ → List Entry → ℤ
coefficient x [] = pos 0
coefficient x (t ∷ ts) = if t.variable == x then t.by else coefficient x ts

abbrev pub mentions : ℕ → List Entry → Bool
mentions x [] = false
mentions x (t ∷ ts) = t.variable == x || mentions x ts
