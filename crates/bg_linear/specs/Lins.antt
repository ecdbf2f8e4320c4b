-- Linear forms over numbered variables, and operations on them, each refused at its first result outside the range.
use Rattle.std.specs.Prelude.{ℕ, nat_lt, ◌==◌, List, [], ◌∷◌, map, ℤ, pos, ◌+ℤ◌, Result, Ok, if◌then◌else◌}
use Rattle.bg_base.specs.declared.exact.Op.{Op}
use Rattle.bg_base.specs.declared.exact.Op.TheVariants as op
use Rattle.bg_base.specs.declared.exact.OutOfRange.{OutOfRange}
use Rattle.bg_base.specs.Exact.{sum_of, difference_of, product_of, negation_of}
use Rattle.bg_rows.specs.declared.entry.Entry.{Entry}
use Rattle.bg_rows.specs.Entries.{is_zero, total, coefficient}
use Rattle.bg_rows.specs.Rows.{and_then, entry, put, is_empty}

-- the sum of the entries and a constant; the variables rise, and no coefficient is 0
pub record LinOf : Type 0 where
  pub entries : List Entry
  pub constant : ℤ

-- what a form is worth, where each variable has its number
abbrev pub worth : (ℕ → ℤ) → LinOf → ℤ
worth v f = total v f.entries +ℤ f.constant

-- a number alone
abbrev pub number_form : ℤ → LinOf
number_form z = record { entries = []; constant = z }

-- a variable alone
abbrev pub variable_form : ℕ → LinOf
variable_form x = record { entries = entry x (pos 1) ∷ []; constant = pos 0 }

-- the entries that a map from variables to coefficients holds
abbrev pub listed : List (ℕ × ℤ) → List Entry
listed es = map (λ e. entry e.0 e.1) es

-- an operation on two numbers; a negation is one of the first
abbrev pub operate : Op → ℤ → ℤ → Result ℤ OutOfRange
operate op.Plus a b = sum_of a b
operate op.Minus a b = difference_of a b
operate op.Times a b = product_of a b
operate op.Negate a b = negation_of a

-- the entries but that of x
abbrev pub without : ℕ → List Entry → List Entry
without x [] = []
without x (t ∷ ts) = if x == t.variable then ts else t ∷ without x ts

-- the entries with this one for x
abbrev pub with_entry : ℕ → ℤ → List Entry → List Entry
with_entry x c [] = entry x c ∷ []
with_entry x c (t ∷ ts) =
    if nat_lt x t.variable then entry x c ∷ t ∷ ts
    else if x == t.variable then entry x c ∷ ts
    else t ∷ with_entry x c ts

-- the entries with this coefficient for x; a zero is left out
abbrev pub with_coefficient : ℕ → ℤ → List Entry → List Entry
with_coefficient x c ts = if is_zero c then without x ts else with_entry x c ts

-- a sum or a difference of entries, by the variable numbers of the second ones
abbrev pub joined : Op → List Entry → List Entry → Result (List Entry) OutOfRange
joined op ts [] = Ok ts
joined op ts (u ∷ us) =
    and_then (operate op (coefficient u.variable ts) u.by) (λ c. joined op (with_coefficient u.variable c ts) us)

-- a sum or a difference: the coefficients, then the constants
abbrev pub together : Op → LinOf → LinOf → Result LinOf OutOfRange
together op f g =
    and_then (joined op f.entries g.entries) (λ ts. and_then (operate op f.constant g.constant) (λ c. Ok (record { entries = ts; constant = c })))

-- an operation on each coefficient, by variable number
abbrev pub each : (ℤ → Result ℤ OutOfRange) → List Entry → Result (List Entry) OutOfRange
each step [] = Ok []
each step (t ∷ ts) = and_then (step t.by) (λ c. and_then (each step ts) (λ us. Ok (put t.variable c us)))

-- an operation on each coefficient, then on the constant
abbrev pub throughout : (ℤ → Result ℤ OutOfRange) → LinOf → Result LinOf OutOfRange
throughout step f =
    and_then (each step f.entries) (λ ts. and_then (step f.constant) (λ c. Ok (record { entries = ts; constant = c })))

-- the negation
abbrev pub negative : LinOf → Result LinOf OutOfRange
negative f = throughout negation_of f

-- the product of a form and a number, in the order in which they stand
abbrev pub product : LinOf → LinOf → Result LinOf OutOfRange
product f g =
    if is_empty g.entries then throughout (λ c. product_of c g.constant) f else throughout (λ c. product_of f.constant c) g
