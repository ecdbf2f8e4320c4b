-- The code's values as values of a program, and what names mean where values are seen.
use Rattle.std.specs.Prelude.{◌≡◌, ℕ, List, slice_get}
use Rattle.bg_ast.specs.Values as v
use Rattle.bg_ast.specs.Values.{Val, Table, Default, Entry}
use Rattle.bg_sense.specs.Eval.{Scope, look_up}
use Rattle.bg_scalar.specs.Worths.{Seen}
use Rattle.bg_scalar.specs.declared.scalar.Scalar.{Scalar}
use Rattle.bg_scalar.specs.declared.scalar.Scalar.TheVariants.{Truth, Number, Element}
use Rattle.bg_scalar.specs.declared.value.Value.{Value, Row_of-Entry, end_of-Entry, more_of-Entry}
use Rattle.bg_scalar.specs.declared.value.Value.TheVariants as value

abbrev pub val_of : Scalar → Val
val_of (Truth b) = v.Truth b
val_of (Number z) = v.Num z
val_of (Element t z) = v.Element t z

abbrev mutual
  -- a map is its entries in front of its default
  pub value_of : Value → Val
  value_of (value.Plain s) = val_of s
  value_of (value.Map' shape es p d) = entered es (Default (value_of d))

  -- entries in front of a map
  pub entered : {n : _} → Row_of-Entry n → Val → Val
  entered end_of-Entry m = m
  entered (more_of-Entry k u es) m = Entry k.items (value_of u) (entered es m)

-- functions mean these tables
abbrev pub MeanTables : (ℕ → List Val → Val) → List Table → Type 0
MeanTables fs ts = (f : ℕ) (args : List Val) → fs f args ≡ look_up (slice_get ts f) args

-- what names mean where variables have these values
abbrev pub scope_in : (ℕ → List Val → Val) → List Val → Seen → Scope
scope_in fs cs w =
    record { functions = fs; constants = cs; globals = w.globals; before = w.before; frame = w.frame }
