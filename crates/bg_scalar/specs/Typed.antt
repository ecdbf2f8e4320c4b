-- Typed expressions over values.
use Rattle.std.specs.Prelude.{◌≡◌, ℕ, Bool, true, false, ◌&&◌, List, Some, slice_get}
use Rattle.bg_ast.specs.Values.{Val, Ty, Table, is_of}
use Rattle.bg_ast.specs.Syntax.{Ex, Number, Fact, Constant, Read, Not, Negative, Binary, Old, Apply, Select, Update, Exs, NoMore, More, Fun}
use Rattle.bg_sense.specs.Eval.{look_up}
use Rattle.bg_sense.specs.Types.{are_of}
use Rattle.bg_sense.specs.Typing.{Sig}
use Rattle.bg_scalar.specs.Worths.{Seen, Listed, Are, Leave, NoValues, WorthOf, Is, Leaves, NoValue}

abbrev mutual
  -- no constant is in it
  pub is_valued : Ex → Bool
  is_valued (Number z) = true
  is_valued (Fact b) = true
  is_valued (Constant k) = false
  is_valued (Read x) = true
  is_valued (Not e) = is_valued e
  is_valued (Negative e) = is_valued e
  is_valued (Binary o a b) = is_valued a && is_valued b
  is_valued (Apply f es) = are_valued es
  is_valued (Select m es) = is_valued m && are_valued es
  is_valued (Update m es e) = is_valued m && (are_valued es && is_valued e)
  is_valued (Old e) = is_valued e

  -- each of a list is so
  pub are_valued : Exs → Bool
  are_valued NoMore = true
  are_valued (More e es) = is_valued e && are_valued es

-- what a function's table says is of its result's type
abbrev pub HaveTables : List Fun → List Table → Type 0
HaveTables fs ts =
    (f : ℕ) (fn : Fun) (args : List Val) → slice_get fs f ≡ Some fn → is_of fn.result (look_up (slice_get ts f) args) ≡ true

-- functions have tables of their types, and variables have values of theirs
pub record Sees (g : Sig) (s : Seen) : Type 0 where
  pub tables : HaveTables g.functions s.tables
  pub globals : are_of g.globals s.globals ≡ true
  pub before : are_of g.globals s.before ≡ true
  pub frame : are_of g.frame s.frame ≡ true

-- a value of this type, unless an operation leaves the range
abbrev pub HasWorth : Ty → WorthOf → Type 0
HasWorth t (Is x) = is_of t x ≡ true
HasWorth t (Leaves o) = Unit {0}
HasWorth t NoValue = ⊥

-- the same of a list
abbrev pub HaveWorths : List Ty → Listed → Type 0
HaveWorths ts (Are xs) = are_of ts xs ≡ true
HaveWorths ts (Leave o) = Unit {0}
HaveWorths ts NoValues = ⊥
