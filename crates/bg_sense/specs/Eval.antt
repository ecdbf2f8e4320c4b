-- What an expression is worth: total, over whole numbers without bound.
use Rattle.std.specs.Prelude.{ℕ, zero, suc, pos, ◌+ℤ◌, ◌-ℤ◌, ◌*ℤ◌, neg_ℤ, Bool, true, false, not, ◌&&◌, ◌||◌, if◌then◌else◌, List, [], ◌∷◌, length, map, Option, Some, None, slice_get, unwrap_or, int_lt, int_le}
use Rattle.bg_ast.specs.Values.{UserTy, IntTy, Ty, MapTy, BoolTy, Default, Num, Element, Val, Truth, val_eq, select, update, number_of, truth_of, Table}
use Rattle.bg_ast.specs.Syntax.{Global, Var, Local, Op, Implies, Or, AtMost, Greater, Plus, Less, AtLeast, Iff, Times, Minus, And, Unequal, Equal, Update, Select, Constant, Read, Apply, Binary, Number, Exs, Fact, Negative, Old, NoMore, Not, Ex, More, Fun, Prog}
use Rattle.bg_ast.specs.Execution.{Interp}

-- the value at a place of a list; 0 past its end, which no typed program reads
abbrev pub value_at : List Val → ℕ → Val
value_at vs i = unwrap_or (slice_get vs i) (Num (pos 0))

-- whether two lists of values are the same
abbrev pub vals_eq : List Val → List Val → Bool
vals_eq [] [] = true
vals_eq [] (w ∷ ws) = false
vals_eq (v ∷ vs) [] = false
vals_eq (v ∷ vs) (w ∷ ws) = val_eq v w && vals_eq vs ws

-- the value of the first entry for these arguments, or else the default
abbrev pub entry_for : List (List Val × Val) → List Val → Val → Val
entry_for [] args d = d
entry_for (e ∷ es) args d = if vals_eq e.0 args then e.1 else entry_for es args d

-- a table's value at these arguments; 0 where there is no table, which no typed program reads
abbrev pub look_up : Option Table → List Val → Val
look_up None args = Num (pos 0)
look_up (Some t) args = entry_for t.entries args t.default

-- what names mean at one moment: the functions, the constants, the globals now and at entry, and the frame
pub record Scope : Type 0 where
  pub functions : ℕ → List Val → Val
  pub constants : List Val
  pub globals : List Val
  pub before : List Val
  pub frame : List Val

-- a variable's value
abbrev pub read : Scope → Var → Val
read c (Global x) = value_at c.globals x
read c (Local x) = value_at c.frame x

-- the value of an operator
abbrev pub operate : Op → Val → Val → Val
operate And v w = Truth (truth_of v && truth_of w)
operate Or v w = Truth (truth_of v || truth_of w)
operate Implies v w = Truth (not (truth_of v) || truth_of w)
operate Iff v w = Truth (val_eq v w)
operate Equal v w = Truth (val_eq v w)
operate Unequal v w = Truth (not (val_eq v w))
operate Less v w = Truth (int_lt (number_of v) (number_of w))
operate AtMost v w = Truth (int_le (number_of v) (number_of w))
operate Greater v w = Truth (int_lt (number_of w) (number_of v))
operate AtLeast v w = Truth (int_le (number_of w) (number_of v))
operate Plus v w = Num (number_of v +ℤ number_of w)
operate Minus v w = Num (number_of v -ℤ number_of w)
operate Times v w = Num (number_of v *ℤ number_of w)

abbrev mutual
  -- the value of an expression
  pub ev : Ex → Scope → Val
  ev (Number z) c = Num z
  ev (Fact b) c = Truth b
  ev (Constant k) c = value_at c.constants k
  ev (Read x) c = read c x
  ev (Not e) c = Truth (not (truth_of (ev e c)))
  ev (Negative e) c = Num (neg_ℤ (number_of (ev e c)))
  ev (Binary op a b) c = operate op (ev a c) (ev b c)
  ev (Apply f es) c = c.functions f (evs es c)
  ev (Select m es) c = select (ev m c) (map number_of (evs es c))
  ev (Update m es v) c = update (ev m c) (map number_of (evs es c)) (ev v c)
  ev (Old e) c = ev e (record c { globals = c.before })

  pub evs : Exs → Scope → List Val
  evs NoMore c = []
  evs (More e es) c = ev e c ∷ evs es c

-- a function's body, at these arguments, where the functions that it uses mean this
abbrev pub body_value : Option Ex → (ℕ → List Val → Val) → Interp → ℕ → List Val → Val
body_value None fs i f args = look_up (slice_get i.tables f) args
body_value (Some e) fs i f args =
    ev e (record { functions = fs; constants = i.constants; globals = []; before = []; frame = args })

-- a function's body, if any
abbrev pub body_of : Option Fun → Option Ex
body_of None = None
body_of (Some f) = f.body

-- some value of a type
abbrev pub default_for : Ty → Val
default_for IntTy = Num (pos 0)
default_for BoolTy = Truth false
default_for (UserTy t) = Element t (pos 0)
default_for (MapTy ks t) = Default (default_for t)

-- some value of a function's result type
abbrev pub default_result : Option Fun → Val
default_result None = Num (pos 0)
default_result (Some f) = default_for f.result

-- what functions mean, where bodies are opened this deep
abbrev pub functions_to : ℕ → List Fun → Interp → ℕ → List Val → Val
functions_to zero fs i f args = default_result (slice_get fs f)
functions_to (suc depth) fs i f args =
    body_value (body_of (slice_get fs f)) (functions_to depth fs i) i f args

-- no body reaches itself, so a chain of bodies is at most as long as the list of functions
abbrev pub functions_of : Prog → Interp → ℕ → List Val → Val
functions_of p i = functions_to (suc (length p.functions)) p.functions i

-- whether an expression that reads no variable is true
abbrev pub holds_alone : Prog → Interp → Ex → Bool
holds_alone p i e =
    truth_of (ev e (record { functions = functions_of p i; constants = i.constants; globals = []; before = []; frame = [] }))
