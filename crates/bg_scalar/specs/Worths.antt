-- What expressions are worth, from left to right: each operation is exact, or it is the first that leaves the range. Maps are values.
use Rattle.std.specs.Prelude.{ℤ, Bool, true, false, not, ◌&&◌, ◌||◌, ◌==◌, if◌then◌else◌, List, [], ◌∷◌, map, Option, Some, None, Result, Ok, Err, slice_get, int_lt, int_le}
use Rattle.std.specs.Ordering.{int_eq}
use Rattle.bg_base.specs.Exact.{sum_of, difference_of, product_of, negation_of}
use Rattle.bg_base.specs.declared.exact.OutOfRange.{OutOfRange}
use Rattle.bg_ast.specs.Values.{Val, Num, Truth, Element, Default, Entry, Table, number_of, select, update, val_eq}
use Rattle.bg_ast.specs.Syntax as s
use Rattle.bg_ast.specs.Syntax.{Var, Local, Global, Op, And, Or, Implies, Iff, Equal, Unequal, Less, AtMost, Greater, AtLeast, Plus, Minus, Times, Ex, Fact, Read, Not, Negative, Binary, Old, Apply, Select, Update, Exs, NoMore, More}
use Rattle.bg_sense.specs.Eval.{look_up}

-- what an expression is worth: a value; none, since this operation leaves 128 bits, the first that does; or none, since something in it has
-- another type than it should
pub data WorthOf : Type 0 where
  Is : Val → WorthOf
  Leaves : OutOfRange → WorthOf
  NoValue : WorthOf

-- the tables of functions, and the values of variables: the globals now and at entry, and the frame
pub record Seen : Type 0 where
  pub tables : List Table
  pub globals : List Val
  pub before : List Val
  pub frame : List Val

-- what has a value goes on with it
abbrev pub and_then : WorthOf → (Val → WorthOf) → WorthOf
and_then (Is x) go_on = go_on x
and_then (Leaves o) go_on = Leaves o
and_then NoValue go_on = NoValue

abbrev pub truth : Bool → WorthOf
truth b = Is (Truth b)

-- the result of an operation, or that it leaves the range
abbrev pub exact : Result ℤ OutOfRange → WorthOf
exact (Ok z) = Is (Num z)
exact (Err o) = Leaves o

-- whether two truth values are the same
abbrev pub same : Bool → Bool → Bool
same true b = b
same false b = not b

-- an operator between truth values
abbrev pub on_truths : Op → Bool → Bool → WorthOf
on_truths And a b = truth (a && b)
on_truths Or a b = truth (a || b)
on_truths Implies a b = truth (not a || b)
on_truths Iff a b = truth (same a b)
on_truths Equal a b = truth (same a b)
on_truths Unequal a b = truth (not (same a b))
on_truths _ a b = NoValue

-- an operator between whole numbers
abbrev pub on_numbers : Op → ℤ → ℤ → WorthOf
on_numbers Equal x y = truth (int_eq x y)
on_numbers Unequal x y = truth (not (int_eq x y))
on_numbers Less x y = truth (int_lt x y)
on_numbers AtMost x y = truth (int_le x y)
on_numbers Greater x y = truth (int_lt y x)
on_numbers AtLeast x y = truth (int_le y x)
on_numbers Plus x y = exact (sum_of x y)
on_numbers Minus x y = exact (difference_of x y)
on_numbers Times x y = exact (product_of x y)
on_numbers _ x y = NoValue

-- an operator between values that are the same or not
abbrev pub by_equality : Op → Bool → WorthOf
by_equality Equal b = truth b
by_equality Unequal b = truth (not b)
by_equality _ b = NoValue

abbrev pub is_table : Val → Bool
is_table (Default d) = true
is_table (Entry k v m) = true
is_table _ = false

-- an operator behind a map: maps in normal form are the same where they agree everywhere
abbrev pub on_maps : Op → Val → Val → WorthOf
on_maps o m n = if is_table n then by_equality o (val_eq m n) else NoValue

abbrev pub operate : Op → Val → Val → WorthOf
operate o (Truth a) (Truth b) = on_truths o a b
operate o (Num x) (Num y) = on_numbers o x y
operate o (Element t x) (Element u y) = if t == u then by_equality o (int_eq x y) else NoValue
operate o (Default d) w = on_maps o (Default d) w
operate o (Entry k v m) w = on_maps o (Entry k v m) w
operate o _ _ = NoValue

abbrev pub is_truth : Val → Bool
is_truth (Truth b) = true
is_truth _ = false

abbrev pub is_number : Val → Bool
is_number (Num z) = true
is_number _ = false

-- whether an operator may stand behind this operand
abbrev pub takes : Op → Val → Bool
takes And x = is_truth x
takes Or x = is_truth x
takes Implies x = is_truth x
takes Iff x = is_truth x
takes Equal x = true
takes Unequal x = true
takes _ x = is_number x

-- an operator between two operands: the left one comes first, with what is wrong with it
abbrev pub joined : Op → WorthOf → WorthOf → WorthOf
joined o a b = and_then a (λ x. if takes o x then and_then b (operate o x) else NoValue)

abbrev pub not_on : Val → WorthOf
not_on (Truth b) = truth (not b)
not_on _ = NoValue

abbrev pub minus_on : Val → WorthOf
minus_on (Num z) = exact (negation_of z)
minus_on _ = NoValue

-- parts of an index are numbers or elements
abbrev pub is_part : Val → Bool
is_part (Num z) = true
is_part (Element t z) = true
is_part _ = false

abbrev pub are_parts : List Val → Bool
are_parts [] = true
are_parts (q ∷ qs) = is_part q && are_parts qs

-- the value of a map at an index
abbrev pub chosen : Val → List Val → WorthOf
chosen m qs = if is_table m && are_parts qs then Is (select m (map number_of qs)) else NoValue

-- the map with another value at an index
abbrev pub written : Val → List Val → Val → WorthOf
written m qs v = if is_table m && are_parts qs then Is (update m (map number_of qs) v) else NoValue

abbrev pub known : Option Val → WorthOf
known None = NoValue
known (Some x) = Is x

abbrev pub read_in : Seen → Var → WorthOf
read_in w (Global x) = known (slice_get w.globals x)
read_in w (Local x) = known (slice_get w.frame x)

-- at entry
abbrev pub at_entry : Seen → Seen
at_entry w = record w { globals = w.before }

-- what a list of expressions is worth: values, or what is wrong with the first that has none
pub data Listed : Type 0 where
  Are : List Val → Listed
  Leave : OutOfRange → Listed
  NoValues : Listed

abbrev pub more : Val → Listed → Listed
more x (Are xs) = Are (x ∷ xs)
more x (Leave o) = Leave o
more x NoValues = NoValues

abbrev pub cons : WorthOf → Listed → Listed
cons (Is x) l = more x l
cons (Leaves o) l = Leave o
cons NoValue l = NoValues

-- what has values goes on with them
abbrev pub and_then_all : Listed → (List Val → WorthOf) → WorthOf
and_then_all (Are xs) go_on = go_on xs
and_then_all (Leave o) go_on = Leaves o
and_then_all NoValues go_on = NoValue

-- a select: the map comes first, then the index
abbrev pub selected : WorthOf → Listed → WorthOf
selected a l = and_then a (λ x. and_then_all l (chosen x))

-- an update: the map comes first, then the index, then the new value
abbrev pub updated : WorthOf → Listed → WorthOf → WorthOf
updated a l b = and_then a (λ x. and_then_all l (λ qs. and_then b (written x qs)))

abbrev mutual
  -- an expression; an application is what its function's table says, and constants were replaced
  pub worth : Ex → Seen → WorthOf
  worth (s.Number z) w = Is (Num z)
  worth (Fact b) w = Is (Truth b)
  worth (s.Constant k) w = NoValue
  worth (Read x) w = read_in w x
  worth (Not e) w = and_then (worth e w) not_on
  worth (Negative e) w = and_then (worth e w) minus_on
  worth (Binary o a b) w = joined o (worth a w) (worth b w)
  worth (Apply f es) w = and_then_all (worths es w) (λ xs. Is (look_up (slice_get w.tables f) xs))
  worth (Select m es) w = selected (worth m w) (worths es w)
  worth (Update m es e) w = updated (worth m w) (worths es w) (worth e w)
  worth (Old e) w = worth e (at_entry w)

  -- a list of expressions
  pub worths : Exs → Seen → Listed
  worths NoMore w = Are []
  worths (More e es) w = cons (worth e w) (worths es w)
