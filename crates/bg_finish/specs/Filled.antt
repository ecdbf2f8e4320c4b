-- Tables that applications are put into.
use Rattle.std.specs.Prelude.{◌≡◌, ℕ, zero, suc, ◌+◌, ◌==◌, if◌then◌else◌, List, [], ◌∷◌, ◌++◌, map, Option, Some, None, Vec, slice_get}
use Rattle.std.specs.Ordering.{match_ordering}
use Rattle.std.specs.declared.cmp.Ordering.{Ordering}
use Rattle.std.specs.declared.alloc.Global.{Global}
use Rattle.std.specs.Cmp.Lexicographic.{slice_cmp}
use Rattle.bg_ast.specs.Values.{Val, Ty, val_eq}
use Rattle.bg_ast.specs.Syntax.{Ex}
use Rattle.bg_sense.specs.Eval.{value_at, default_for}
use Rattle.bg_terms.specs.Terms.{Head, Applies, head_eq}
use Rattle.bg_term_table.specs.declared.table.Term as kept
use Rattle.bg_term_table.specs.Views.{meanings, head_of}
use Rattle.bg_term_table.specs.Locals.{local_in}
use Rattle.bg_scalar.specs.contracts.value.ValueOrd.TheImpl as order
use Rattle.bg_scalar.specs.declared.value.Value.{Value}
use Rattle.bg_scalar.specs.declared.table.Table as code
use Rattle.bg_scalar.specs.Values.{value_of}
use Rattle.bg_scalar.specs.Views.{vals_in}
use Rattle.bg_wanted.specs.declared.row.Row.{Row}
use Rattle.bg_wanted.specs.Scalars.{scalars_in}

-- the order in which tables keep their arguments
abbrev pub args_cmp : List Value → List Value → Ordering
args_cmp xs ys = slice_cmp (order.ghosts).cmp xs ys

-- arguments, with a value for them
abbrev pub EntryOf : Type 0
EntryOf = List Value × Value

-- what a function gives for the arguments that have an entry, and its default for others
pub record TableOf : Type 0 where
  pub entries : List EntryOf
  pub default : Val

-- as the code has it: the entries, in the order of their keys
abbrev pub entry_in : Vec Value Global × Value → EntryOf
entry_in e = (e.0.items, e.1)

abbrev pub held_in : code.Table → TableOf
held_in t = record { entries = map entry_in t.entries.entries; default = value_of t.default }

abbrev pub all_held : List code.Table → List TableOf
all_held ts = map held_in ts

-- entries in the order of their arguments, with one more; it takes the place of one for the same arguments
abbrev pub with_entry : List Value → Value → List EntryOf → List EntryOf
with_entry k x [] = (k, x) ∷ []
with_entry k x (e ∷ es) =
    match_ordering (args_cmp k e.0) ((k, x) ∷ e ∷ es) ((e.0, x) ∷ es) (e ∷ with_entry k x es)

-- what the default tells has no entry
abbrev pub put_in : TableOf → List Value → Value → TableOf
put_in t k x = if val_eq (value_of x) t.default then t else record t { entries = with_entry k x t.entries }

abbrev pub blank : Val → TableOf
blank d = record { entries = []; default = d }

abbrev pub at_place : {A : Type 0} → ℕ → (A → A) → List A → List A
at_place i f [] = []
at_place zero f (x ∷ xs) = f x ∷ xs
at_place (suc i) f (x ∷ xs) = x ∷ at_place i f xs

-- an application: its function, the values of its arguments, and its own value
pub record RowOf : Type 0 where
  pub function : ℕ
  pub args : List Value
  pub value : Value

-- it in the table of its function, if there is one
abbrev pub with_row : RowOf → List TableOf → List TableOf
with_row r ts = at_place r.function (λ t. put_in t r.args r.value) ts

abbrev pub filled : List RowOf → List TableOf → List TableOf
filled [] ts = ts
filled (r ∷ rs) ts = filled rs (with_row r ts)

-- a table without entries for what each function gives
abbrev pub blank_for : Ty → TableOf
blank_for t = blank (default_for t)

abbrev pub blanks : List Ty → List TableOf
blanks ts = map blank_for ts

-- what applications of one function say
abbrev pub rows_for : ℕ → List RowOf → List (List Val × Val)
rows_for f [] = []
rows_for f (r ∷ rs) = if r.function == f then (vals_in r.args, value_of r.value) ∷ rows_for f rs else rows_for f rs

-- the value of what reads an incarnation or a term, and else this one
abbrev pub read_or : Option ℕ → List Val → Val → Val
read_or None w v = v
read_or (Some j) w v = value_at w j

-- the values of arguments, where these scalars stand for them
abbrev pub args_in : List Val → List Ex → List Val → List Val
args_in w [] vs = []
args_in w (x ∷ xs) [] = []
args_in w (x ∷ xs) (v ∷ vs) = read_or (local_in x) w v ∷ args_in w xs vs

-- what a term of this head says of a function
abbrev pub entries_at : ℕ → Head → List Val → Val → List (List Val × Val)
entries_at f h k v = if head_eq h (Applies f) then (k, v) ∷ [] else []

-- a term of this head, whose arguments and itself have these values, in the table of its function, if it is an application
pub record IsPut (h : Head) (k : List Val) (v : Val) (old now : List TableOf) : Type 0 where
  pub applied : List RowOf
  pub filled_by : now ≡ filled applied old
  pub say : (f : ℕ) → rows_for f applied ≡ entries_at f h k v

-- the scalars of a row's arguments
abbrev pub scalars_at : Option Row → List Val
scalars_at None = []
scalars_at (Some r) = scalars_in r.args.items

-- what terms with these rows say of a function, where the first has place i behind n incarnations
module _ (f : ℕ) (w : List Val) (rows : List Row) (n : ℕ) where
  abbrev pub entry_from : ℕ → kept.Term → List (List Val × Val)
  entry_from i t =
      entries_at f (head_of t.head) (args_in w (meanings t.args.items) (scalars_at (slice_get rows i))) (value_at w (n + i))

  abbrev pub entries_from : ℕ → List kept.Term → List (List Val × Val)
  entries_from i [] = []
  entries_from i (t ∷ ts) = entry_from i t ++ entries_from (suc i) ts

-- tables of applications that say what the terms with these rows do
pub record AreTables (w : List Val) (terms : List kept.Term) (rows : List Row) (n : ℕ) (tys : List Ty) (made : List code.Table) : Type 0 where
  pub applied : List RowOf
  pub filled_by : all_held made ≡ filled applied (blanks tys)
  pub say : (f : ℕ) → rows_for f applied ≡ entries_from f w rows n 0 terms
