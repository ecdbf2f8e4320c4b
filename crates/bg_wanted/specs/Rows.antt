-- The terms of a leaf by what their arguments are worth.
use Rattle.std.specs.Prelude.{◌≡◌, ◌⊎◌, ℕ, suc, ◌<◌, Bool, true, false, List, [], ◌∷◌, length, map, drop, Option, None, Some, Vec, slice_get}
use Rattle.std.specs.declared.alloc.Global.{Global}
use Rattle.bg_base.specs.declared.exact.OutOfRange.{OutOfRange}
use Rattle.bg_ast.specs.Values.{Val}
use Rattle.bg_terms.specs.Terms.{Term}
use Rattle.bg_scalar.specs.declared.scalar.Scalar.{Scalar}
use Rattle.bg_scalar.specs.Worths.{Seen, Listed, Are, Leave, NoValues, worths}
use Rattle.bg_wanted.specs.Scalars.{scalars_in, has_table}
use Rattle.bg_wanted.specs.declared.class.Class.{Class}
use Rattle.bg_wanted.specs.declared.row.Row.{Row}
use Rattle.bg_wanted.specs.declared.row.One.{One}
use Rattle.bg_wanted.specs.declared.row.One.TheVariants as one
use Rattle.bg_wanted.specs.declared.row.Rows.{Rows}
use Rattle.bg_wanted.specs.declared.row.Rows.TheVariants as all
use Rattle.bg_wanted.specs.Classes.{class_in, AreMet}

-- what incarnations and terms are worth, and nothing else
abbrev pub seen_at : List Val → Seen
seen_at values = record { tables = []; globals = []; before = []; frame = values }

-- this operation of the arguments is the first that leaves the range
pub record LeavesFirst (ts : List Term) (s : List Val) (o : OutOfRange) : Type 0 where
  pub number : ℕ
  pub term : Term
  pub is_there : slice_get ts number ≡ Some term
  pub leaves : worths term.args (seen_at s) ≡ Leave o
  pub before : (a : ℕ) (t : Term) → a < number → slice_get ts a ≡ Some t → (xs : List Val) × (worths t.args (seen_at s) ≡ Are xs)

-- a class, what the arguments are worth, and what the term is worth
pub record RowOf : Type 0 where
  pub class : Class
  pub args : List Scalar
  pub value : Scalar

abbrev pub row_of : Row → RowOf
row_of r = record { class = r.class; args = r.args.items; value = r.value }

abbrev pub rows_of : List Row → List RowOf
rows_of rs = map row_of rs

-- a term of this class with this scalar, where incarnations and terms have these
abbrev pub IsRow : List Scalar → Term → Class → Option Scalar → RowOf → Type 0
IsRow values t c value r =
    (r.class ≡ c) × ((worths t.args (seen_at (scalars_in values)) ≡ Are (scalars_in r.args)) × (value ≡ Some r.value))

-- whether something has no value, or is a map
abbrev pub have_none : Listed → Bool
have_none (Are vs) = has_table vs
have_none (Leave o) = false
have_none NoValues = true

abbrev pub IsOne : List Scalar → Term → Class → Option Scalar → One → Type 0
IsOne values t c value (one.Is r) = IsRow values t c value (row_of r)
IsOne values t c value (one.Leaves o) = worths t.args (seen_at (scalars_in values)) ≡ Leave o
IsOne values t c value one.NoRow = (have_none (worths t.args (seen_at (scalars_in values))) ≡ true) ⊎ (value ≡ None)

-- a row of these arguments with this scalar, if there are such
abbrev pub one_with : Class → Option (Vec Scalar Global) → Option Scalar → One
one_with c None value = one.NoRow
one_with c (Some args) None = one.NoRow
one_with c (Some args) (Some x) = one.Is (record { class = c; args = args; value = x })

module _ (values : List Scalar) (n : ℕ) (whole : List Term) where
  -- terms of which the first has place b behind n incarnations
  abbrev pub AreRows : ℕ → List Term → List RowOf → Type 0
  AreRows b [] [] = Unit {0}
  AreRows b (t ∷ ts) (r ∷ rs) =
      IsRow values t (class_in whole t.head) (slice_get (drop n values) b) r × AreRows (suc b) ts rs
  AreRows b _ _ = ⊥

-- something of a term is no scalar, or isn't there
pub record LacksOne (values : List Scalar) (n : ℕ) (ts : List Term) : Type 0 where
  pub number : ℕ
  pub term : Term
  pub is_there : slice_get ts number ≡ Some term
  pub lacks : (have_none (worths term.args (seen_at (scalars_in values))) ≡ true) ⊎ (slice_get (drop n values) number ≡ None)

abbrev pub IsRows : List Scalar → ℕ → List Term → Rows → Type 0
IsRows values n ts (all.Are rs met) = AreRows values n ts 0 ts (rows_of rs.items) × AreMet ts (length ts) met.items
IsRows values n ts (all.Leave o) = LeavesFirst ts (scalars_in values) o
IsRows values n ts all.NoRows = LacksOne values n ts
