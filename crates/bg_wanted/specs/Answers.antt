-- What is wanted at a leaf over whole numbers and truth values.
use Rattle.std.specs.Prelude.{◌≡◌, ℕ, true, List, length, map, Some, slice_get}
use Rattle.bg_ast.specs.Values.{Val, Ty}
use Rattle.bg_ast.specs.Syntax.{Fun}
use Rattle.bg_sense.specs.Eval.{value_at}
use Rattle.bg_sense.specs.Types.{are_of}
use Rattle.bg_terms.specs.Terms.{Term}
use Rattle.bg_terms.specs.Alike.{scalar_ty}
use Rattle.bg_terms.specs.Typed.{TermsTyped, types_with}
use Rattle.bg_terms.specs.Built.{built}
use Rattle.bg_terms.specs.Closed.{IsFinished}
use Rattle.bg_numbered.specs.Indexed.{are_indexed}
use Rattle.bg_numbered.specs.Lines.{HaveIndices}
use Rattle.bg_term_table.specs.Lines.{lines_of}
use Rattle.bg_wanted.specs.declared.wanted.Wanted.{Wanted}
use Rattle.bg_wanted.specs.declared.wanted.Wanted.TheVariants as want
use Rattle.bg_wanted.specs.declared.wanted.Told.{Told}
use Rattle.bg_wanted.specs.declared.wanted.Told.TheVariants as told
use Rattle.bg_scalar.specs.declared.scalar.Scalar.{Scalar}
use Rattle.bg_scalar.specs.Views.{vals_in}
use Rattle.bg_wanted.specs.declared.row.Row.{Row}
use Rattle.bg_wanted.specs.Classes.{AreMet}
use Rattle.bg_wanted.specs.Scalars.{scalars_in}
use Rattle.bg_wanted.specs.Rows.{LeavesFirst, RowOf, rows_of, AreRows}
use Rattle.bg_wanted.specs.Wanting.{IsWanting}

-- terms are typed, each map of theirs has an index, and incarnations and terms have scalars of their types
pub record IsNumberLeaf (fs : List Fun) (incs : List Ty) (ts : List Term) (s : List Val) : Type 0 where
  pub terms : TermsTyped fs incs ts
  pub indexed : HaveIndices ts
  pub types : are_indexed (types_with incs ts) ≡ true
  pub scalars : are_of (map scalar_ty (types_with incs ts)) s ≡ true

-- behind scalars of incarnations and terms stand these values
pub record AreBehind (incs : List Ty) (ts : List Term) (s w : List Val) : Type 0 where
  pub count : length w ≡ length (types_with incs ts)
  pub each : (j : ℕ) (t : Ty) → slice_get (types_with incs ts) j ≡ Some t → slice_get w j ≡ Some (built s (length incs) ts t (value_at s j))

-- lines where they are wanted, and values at a finished leaf
abbrev pub IsTold : List Ty → List Term → List Val → Told → Type 0
IsTold incs ts s (told.Done made) =
    IsFinished s (length incs) ts (types_with incs ts) × AreBehind incs ts s (vals_in made.items)
IsTold incs ts s (told.Lines made) = IsWanting incs ts s (lines_of made.items)

-- a finished leaf, with the rows of its terms and the values behind its scalars
pub record IsDone (incs : List Ty) (ts : List Term) (values : List Scalar) (rs : List RowOf) (w : List Val) : Type 0 where
  pub finished : IsFinished (scalars_in values) (length incs) ts (types_with incs ts)
  pub rows : AreRows values (length incs) ts 0 ts rs
  pub behind : AreBehind incs ts (scalars_in values) w

-- nothing is wanted exactly at a finished leaf; of what is guessed at another nothing is known
abbrev pub IsAnswer : List Ty → List Term → List Scalar → Wanted → Type 0
IsAnswer incs ts values (want.Nothing rs made) = IsDone incs ts values (rows_of rs.items) (vals_in made.items)
IsAnswer incs ts values (want.Lines made rs guessed) = IsWanting incs ts (scalars_in values) (lines_of made.items)
IsAnswer incs ts values (want.Leaves o) = LeavesFirst ts (scalars_in values) o
IsAnswer incs ts values want.NoScalars = ⊥

-- these are the rows of terms, with the places of the first terms that speak of a type of maps
abbrev pub AreRowsOf : List Ty → List Term → List Scalar → List Row → List ℕ → Type 0
AreRowsOf incs ts values rs met = AreRows values (length incs) ts 0 ts (rows_of rs) × AreMet ts (length ts) met
