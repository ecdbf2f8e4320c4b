-- What is false at a leaf, and what is told on the way along updates.
use Rattle.std.specs.Prelude.{◌≡◌, ◌⊎◌, ℕ, ◌<◌, ◌≤◌, true, false, List, [], ◌∷◌, ◌++◌, length, Some, slice_get}
use Rattle.bg_ast.specs.Values.{Val, Ty, val_eq, truth_of}
use Rattle.bg_ast.specs.Syntax.{Fun}
use Rattle.bg_sense.specs.Eval.{ev}
use Rattle.bg_terms.specs.Terms.{Term, over}
use Rattle.bg_terms.specs.Typed.{TermsTyped}
use Rattle.bg_terms.specs.Instances.{Instance, instance_ex}
use Rattle.bg_numbered.specs.Lines.{Says, HaveIndices, is_within}
use Rattle.bg_term_table.specs.declared.line.Line as code
use Rattle.bg_term_table.specs.Lines.{line_of}
use Rattle.bg_term_table.specs.Views.{terms_in}
use Rattle.bg_scalar.specs.declared.scalar.Scalar.{Scalar}
use Rattle.bg_scalar.specs.Values.{val_of}
use Rattle.bg_wanted.specs.Scalars.{scalars_in}
use Rattle.bg_wanted.specs.declared.class.Class.{Class}
use Rattle.bg_wanted.specs.declared.class.Class.TheVariants as class
use Rattle.bg_wanted.specs.declared.looked.Update.{Update}
use Rattle.bg_wanted.specs.declared.false_here.Selected.{Selected}
use Rattle.bg_wanted.specs.declared.way.Sighted.{Sighted}
use Rattle.bg_wanted.specs.declared.way.Way.{Way}
use Rattle.bg_wanted.specs.Rows.{RowOf, rows_of, AreRows}
use Rattle.bg_wanted.specs.Firsts.{key_of}
use Rattle.bg_wanted.specs.Asked.{IsOf}
use Rattle.bg_wanted.specs.Wanting.{Each}
use Rattle.bg_wanted.specs.Telling.{AreTold}

-- ---- rows of selects

-- the select of such maps with these arguments and this scalar
pub record IsSelect (number : ℕ) (c : Class) (args : List Scalar) (value : Scalar) (x : Selected) : Type 0 where
  pub its_number : x.number ≡ number
  pub its_class : c ≡ class.Select x.maps
  pub its_args : args ≡ x.map ∷ x.index.now
  pub its_value : value ≡ x.value

-- a select is that of a row
pub record IsSelectAt (rs : List RowOf) (x : Selected) : Type 0 where
  pub row : RowOf
  pub is_there : slice_get rs x.number ≡ Some row
  pub its_class : row.class ≡ class.Select x.maps
  pub its_args : row.args ≡ x.map ∷ x.index.now
  pub its_value : row.value ≡ x.value

-- ---- what is false of rows

-- a select of an update at its index that hasn't its new value
pub record IsNewWrong (u : Update) (x : Selected) : Type 0 where
  pub maps : x.maps ≡ u.maps
  pub map : x.map ≡ u.value
  pub index : x.index.now ≡ u.index.now
  pub differ : val_eq (val_of x.value) (val_of u.new) ≡ false

-- selects of an update and of its map at one other index that differ
pub record IsOldWrong (u : Update) (x y : Selected) : Type 0 where
  pub maps : x.maps ≡ u.maps
  pub other_maps : y.maps ≡ u.maps
  pub map : x.map ≡ u.value
  pub before : y.map ≡ u.before
  pub off : x.index.now ≡ u.index.now → ⊥
  pub index : x.index.now ≡ y.index.now
  pub differ : val_eq (val_of x.value) (val_of y.value) ≡ false

-- the same of the rows at these places
pub record IsNewLost (rs : List RowOf) (u s : ℕ) : Type 0 where
  pub update : Update
  pub select : Selected
  pub its_update : IsOf rs update
  pub its_select : IsSelectAt rs select
  pub first : update.number ≡ u
  pub second : select.number ≡ s
  pub wrong : IsNewWrong update select

pub record IsOldLost (rs : List RowOf) (u s r : ℕ) : Type 0 where
  pub update : Update
  pub select : Selected
  pub another : Selected
  pub its_update : IsOf rs update
  pub its_select : IsSelectAt rs select
  pub its_other : IsSelectAt rs another
  pub first : update.number ≡ u
  pub second : select.number ≡ s
  pub third : another.number ≡ r
  pub wrong : IsOldWrong update select another

-- rows of one key that differ
abbrev pub AreWrong : RowOf → RowOf → Type 0
AreWrong r q = (key_of r ≡ key_of q) × (val_eq (val_of r.value) (val_of q.value) ≡ false)

pub record IsPairLost (rs : List RowOf) (a b : ℕ) : Type 0 where
  pub one : RowOf
  pub other : RowOf
  pub first : slice_get rs a ≡ Some one
  pub second : slice_get rs b ≡ Some other
  pub wrong : AreWrong one other

-- ---- what is told

-- an instance of terms that are there, which is false at the leaf, whatever comes in behind them
pub record IsLost (s : List Val) (n : ℕ) (ts : List Term) (l : code.Line) : Type 0 where
  pub says : Instance
  pub is : line_of l ≡ Says says
  pub within : is_within (length ts) says ≡ true
  pub wrong : (us : List Term) → truth_of (ev (instance_ex n (ts ++ us) says) (over s)) ≡ false

-- typed terms with their rows
pub record IsSighted (fs : List Fun) (incs : List Ty) (x : Sighted) : Type 0 where
  pub count : x.count ≡ length incs
  pub terms : TermsTyped fs incs (terms_in fs x.terms.now)
  pub indexed : HaveIndices (terms_in fs x.terms.now)
  pub rows : AreRows x.values.now (length incs) (terms_in fs x.terms.now) 0 (terms_in fs x.terms.now) (rows_of x.rows.now)

abbrev pub AreLost : List Fun → List Ty → Sighted → List code.Line → Type 0
AreLost fs incs x ls = Each (IsLost (scalars_in x.values.now) (length incs) (terms_in fs x.terms.now)) ls

-- what is false, and what comes in, with some terms that aren't named yet
abbrev pub IsWay : List Fun → List Ty → Sighted → Way → List ℕ → Type 0
IsWay fs incs x w loose = AreLost fs incs x w.lost.items × AreTold incs (terms_in fs x.terms.now) w.wants loose

-- so it stays
abbrev pub Keeps : Sighted → Way → Way → Type 0
Keeps x old new = (fs : List Fun) (incs : List Ty) → IsSighted fs incs x → IsWay fs incs x old [] → IsWay fs incs x new []

abbrev pub KeepsLost : Sighted → List code.Line → List code.Line → Type 0
KeepsLost x old new = (fs : List Fun) (incs : List Ty) → IsSighted fs incs x → AreLost fs incs x old → AreLost fs incs x new

-- a select that is there, or comes in
abbrev pub Comes : List Fun → List Ty → Sighted → Way → ℕ → Type 0
Comes fs incs x w r =
    ((r < length (terms_in fs x.terms.now)) × IsWay fs incs x w [])
    ⊎ ((length (terms_in fs x.terms.now) ≤ r) × ((r < w.wants.next) × IsWay fs incs x w (r ∷ [])))
