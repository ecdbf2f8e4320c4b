-- What a leaf comes to, over the numbers and truth values that stand for the values of incarnations and terms.
use Rattle.std.specs.Prelude.{◌≡◌, ℕ, true, List, length, map, IsTrue}
use Rattle.bg_ast.specs.Values as v
use Rattle.bg_ast.specs.Values.{Val, Ty}
use Rattle.bg_ast.specs.Syntax.{Fun}
use Rattle.bg_ast.specs.Execution.{Interp}
use Rattle.bg_sense.specs.Types.{are_of}
use Rattle.bg_sense.specs.Tables.{are_tables}
use Rattle.bg_terms.specs.Terms.{Term}
use Rattle.bg_terms.specs.Alike.{scalar_ty}
use Rattle.bg_terms.specs.Flat.{HaveNoBodies}
use Rattle.bg_terms.specs.Typed.{types_with}
use Rattle.bg_terms.specs.Tables.{IsReadOff}
use Rattle.bg_terms.specs.Closed.{IsFinished}
use Rattle.bg_numbered.specs.Fair.{FairTerms}
use Rattle.bg_numbered.specs.Lines.{HaveIndices}
use Rattle.bg_numbered.specs.Indexed.{are_indexed, GiveIndexed}
use Rattle.bg_read_off.specs.Leaves.{AreCongruent, silent}
use Rattle.bg_read_off.specs.Built.{built_all}
use Rattle.bg_term_table.specs.Lines.{lines_of}
use Rattle.bg_scalar.specs.Views.{vals_in, tables_in}
use Rattle.bg_wanted.specs.Rows.{LeavesFirst}
use Rattle.bg_wanted.specs.Wanting.{IsWanting}
use Rattle.bg_finish.specs.declared.kind.Finish.{Finish}
use Rattle.bg_finish.specs.declared.kind.Finish.TheVariants as come

-- functions have no body, each map among incarnations and in what functions give has an index, terms are fair, and these stand for values of
-- incarnations and terms
pub record IsScalarLeaf (fs : List Fun) (incs : List Ty) (ts : List Term) (s : List Val) : Type 0 where
  pub bodiless : HaveNoBodies fs
  pub gives : GiveIndexed fs
  pub incarnations : are_indexed incs ≡ true
  pub terms : FairTerms fs incs ts
  pub indexed : HaveIndices ts
  pub scalars : are_of (map scalar_ty (types_with incs ts)) s ≡ true

-- no congruence is false of these values; the tables are typed and in normal form, and what is read off the values
pub record AreReadOff (fs : List Fun) (n : ℕ) (ts : List Term) (w : List Val) (tables : List v.Table) : Type 0 where
  pub congruent : AreCongruent w n ts
  pub normal : IsTrue (are_tables fs tables)
  pub read_off : (i : Interp) → i.tables ≡ tables → IsReadOff i (silent fs) w n ts

-- the leaf is finished, these values are built for its scalars, and the tables are read off them
pub record AreFinal (fs : List Fun) (incs : List Ty) (ts : List Term) (s w : List Val) (tables : List v.Table) : Type 0 where
  pub finished : IsFinished s (length incs) ts (types_with incs ts)
  pub built : w ≡ built_all (length incs) ts (types_with incs ts) s
  pub read_off : AreReadOff fs (length incs) ts w tables

-- what a leaf comes to; of the values and tables that are guessed where it isn't finished nothing is known
abbrev pub IsFinish : List Fun → List Ty → List Term → List Val → Finish → Type 0
IsFinish fs incs ts s (come.Tables values made) = AreFinal fs incs ts s (vals_in values.items) (tables_in made.items)
IsFinish fs incs ts s (come.Lines made values tables) = IsWanting incs ts s (lines_of made.items)
IsFinish fs incs ts s (come.Leaves o) = LeavesFirst ts s o
IsFinish fs incs ts s come.NoScalars = ⊥
