-- Leaves over terms that stand behind those of the blocks.
use Rattle.std.proofs.Common.{◌≡◌, ℕ, Bool, true, false, List, ◌++◌, length, map, sym, subst}
use Rattle.std.specs.Prelude.{slice_get}
use Rattle.bg_ast.specs.Values.{Val, Ty}
use Rattle.bg_ast.specs.Syntax.{Ex, Prog}
use Rattle.bg_ast.specs.Execution.{Interp, Spot}
use Rattle.bg_sense.specs.Types.{are_of}
use Rattle.bg_passive.specs.Passive.{PassiveBlock}
use Rattle.bg_passive.specs.Incarnations.{passive_scope}
use Rattle.bg_passive.specs.Equations.{is_well, equations}
use Rattle.bg_terms.specs.Terms.{Head, Term, IsModel, over}
use Rattle.bg_terms.specs.Alike.{scalar_ty}
use Rattle.bg_terms.specs.Closed.{IsFinished}
use Rattle.bg_terms.specs.Tables.{IsReadOff}
use Rattle.bg_terms.specs.Typed.{TermsTyped, types_with}
use Rattle.bg_flat.specs.Blocks.{FlatBlocks, in_front}
use Rattle.bg_read_off.specs.Leaves.{AreBuilt}

module _ (p : Prog) (i : Interp) (defaults : Head → Val) (incs : List Ty) (ts : List Term) (s w values : List Val) (set : ℕ → Bool) (target : Spot) (front : List Ex) (blocks flat : List PassiveBlock) where
  -- a finished leaf over these terms fails
  abbrev FailOver : List Term → Type 0
  FailOver all =
      TermsTyped p.functions incs all → are_of (map scalar_ty (types_with incs all)) s ≡ true →
      IsFinished s (length incs) all (types_with incs all) → AreBuilt (length incs) all (types_with incs all) s w →
      IsReadOff i defaults w (length incs) all → FlatBlocks (types_with incs ts) (length incs) ts blocks flat →
      is_well (slice_get (equations set target (over s) (in_front front flat)) 0) ≡ false →
      is_well (slice_get (equations set target (passive_scope p i values) blocks) 0) ≡ false

  pub fail_over : ((us : List Term) → FailOver (ts ++ us)) → (all us : List Term) → all ≡ ts ++ us → FailOver all
  fail_over law all us e = subst FailOver (sym e) (law us)

module _ (p : Prog) (i : Interp) (defaults : Head → Val) (incs : List Ty) (ts : List Term) (s w : List Val) where
  -- at a finished leaf over these terms the first ones are worth what they mean
  abbrev ModelOver : List Term → Type 0
  ModelOver all =
      TermsTyped p.functions incs all → are_of (map scalar_ty (types_with incs all)) s ≡ true →
      AreBuilt (length incs) all (types_with incs all) s w → IsFinished s (length incs) all (types_with incs all) →
      IsReadOff i defaults w (length incs) all → IsModel i w (length incs) ts

  pub model_over : ((us : List Term) → ModelOver (ts ++ us)) → (all us : List Term) → all ≡ ts ++ us → ModelOver all
  model_over law all us e = subst ModelOver (sym e) (law us)
