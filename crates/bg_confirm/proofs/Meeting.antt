-- Values that meet the axioms, as the replay tells, are an interpretation that meets the program.
use Rattle.std.proofs.Common.{◌≡◌, ℕ, zero, suc, List, [], ◌∷◌, length, map, refl, ap, sym, ◌∙◌, subst}
use Rattle.std.specs.Prelude.{Option, Some, None, slice_get}
use Rattle.bg_ast.specs.Values.{Val}
use Rattle.bg_ast.specs.Syntax.{Ex, Fun}
use Rattle.bg_ast.specs.Resolved as r
use Rattle.bg_ast.specs.Meaning.{meaning_of}
use Rattle.bg_ast.specs.Execution.{Interp}
use Rattle.bg_sense.specs.Flow.{Answer, Failed}
use Rattle.bg_sense.specs.Interps.{Meets}
use Rattle.bg_sense.specs.Claims.{Fails}
use Rattle.bg_flow.specs.Core.{frame_decls}
use Rattle.bg_flow.proofs.BlockRuns.{blocks_same}
use Rattle.bg_block_types.specs.Typed.{blocks_in}
use Rattle.bg_sense.specs.Eval.{functions_of, functions_to, body_of, body_value}
use Rattle.bg_sense.specs.Types.{types_of}
use Rattle.bg_opened.specs.Programs.{bodiless}
use Rattle.bg_scalar.specs.Values.{MeanTables}
use Rattle.bg_scalar.specs.Choices.{state_of}
use Rattle.bg_replay.specs.Moments.{Around}
use Rattle.bg_replay.specs.Said.{Said, Stops}
use Rattle.bg_replay.specs.Endings.{moment_in}
use Rattle.bg_replay.proofs.Agreeing.{declares}
use Rattle.bg_replay.proofs.Running.{RunIs, runs_agree}
use Rattle.bg_opened.specs.Moments.{interp_in}
use Rattle.bg_opened.specs.Openable.{IsOpenable}
use Rattle.bg_opened.specs.Axioms.{of_axioms, axiom_place}
use Rattle.bg_opened.proofs.Whole.{meets}
use Rattle.bg_expanded.specs.Chains.{most_bodies}
use Rattle.bg_certtext.specs.Views.{InterpOf}
use Rattle.bg_confirm.specs.Met.{vals_for, axioms_of, constant_types, values_in, IsMet}
use Rattle.bg_confirm.specs.Accepted.{AreMet}

answer_is : (s : Said) (y x : Answer) → s ≡ Stops x → RunIs s y → y ≡ x
answer_is s y x e h = subst (λ t. RunIs t y) e h

-- functions without a body mean their tables
no_body : (fs : List Fun) (f : ℕ) → body_of (slice_get (map bodiless fs) f) ≡ None
no_body [] f = refl
no_body (x ∷ fs) zero = refl
no_body (x ∷ fs) (suc f) = no_body fs f

module _ (p : r.Program) (i : InterpOf) (h : IsMet p i) where
  abbrev xs : List Val
  xs = vals_for (constant_types p) (values_in i)

  -- the tables as an interpretation of the axioms' own program, which has no constants
  abbrev tabled : Interp
  tabled = record { constants = []; tables = h.tables }

  abbrev ds : List Rattle.bg_ast.specs.Syntax.Decl
  ds = frame_decls h.met.implementation h.met.procedure

  abbrev around : Around
  around =
      record {
        set = h.set;
        tables = h.tables;
        before = xs;
        globals = types_of (axioms_of p).globals;
        frame = types_of ds;
      }

  mean : MeanTables (functions_of (axioms_of p) tabled) h.tables
  mean f args =
      ap (λ (b : Option Ex). body_value b (functions_to (length (axioms_of p).functions) (axioms_of p).functions tabled) tabled f args) (no_body (meaning_of p).functions f)

  failing : Fails (axioms_of p) h.set axiom_place tabled (state_of xs []) []
  failing =
      record {
        meets = record { interp = record { constants = refl; tables = h.typed_tables }; unique = refl; axioms = refl };
        state = record { globals = h.normal; frame = refl };
        fails =
            sym (blocks_same (axioms_of p) h.set tabled 0 h.met.implementation h.met.procedure (state_of xs []) [] h.met.is_there h.met.is_its)
            ∙ answer_is _ _ (Failed axiom_place.spot) h.met.says
            (runs_agree (axioms_of p) tabled 0 ds around mean (declares (axioms_of p) tabled 0 ds around refl refl) 0 (blocks_in (axioms_of p) 0 h.met.implementation h.met.procedure) (moment_in xs [] []));
      }

  pub an_interpretation : IsOpenable most_bodies (meaning_of p) → (j : Interp) × Meets (meaning_of p) j
  an_interpretation o = (
    interp_in (of_axioms (meaning_of p)) tabled (state_of xs []),
    meets most_bodies (meaning_of p) o h.set tabled (state_of xs []) [] failing,
  )

-- the same of a certificate's interpretation
pub met_by : (p : r.Program) (o : Option InterpOf) → AreMet p o → IsOpenable most_bodies (meaning_of p) → (i : Interp) × Meets (meaning_of p) i
met_by p None h o = absurd h
met_by p (Some i) h o = an_interpretation p i h o
