-- From a complete leaf to a run that fails.
use Rattle.std.proofs.Common.{◌≡◌, ℕ, ◌+◌, ℤ, Bool, true, false, List, [], ◌∷◌, ◌++◌, length, take, map, Option, Some, None, refl, sym, ap, ◌∙◌, subst}
use Rattle.std.specs.Prelude.{not, slice_get, Contains}
use Rattle.std.proofs.lemmas.Option.{unwrap_or-slice_get}
use Rattle.std.proofs.lemmas.List.{length-map, take-map}
use Rattle.bg_ast.specs.Values.{Val, Ty, Table, BoolTy, truth_of}
use Rattle.bg_ast.specs.Syntax.{Ex}
use Rattle.bg_ast.specs.Syntax as s
use Rattle.bg_ast.specs.Resolved as r
use Rattle.bg_ast.specs.Meaning.{meaning_of}
use Rattle.bg_ast.specs.Execution.{Interp, Spot, Place}
use Rattle.bg_sense.specs.Types.{are_of}
use Rattle.bg_sense.specs.Flow.{Failed}
use Rattle.bg_sense.specs.Context.{Turning}
use Rattle.bg_sense.specs.Run.{induction_run}
use Rattle.bg_sense.specs.Clauses.{is_kept}
use Rattle.bg_sense.specs.Places.{places}
use Rattle.bg_sense.specs.Claims.{IsState, Fails}
use Rattle.bg_sense.specs.Eval.{ev}
use Rattle.bg_sense.specs.Variables.{procedure_of}
use Rattle.bg_sense.specs.Typed.{IsTyped}
use Rattle.bg_flow.specs.Core.{frame_decls}
use Rattle.bg_passive.specs.Passive.{Walked}
use Rattle.bg_passive.specs.Incarnations.{passives, MakesPassive, first_state, passive_scope}
use Rattle.bg_passive.specs.Equations.{is_well}
use Rattle.bg_block_types.specs.Typed.{blocks_in, arrivals_in, incarnations_in, passives_in}
use Rattle.bg_formula.specs.Atoms.{IsTruth, at}
use Rattle.bg_formula.specs.Formulas.{Formula, is_whole}
use Rattle.bg_formula.specs.Meaning.{Valuation, AtomsAgree, clauses_true}
use Rattle.bg_cert.specs.Walks.{has}
use Rattle.bg_tree.specs.declared.outcome.Leaf.{Leaf}
use Rattle.bg_tree.specs.Ends.{IsLeaf}
use Rattle.bg_blocks.specs.declared.block.Block.{Block}
use Rattle.bg_blocks.specs.Views.{block_of}
use Rattle.bg_forms.specs.Worth.{bools_at}
use Rattle.bg_formed.specs.Agree.{RowsAgree}
use Rattle.bg_formed.specs.Formed.{FormCmd, FormBlock}
use Rattle.bg_formed.specs.Said.{SaidBlocks}
use Rattle.bg_formed.specs.Used.{refused}
use Rattle.bg_formed.specs.Wells.{form_equations}
use Rattle.bg_clause.specs.Tables.{there_in}
use Rattle.bg_clause.specs.Valued.{worth_in}
use Rattle.bg_kinds.specs.declared.kinds.ValueType.{ValueType}
use Rattle.bg_kinds.specs.Views.{ref_in}
use Rattle.bg_fits.specs.Valued.{is_over_values}
use Rattle.bg_linear.specs.declared.scalar.Sort.{Sort}
use Rattle.bg_atoms.specs.Ranks.{rank}
use Rattle.bg_faithful.specs.Checks.{BlocksPlaced}
use Rattle.bg_faithful.specs.Encoded.{Encoding, Encodes}
use Rattle.bg_numbered.specs.Lines.{Line, instances_in}
use Rattle.bg_terms.specs.Terms.{Term, IsModel, over}
use Rattle.bg_terms.specs.Alike.{StandFor, scalar_ty}
use Rattle.bg_terms.specs.Closed.{IsFinished}
use Rattle.bg_terms.specs.Instances.{Instance, instance_ex}
use Rattle.bg_terms.specs.Typed.{type_of}
use Rattle.bg_flat.specs.Blocks.{IsFlatTruth, FlatBlocks, in_front}
use Rattle.bg_flat.specs.Fronts.{stated}
use Rattle.bg_finish.specs.Finished.{AreReadOff}
use Rattle.bg_termed.specs.Termed.{IsTabled, count_in, terms_in, flats_in}
use Rattle.bg_termed.specs.Lined.{HasFlats, lined_terms, lined_types, lined_sorts}
use Rattle.bg_scalar.specs.Views as view
use Rattle.bg_scalar.specs.Views.{tables_in}
use Rattle.bg_scalar.specs.Choices.{choice_of, state_of}
use Rattle.bg_model.specs.Behind.{behind_front}
use Rattle.bg_model.specs.Interps.{interp_of}
use Rattle.bg_model.specs.Over.{walk_over}
use Rattle.bg_model.specs.Turns.{turns, taken}
use Rattle.bg_model.specs.Views.{set_of}
use Rattle.bg_model.specs.declared.failure.Counterexample.{Counterexample}
use Rattle.bg_model.specs.Counterexamples.{is_denied, SetUp, IsCounterexample, AreTyped, IsTold}
use Rattle.bg_task.specs.declared.cut.Cut.{Cut}
use Rattle.bg_task.specs.declared.prepared.Prepared.{Prepared}
use Rattle.bg_task.specs.Prepared.{IsPrepared}
use Rattle.bg_task.specs.Slices.{IsSliceFor, encoding_in}
use Rattle.bg_task.specs.Made.{ClausesOf}
use Rattle.bg_task.specs.Asked.{IsAsked}
use Rattle.bg_check.specs.Verdicts.{IsFailure, HasTypes}
use Rattle.bg_check.proofs.LawTypes.{WholeLaw, StandInLaw, FirstLaw, StartLaw, MeetLaw, HoldLaw, TermLaw, OwnLaw, FlatLaw, AlikeLaw, StandLaw, ModelLaw, DeniedLaw, WithinLaw, RowsLaw, SpotLaw, CheckLaw}
use Rattle.bg_task.proofs.LawTypes.{BodyLaw, FitLaw, UnitAtomLaw, NamedUnitLaw, TabledLaw}
use Rattle.bg_task.proofs.Formulas.{IsPlainFormula, plain_formula, plain_agree, own_number, unit_met}
use Rattle.bg_check.proofs.Alike.{blocks_kept, blocks_fewer}
use Rattle.bg_check.specs.Leaves.{leaf_number}
use Rattle.bg_check.specs.LeafRuns.{leaf_bools, leaf_vals, vals_in, incarnation_vals, IsBuilt, HasLeaf, targets_for}
use Rattle.bg_check.proofs.Unnamed.{LeavesMet, UnitsMet, SignsMet}
use Rattle.bg_check.proofs.Worths.{leaf_valuation, truths_agree, worths_are}
use Rattle.bg_check.proofs.Firsts.{first_at}
use Rattle.bg_check.proofs.Saying.{said_alike, denied_behind, none_behind, below_behind}
use Rattle.bg_task.proofs.Prepares.{impl, proc, impl_at, proc_at, frame_long, blocks_are, firsts_are, clauses_here}

-- a set as a list, by either reading
pub set_same : (bs : List Bool) → set_of bs ≡ has bs
set_same bs = λ i b. unwrap_or-slice_get bs b false i

first_so_many : {A : Type 0} (xs ys : List A) → take (length xs) (xs ++ ys) ≡ xs
first_so_many [] ys = refl
first_so_many (x ∷ xs) ys = ap (λ zs. x ∷ zs) (first_so_many xs ys)

-- what the laws say from which a leaf gives a run
pub record LeafLaws : Type 0 where
  pub bodies : BodyLaw
  pub fits : FitLaw
  pub whole : WholeLaw
  pub stand_ins : StandInLaw
  pub first : FirstLaw
  pub starts : StartLaw
  pub meets : MeetLaw
  pub holds : HoldLaw
  pub denies : DeniedLaw
  pub within : WithinLaw
  pub rows : RowsLaw
  pub units_own : UnitAtomLaw
  pub units_named : NamedUnitLaw
  pub leaves : LeavesMet
  pub units : UnitsMet
  pub signs : SignsMet
  pub own_spots : SpotLaw
  pub checks : CheckLaw
  pub tabled : TabledLaw
  pub terms : TermLaw
  pub own : OwnLaw
  pub flat : FlatLaw
  pub alike : AlikeLaw
  pub stands : StandLaw
  pub models : ModelLaw

module _ (laws : LeafLaws) (p : r.Program) (n : ℕ) (w : Prepared) (h : IsPrepared p n w) (t : IsTyped (meaning_of p)) (o : is_over_values (meaning_of p) ≡ true) where
  abbrev P : s.Prog
  P = meaning_of p

  abbrev M : s.Impl
  M = impl p n w h

  abbrev Q : s.Proc
  Q = proc p n w h

  abbrev N : ℕ
  N = count_in P n M Q

  abbrev TS : List Term
  TS = terms_in P n M Q

  im : slice_get P.implementations n ≡ Some M
  im = impl_at p n w h

  pr : procedure_of P M.procedure ≡ Some Q
  pr = proc_at p n w h

  tabled_here : IsTabled P
  tabled_here = laws.tabled P t o

  flattened : HasFlats P n M Q
  flattened = laws.terms P n M Q t o im pr

  module _ (es : List Line) (spot : Spot) (candidate : Option ℕ) (cuts : Cut) (cut : IsSliceFor p n w es spot cuts) (f : Formula) (set : List Bool) (leaf : Leaf) (made : ClausesOf cuts (record { implementation = n; spot = spot; candidate = candidate }) f) (is_leaf : IsLeaf (targets_for P n M Q) f (has set) leaf) (asked : IsAsked P (has set) (record { implementation = n; spot = spot; candidate = candidate })) where
    abbrev A : Encoding
    A = encoding_in cuts

    abbrev E : List Instance
    E = instances_in es

    -- terms with those that the lines bring, their types, and the sorts of what stands for their values
    abbrev LT : List Term
    LT = lined_terms P n M Q es

    abbrev tys : List Ty
    tys = lined_types P n M Q es

    abbrev S : List Sort
    S = lined_sorts P n M Q es

    abbrev F : List Ex
    F = stated N LT E

    encoding : Encodes S P.candidates (in_front F (flats_in P n M Q)) A
    encoding = cut.encoding h

    -- the flat blocks are of these types
    flats_here : FlatBlocks tys N TS (passives_in P n M Q) (flats_in P n M Q)
    flats_here = laws.own P n M Q flattened es

    plain : IsPlainFormula A.first A.rows f
    plain = plain_formula A.first A.terms A.named A.rows spot A.blocks f made

    own : (a x : ℕ) → at f.atoms a ≡ Some (IsTruth x) → x ≡ a
    own = own_number A.first A.rows f encoding.rows plain

    agree : AtomsAgree f.atoms
    agree = plain_agree A.first A.rows f encoding.denials plain

    -- the targets, the numbers of the leaf, and what it makes of the atoms
    abbrev G : ℕ → ℤ
    G = targets_for P n M Q

    abbrev numbers : ℕ → ℤ
    numbers = leaf_number G f.atoms leaf.spots.items

    abbrev V : Valuation
    V = leaf_valuation G f leaf

    abbrev T : ℕ → Bool
    T = bools_at (leaf_bools f leaf)

    is_whole_here : is_whole f ≡ true
    is_whole_here = laws.whole S P.candidates (in_front F (flats_in P n M Q)) A spot f encoding made

    is_met : clauses_true V f.atoms f.clauses ≡ true
    is_met =
        laws.leaves G f (has set) leaf V is_whole_here agree is_leaf (λ x. refl) (truths_agree G f leaf own is_leaf.once)

    worths : worth_in V f.atoms ≡ T
    worths = worths_are laws.signs G f (has set) leaf agree is_leaf own

    -- named members of the set are there
    members : (b : ℕ) → bools_at A.named b ≡ true → set_of set b ≡ true → there_in f.candidates V.truths b ≡ true
    members b l s =
        unit_met f A.named (laws.units_own A.first A.terms A.named A.rows spot A.blocks f made) (laws.units_named A.first A.terms A.named A.rows spot A.blocks f made) V (has set) (laws.units G f (has set) leaf V is_whole_here agree is_leaf (λ x. refl) (truths_agree G f leaf own is_leaf.once)) b l (sym (ap (λ x. x b) (set_same set)) ∙ s)

    -- the check of the place is there under the set
    kept : (u : Place) → Contains (places P) u → u.spot ≡ spot → is_kept (set_of set) u.candidate ≡ true
    kept u mem e =
        ap (λ x. is_kept x u.candidate) (set_same set)
        ∙ (ap (is_kept (has set)) (laws.own_spots P u (record { implementation = n; spot = spot; candidate = candidate }) asked.resolved mem asked.is_place e) ∙ asked.kept)

    -- ---- the values of incarnations and terms

    -- what stands for them
    abbrev Z : List Val
    Z = leaf_vals G f leaf S

    abbrev X : List Val
    X = vals_in P n M Q es f leaf

    abbrev Y : List Val
    Y = incarnation_vals P n M Q es f leaf

    stand_ins : are_of (map scalar_ty tys) Z ≡ true
    stand_ins = laws.stand_ins P n M Q es numbers (λ j. T (rank S j))

    typed : are_of (incarnations_in P n M Q) Y ≡ true
    typed = laws.first P n M Q es numbers (λ j. T (rank S j))

    -- what is made of the implementation, with these values
    set_up : SetUp P (map (block_of p) w.blocks.items) w.frame w.firsts.items Y n M Q (first_state P (frame_decls M Q) Y) (arrivals_in P n M Q).made (arrivals_in P n M Q).arrivals
    set_up =
        let a = arrivals_in P n M Q in
        let start = first_state P (frame_decls M Q) Y in
        let none : Interp = record { constants = []; tables = [] } in
        record {
          implementation = im;
          procedure = pr;
          blocks = blocks_are p n w h;
          frame_size = frame_long p n w h;
          firsts = firsts_are p n w h;
          suited =
              subst (MakesPassive P (frame_decls M Q) a.made a.arrivals) (sym (blocks_are p n w h)) (laws.fits P (λ b. false) none n M Q start (laws.bodies Turning P (λ b. false) none n M Q start t im pr));
          values = record { typed = typed; first = refl };
        }

    -- the forms say what the flat blocks say over what stands for the values
    said_flat : SaidBlocks T (over Z) (in_front F (flats_in P n M Q)) A.blocks
    said_flat =
        let r = laws.rows A.first A.terms A.named A.rows spot A.blocks f made encoding.below V encoding.rows in
        let agrees = subst (λ (u : ℕ → Bool). RowsAgree numbers u A.first A.rows) worths r in
        encoding.said numbers T (over Z) agrees (laws.holds S numbers (λ j. T (rank S j)))

    abbrev B : List FormBlock
    B = behind_front (length E) A.blocks

    -- as many stand in front as there are instances
    many : length F ≡ length E
    many = length-map E (instance_ex N LT)

    none_refused : refused spot B ≡ None
    none_refused =
        subst (λ j. refused spot (behind_front j A.blocks) ≡ None) many
        (none_behind spot T (over Z) F (flats_in P n M Q) A.blocks said_flat (laws.within A.first A.terms A.named A.rows spot A.blocks f made))

    -- ---- under an interpretation that is read off

    module _ (finished : IsFinished Z N LT tys) (i : Interp) (off : AreReadOff P.functions N LT X i.tables) where
      stand : StandFor tys X Z
      stand = laws.stands P n M Q flattened es Z stand_ins finished

      model : IsModel i X N TS
      model = laws.models P n M Q flattened es Z stand_ins finished i (off.read_off i refl)

      same : (e x : Ex) → IsFlatTruth tys N TS e x → truth_of (ev x (over Z)) ≡ truth_of (ev e (passive_scope P i Y))
      same e x g =
          ap truth_of (laws.alike tys X Z x BoolTy stand g.1 refl ∙ laws.flat i N (length P.functions) P.functions TS X Y e x tabled_here.bodies model (λ j l. first_at N X j l) g.0)

      said : SaidBlocks T (passive_scope P i Y) (passives (arrivals_in P n M Q).arrivals (map (block_of p) w.blocks.items)) B
      said =
          let all = said_alike tys N TS T (passive_scope P i Y) (over Z) same F (passives_in P n M Q) (flats_in P n M Q) A.blocks flats_here said_flat in
          let x = subst (λ j. SaidBlocks T (passive_scope P i Y) (passives_in P n M Q) (behind_front j A.blocks)) many all in
          subst (λ bs. SaidBlocks T (passive_scope P i Y) (passives (arrivals_in P n M Q).arrivals bs) B) (sym (blocks_are p n w h)) x

      -- the equations of the forms deny the entry
      denied : is_denied (set_of set) spot T B ≡ true
      denied =
          let d = laws.denies A.first A.terms A.named A.rows spot A.blocks f made encoding.below V is_met in
          let e = subst (λ (u : ℕ → Bool). is_well (slice_get (form_equations (there_in f.candidates V.truths) spot u A.blocks) 0) ≡ false) worths d in
          let g = subst (λ j. is_well (slice_get (form_equations (there_in f.candidates V.truths) spot T (behind_front j A.blocks)) 0) ≡ false) many
          (denied_behind (there_in f.candidates V.truths) spot T (over Z) F (flats_in P n M Q) A.blocks said_flat e) in
          let below = below_behind (A.first + length A.rows) (bools_at A.named) (length E) A.blocks encoding.below in
          let placed = subst (λ bs. BlocksPlaced P (passives (arrivals_in P n M Q).arrivals bs)) (sym (blocks_are p n w h)) (laws.checks P n M Q o im pr) in
          let there = blocks_kept P (set_of set) spot T (passive_scope P i Y) kept (passives (arrivals_in P n M Q).arrivals (map (block_of p) w.blocks.items)) B said placed in
          ap not (blocks_fewer (A.first + length A.rows) (bools_at A.named) (set_of set) (there_in f.candidates V.truths) members spot T B below there 0 g)

      failure : (cex : Counterexample) → interp_of cex ≡ i → IsCounterexample P (map (block_of p) w.blocks.items) w.frame w.firsts.items B (set_of set) spot T Y (tables_in cex.tables.items) cex → i.constants ≡ [] → IsFailure P (has set) (record { implementation = n; spot = spot; candidate = candidate }) cex
      failure cex is c none =
          let a = arrivals_in P n M Q in
          let start = first_state P (frame_decls M Q) Y in
          let same = c.starts n M Q start a.made a.arrivals set_up in
          let run = c.fails i n M Q start a.made a.arrivals set_up said none_refused in
          subst (λ j. Fails P (has set) (record { implementation = n; spot = spot; candidate = candidate }) j (state_of (view.vals_in cex.globals.items) (view.vals_in cex.frame.items)) (map choice_of cex.choices.items)) (sym is)
          (record {
            meets = laws.meets P i o none off.normal;
            state = subst (IsState P n) same (laws.starts P n M Q t o im pr Y typed);
            fails =
                subst (λ x. induction_run P x i n (state_of (view.vals_in cex.globals.items) (view.vals_in cex.frame.items)) (map choice_of cex.choices.items) ≡ Failed spot) (set_same set)
                (subst (λ x. induction_run P (set_of set) i n x (map choice_of cex.choices.items) ≡ Failed spot) same run);
          })

    abbrev W : (ℕ → Bool) → List FormCmd → Walked
    W x = walk_over x spot T

    abbrev place : Place
    place = record { implementation = n; spot = spot; candidate = candidate }

    -- it is the run of the leaf
    run_of_leaf : (cex : Counterexample) → IsFinished Z N LT tys → AreReadOff P.functions N LT X (interp_of cex).tables → IsCounterexample P (map (block_of p) w.blocks.items) w.frame w.firsts.items B (set_of set) spot T Y (tables_in cex.tables.items) cex → HasLeaf P (has set) place es cex
    run_of_leaf cex finished off c =
        let a = arrivals_in P n M Q in
        record {
          formula = f;
          is = clauses_here p n w h es spot candidate cuts f cut made;
          leaf = leaf;
          is_leaf = is_leaf;
          finished = finished;
          read_off = off;
          run =
              record {
                state = sym (c.starts n M Q (first_state P (frame_decls M Q) Y) a.made a.arrivals set_up);
                choices =
                    c.choices
                    ∙ ap (λ x. taken (W x) Y (map (block_of p) w.blocks.items) B w.firsts.items (turns (W x) B) 0) (set_same set)
                    ∙ ap (λ bs. taken (W (has set)) Y bs B w.firsts.items (turns (W (has set)) B) 0) (blocks_are p n w h)
                    ∙ ap (λ ns. taken (W (has set)) Y (blocks_in P n M Q) B ns (turns (W (has set)) B) 0) (firsts_are p n w h);
              };
        }

    -- a counterexample that is found is one, and the run of the leaf; and one is found
    abbrev pub IsRun : Option Counterexample → Type 0
    IsRun None = ⊥
    IsRun (Some cex) = HasLeaf P (has set) place es cex × (IsFailure P (has set) place cex × HasTypes cex)

    abbrev Told : List Block → List ℕ → List FormBlock → List Bool → List Val → List Table → Option Counterexample → Type 0
    Told bs ns forms ts vs tables got =
        IsTold (is_denied (set_of set) spot (bools_at ts) forms) got (IsCounterexample P (map (block_of p) bs) w.frame ns forms (set_of set) spot (bools_at ts) vs tables)

    -- the values of the incarnations are of their types
    first_of_types : (ks : List ValueType) (vs : List Val) → ks ≡ take w.count w.kinds.items → vs ≡ Y → are_of (map ref_in ks) vs ≡ true
    first_of_types ks vs e g =
        let incs = incarnations_in P n M Q in
        let is = ap (map ref_in) e ∙ (sym (take-map ref_in w.count w.kinds.items) ∙ (ap (λ k. take k (map ref_in w.kinds.items)) h.count ∙ (ap (take N) h.kinds ∙ first_so_many incs (map type_of TS)))) in
        subst (λ x. are_of (map ref_in ks) x ≡ true) (sym g) (subst (λ x. are_of x Y ≡ true) (sym is) typed)

    pub refutes : (tables : List Table) → IsBuilt P n M Q es f leaf X tables → (bs : List Block) (ns : List ℕ) (forms : List FormBlock) (ts : List Bool) (ks : List ValueType) (vs : List Val) (got : Option Counterexample) → bs ≡ w.blocks.items → ns ≡ w.firsts.items → forms ≡ B → ts ≡ leaf_bools f leaf → ks ≡ take w.count w.kinds.items → vs ≡ Y → Told bs ns forms ts vs tables got → (are_of (map ref_in ks) vs ≡ true → AreTyped got) → IsRun got
    refutes tables built bs ns forms ts ks vs got eb en ef et ek ev told types =
        on got (types (first_of_types ks vs ek ev)) (subst (λ x. Told x w.firsts.items B (leaf_bools f leaf) Y tables got) eb (subst (λ x. Told bs x B (leaf_bools f leaf) Y tables got) en (subst (λ x. Told bs ns x (leaf_bools f leaf) Y tables got) ef (subst (λ x. Told bs ns forms x Y tables got) et (subst (λ x. Told bs ns forms ts x tables got) ev told)))))
      where
        i : Interp
        i = record { constants = []; tables = tables }

        on : (x : Option Counterexample) → AreTyped x → Told w.blocks.items w.firsts.items B (leaf_bools f leaf) Y tables x → IsRun x
        on None y d =
            absurd (let bad : true ≡ false = sym (denied built.finished i built.read_off) ∙ d in let worse : ⊥ = cc in worse)
        on (Some cex) y d =
            let its = d.1.tables in
            let own = subst (λ ts. IsCounterexample P (map (block_of p) w.blocks.items) w.frame w.firsts.items B (set_of set) spot T Y ts cex) (sym its) d.1 in
            let is : interp_of cex ≡ i = ap (λ ts. record { constants = []; tables = ts }) its in
            (run_of_leaf cex built.finished (subst (λ ts. AreReadOff P.functions N LT X ts) (sym its) built.read_off) own, (failure built.finished i built.read_off cex is own refl, y))
