-- What is found is a counterexample.
use Rattle.std.proofs.Common.{◌≡◌, ℕ, Bool, true, List, length, map, Some, None, sym, ap, ◌∙◌, subst}
use Rattle.std.specs.Prelude.{slice_get}
use Rattle.bg_ast.specs.Values.{Val, Ty}
use Rattle.bg_ast.specs.Syntax.{Prog, Impl, Proc, Decl}
use Rattle.bg_ast.specs.Execution.{Interp, Choice, Spot, State}
use Rattle.bg_sense.specs.Eval.{value_at}
use Rattle.bg_sense.specs.Flow.{Failed}
use Rattle.bg_sense.specs.Variables.{count_from, procedure_of}
use Rattle.bg_sense.specs.Run.{induction_run}
use Rattle.bg_flow.specs.Core.{frame_decls, routine_of}
use Rattle.bg_flow.specs.Blocks.{Block, blocks_of}
use Rattle.bg_passive.specs.Incarnations.{Arrival, passives, MakesPassive, ValuesFrom, passive_scope}
use Rattle.bg_incarnate.specs.Walked.{next_in}
use Rattle.bg_formed.specs.Formed.{FormBlock}
use Rattle.bg_formed.specs.Said.{SaidBlocks}
use Rattle.bg_formed.specs.Used.{refused}
use Rattle.bg_scalar.specs.Choices.{state_of}
use Rattle.bg_model.specs.Over.{walk_over}
use Rattle.bg_model.specs.Turns.{fails, turns, taken}
use Rattle.bg_model.specs.Counterexamples.{SetUp}
use Rattle.bg_model.proofs.Fronts.{fronts_fail}
use Rattle.bg_model.proofs.Paths.{path, path_fails}
use Rattle.bg_model.proofs.Aligned.{taken_is}

-- ---- the state at entry

-- typed values begin with the state
pub starts_at : (p : Prog) (ds : List Decl) (others : List Ty) (s : State) (vs : List Val) (gs fs : List Val) (g f : ℕ) → ValuesFrom p ds others s vs → gs ≡ map (value_at vs) (count_from 0 g) → fs ≡ map (value_at vs) (count_from g f) → g ≡ length p.globals → length ds ≡ f → s ≡ state_of gs fs
starts_at p ds others s vs gs fs g f v eg ef h k =
    let x : gs ≡ map (value_at vs) (count_from 0 (length p.globals)) = eg ∙ ap (λ n. map (value_at vs) (count_from 0 n)) h in
    let y : fs ≡ map (value_at vs) (count_from (length p.globals) (length ds)) = ef ∙ (ap (λ n. map (value_at vs) (count_from n f)) h ∙ ap (λ n. map (value_at vs) (count_from (length p.globals) n)) (sym k)) in
    sym v.first
    ∙ (ap (λ l. state l (map (value_at vs) (count_from (length p.globals) (length ds)))) (sym x) ∙ ap (state gs) (sym y))
  where
    state : List Val → List Val → State
    state a b = record { globals = a; frame = b }

-- ---- the run

module _ (set w : ℕ → Bool) (t : Spot) (V : List Val) (p : Prog) (i : Interp) (k : ℕ) (m : Impl) (q : Proc) (s : State) (others : List Ty) (later : List Arrival) where
  -- the run fails by the choices that are taken
  taken_fails : slice_get p.implementations k ≡ Some m → procedure_of p m.procedure ≡ Some q → MakesPassive p (frame_decls m q) others later (blocks_of (routine_of p k m q)) → ValuesFrom p (frame_decls m q) others s V → (fs : List FormBlock) → SaidBlocks w (passive_scope p i V) (passives later (blocks_of (routine_of p k m q))) fs → refused t fs ≡ None → fails (slice_get (turns (walk_over set t w) fs) 0) ≡ true → induction_run p set i k s (taken (walk_over set t w) V (blocks_of (routine_of p k m q)) fs (map next_in later) (turns (walk_over set t w) fs) 0) ≡ Failed t
  taken_fails em eq f v fs said none x =
      let bs = blocks_of (routine_of p k m q) in
      let c = passive_scope p i V in
      let walk = path fs (turns (walk_over set t w) fs) 0 in
      ap (induction_run p set i k s) (taken_is set w t c V bs later fs said 0 x none)
      ∙ fronts_fail p set i k m q s em eq others t later f V v walk (path_fails set w t c (passives later bs) fs said 0 x none)

  pub fails_at : (bs : List Block) (frame : ℕ) (ns : List ℕ) (fs : List FormBlock) (cs : List Choice) → SetUp p bs frame ns V k m q s others later → SaidBlocks w (passive_scope p i V) (passives later bs) fs → refused t fs ≡ None → cs ≡ taken (walk_over set t w) V bs fs ns (turns (walk_over set t w) fs) 0 → fails (slice_get (turns (walk_over set t w) fs) 0) ≡ true → induction_run p set i k s cs ≡ Failed t
  fails_at bs frame ns fs cs u said none ec x =
      let way = walk_over set t w in
      let f = subst (λ (b : List Block). MakesPassive p (frame_decls m q) others later b) u.blocks u.suited in
      let same = subst (λ (b : List Block). SaidBlocks w (passive_scope p i V) (passives later b) fs) u.blocks said in
      ap (induction_run p set i k s) (ec
      ∙ (ap (λ b. taken way V b fs ns (turns way fs) 0) u.blocks
      ∙ ap (λ n. taken way V (blocks_of (routine_of p k m q)) fs n (turns way fs) 0) u.firsts))
      ∙ taken_fails u.implementation u.procedure f u.values fs same none x
