-- A walk through passive blocks that fails at the target gives choices up to the check that fails, by which a run fails there.
use Rattle.std.proofs.Common.{◌≡◌, ℕ, zero, suc, Bool, true, false, List, [], ◌∷◌, ◌++◌, map, Some, refl, sym, ap, ◌∙◌, subst}
use Rattle.std.specs.Prelude.{◌||◌, if◌then◌else◌, slice_get}
use Rattle.bg_ast.specs.Values.{Val, Ty, truth_of}
use Rattle.bg_ast.specs.Syntax.{Var, Global, Local, Prog, Proc, Impl, Decl}
use Rattle.bg_sense.specs.Eval.{Scope, ev, evs, value_at}
use Rattle.bg_ast.specs.Execution.{Interp, Choice, Spot, State}
use Rattle.bg_sense.specs.Flow.{World, Failed, Flow, Next, and_then}
use Rattle.bg_sense.specs.Context.{Cut, Ctx, scope, callee_scope}
use Rattle.bg_sense.specs.Choices.{choose_all, forget_all}
use Rattle.bg_sense.specs.Variables.{put_all, type_in, decl_of, procedure_of}
use Rattle.bg_sense.specs.Run.{context, start, induction_run}
use Rattle.bg_sense.specs.Types.{are_of}
use Rattle.bg_flow.specs.Core.{Saying, Plan, Cmd, Check, Suppose, Forget, Put, Perform, Finish, check_these, suppose_these, perform, act, act_all, frame_decls, routine_of}
use Rattle.bg_flow.specs.Blocks.{Block, Table, at_table, enter, index, leave, table, blocks_of}
use Rattle.bg_passive.specs.Passive.{PassiveCmd, Walked, On, Stopped, Hit, is_absent, walk_cmds, walk_at, follow, walks}
use Rattle.bg_passive.specs.Incarnations.{Env, rename, hold_next, after_vars, after_exs, each_ex, each_decl, claims_in, supposes_in, set_to, pass_call, pass, pass_all, Arrival, edges, passives, FitsCmd, FitsCmds, FitsBlocks, MakesPassive, ValuesFrom, first_state, entry_env, ty_of, incarnations, passive_scope}
use Rattle.bg_passive.specs.ReadBack.{cmd_choices, choices_at, follow_choices}
use Rattle.bg_flow.proofs.CoreRuns.{then_assoc}
use Rattle.bg_flow.proofs.BlockRuns.{blocks_same}
use Rattle.bg_passive.proofs.Renaming.{values, seen, same_scopes, Met, met_scope, MetBy}
use Rattle.bg_passive.proofs.Walks.{Hits, hits_map, walk_hits, split_walk}
use Rattle.bg_passive.proofs.PassiveBackward.{with_choices, checks_back, sets_off, cmd_back, exit_back}
use Rattle.bg_model.specs.Fronts.{if_on}

-- the choices of commands up to the one that fails, by how a walk through the passive commands of each goes; `rest` where none fails
abbrev pub front_cmds : (List PassiveCmd → Walked) → List Val → List Cmd → Env → ℕ → List Choice → List Choice
front_cmds walked vs [] v n rest = rest
front_cmds walked vs (k ∷ ks) v n rest =
    if_on (walked (pass k v n).cmds) (cmd_choices k n vs ++ front_cmds walked vs ks (pass k v n).env (pass k v n).next rest)

-- the choices along a walk, from each block on
abbrev pub front_walks : (List PassiveCmd → Walked) → List Val → List Arrival → List Block → List (List ℕ → List Choice)
front_walks walked vs later [] = []
front_walks walked vs [] (b ∷ bs) = []
front_walks walked vs (a ∷ later) (b ∷ bs) =
    let behind = front_walks walked vs later bs in
    (λ walk. front_cmds walked vs b.cmds a.env a.next (follow_choices behind b.exit walk)) ∷ behind

-- what is supposed is no check
suppose_none : (x : Bool) (p : Walked) → (Hits p ⊥ → ⊥) → Hits (if x then p else Stopped) ⊥ → ⊥
suppose_none true p none h = none h
suppose_none false p none h = h

module _ (set : ℕ → Bool) (t : Spot) (s : Scope) where
  supposes_none : (v : Env) (ds : List Saying) → Hits (walk_cmds set t s (supposes_in v ds)) ⊥ → ⊥
  supposes_none v [] h = h
  supposes_none v (d ∷ ds) h =
      suppose_none (is_absent set d.candidate || truth_of (ev (rename d.says v) s)) (walk_cmds set t s (supposes_in v ds)) (supposes_none v ds) h

module _ (incs : List Ty) (c : Ctx) (t : Spot) (Tb : Table) where
  abbrev Fails : Flow → Type 0
  Fails f = enter Tb index f ≡ Failed t

  abbrev walk : List Val → List PassiveCmd → Walked
  walk V ks = walk_cmds c.set t (values c V) ks

  -- a call at whose precondition the walk fails takes no choices
  call_hit : (k : Plan) (v : Env) (n : ℕ) (w : World) (V : List Val) → Met c V v w.globals w.frame → (L : World → Flow) → Hits (walk V (pass_call k v n).cmds) ⊥ → Fails (and_then (perform c k (with_choices w [])) L)
  call_hit k v n w V m L x =
      ap (enter Tb index) (then_assoc (check_these c (callee_scope c w.globals args) k.needs w0) called L)
      ∙ checks_back incs c t Tb (callee_scope c w.globals args) vc k.needs w0 V (same_scopes c (map (value_at V) v.globals) w.globals (map (value_at V) v.globals) w.globals (map (value_at V) anums) args m.0 m.0 (x1.1 ∙ ap (evs k.args) (met_scope c V v w m))) (λ z. and_then (called z) L) ⊥ (λ r. absurd r) (hits_map (walk V claims) (Hits (walk V supposes) ⊥) ⊥ (supposes_none c.set t (values c V) vg k.gives) (split_walk c.set t (values c V) claims supposes ⊥ x1.0))
    where
      args : List Val
      args = evs k.args (scope c w)

      anums : List ℕ
      anums = each_ex n k.args

      n1 : ℕ
      n1 = after_exs k.args n

      w0 : World
      w0 = with_choices w []

      vc : Env
      vc = record { globals = v.globals; before = v.globals; frame = anums }

      vg : Env
      vg =
          record {
            globals = (hold_next k.modifies n1 v).globals;
            before = v.globals;
            frame = anums ++ each_decl (after_vars k.modifies n1) k.results;
          }

      claims : List PassiveCmd
      claims = claims_in vc k.needs

      supposes : List PassiveCmd
      supposes = supposes_in vg k.gives

      called : World → Flow
      called q =
          and_then (forget_all c k.modifies q) (λ u. choose_all k.results u (λ results t'. and_then (suppose_these c (callee_scope c q.globals (args ++ results)) k.gives t') (λ s. Next (put_all k.takes results s))))

      x1 : Hits (walk V (claims ++ supposes)) ⊥ × (map (value_at V) anums ≡ evs k.args (seen c V v))
      x1 =
          sets_off incs c t Tb V k.args n v (Hits (walk V (claims ++ supposes)) ⊥) (split_walk c.set t (values c V) (set_to n k.args v) (claims ++ supposes) ⊥ x)

  module _ (tys : Var → Ty) (same : (x : Var) → tys x ≡ type_in (decl_of c x)) (V : List Val) (h : are_of incs V ≡ true) where
    cmd_hit : (k : Cmd) (v : Env) (n : ℕ) (w : World) → FitsCmd incs tys k n → Met c V v w.globals w.frame → (L : World → Flow) → Hits (walk V (pass k v n).cmds) ⊥ → Fails (and_then (act c k (with_choices w [])) L)
    cmd_hit (Check ds) v n w f m L x = cmd_back incs c t Tb tys same (Check ds) v n w [] V f h m L ⊥ (λ r. absurd r) x
    cmd_hit (Suppose ds) v n w f m L x =
        cmd_back incs c t Tb tys same (Suppose ds) v n w [] V f h m L ⊥ (λ r. absurd r) x
    cmd_hit (Forget xs) v n w f m L x = absurd x
    cmd_hit (Put xs es) v n w f m L x =
        cmd_back incs c t Tb tys same (Put xs es) v n w [] V f h m L ⊥ (λ r. absurd r) x
    cmd_hit (Perform k) v n w f m L x = call_hit k v n w V m L x
    cmd_hit Finish v n w f m L x = absurd x

module _ (incs : List Ty) (c : Ctx) (t : Spot) (tys : Var → Ty) (same : (x : Var) → tys x ≡ type_in (decl_of c x)) (V : List Val) (h : are_of incs V ≡ true) where
  abbrev went : List PassiveCmd → Walked
  went ks = walk_cmds c.set t (values c V) ks

  abbrev ends : Table → Flow → Type 0
  ends Tb f = enter Tb index f ≡ Failed t

  cmds_front : (Tb : Table) (ks : List Cmd) (v : Env) (j : ℕ) (w : World) (rest : List Choice) → FitsCmds incs tys ks v j → Met c V v w.globals w.frame → (L : World → Flow) (R : Type 0) → (R → (u : World) → Met c V (pass_all ks v j).env u.globals u.frame → ends Tb (L (with_choices u rest))) → Hits (went (pass_all ks v j).cmds) R → ends Tb (and_then (act_all c ks (with_choices w (front_cmds went V ks v j rest))) L)
  cmds_front Tb [] v j w rest f met L R next x = next x w met
  cmds_front Tb (k ∷ ks) v j w rest f met L R next x =
      on (went (pass k v j).cmds) refl (split_walk c.set t (values c V) (pass k v j).cmds (pass_all ks (pass k v j).env (pass k v j).next).cmds R x) (λ z u m2. cmds_front Tb ks (pass k v j).env (pass k v j).next u rest f.1 m2 L R next z)
    where
      own : List Choice
      own = front_cmds went V ks (pass k v j).env (pass k v j).next rest

      Behind : Type 0
      Behind = Hits (went (pass_all ks (pass k v j).env (pass k v j).next).cmds) R

      on : (g : Walked) → went (pass k v j).cmds ≡ g → Hits g Behind → (Behind → (u : World) → Met c V (pass k v j).env u.globals u.frame → ends Tb (and_then (act_all c ks (with_choices u own)) L)) → ends Tb (and_then (act_all c (k ∷ ks) (with_choices w (if_on g (cmd_choices k j V ++ own)))) L)
      on On e y ih =
          ap (enter Tb index) (then_assoc (act c k (with_choices w (cmd_choices k j V ++ own))) (act_all c ks) L)
          ∙ cmd_back incs c t Tb tys same k v j w own V f.0 h met (λ u. and_then (act_all c ks u) L) Behind ih (subst (λ g. Hits g Behind) (sym e) y)
      on Stopped e y ih = absurd y
      on Hit e y ih =
          ap (enter Tb index) (then_assoc (act c k (with_choices w [])) (act_all c ks) L)
          ∙ cmd_hit incs c t Tb tys same V h k v j w f.0 met (λ u. and_then (act_all c ks u) L) (subst (λ g. Hits g ⊥) (sym e) tt)

  -- from each block on, by the choices up to the check that fails
  pub blocks_front : (bs : List Block) (later : List Arrival) → FitsBlocks incs tys later bs → (k : ℕ) (w : World) → MetBy c (slice_get later k) V w → (choices : List ℕ) → walk_at (slice_get (walks c.set t (values c V) (passives later bs)) k) choices ≡ true → at_table (table c [] bs) k (with_choices w (choices_at (slice_get (front_walks (walk_cmds c.set t (values c V)) V later bs) k) choices)) ≡ Failed t
  blocks_front [] later f k w met choices r = absurd (let bad : ⊥ = cc in bad)
  blocks_front (b ∷ bs) [] f k w met choices r = absurd f
  blocks_front (b ∷ bs) (a ∷ later) f zero w met choices r =
      let Tb = table c [] bs in
      let p = pass_all b.cmds a.env a.next in
      let pbs = passives later bs in
      let F = follow c.set t (values c V) (walks c.set t (values c V) pbs) (edges p.env later b.exit) in
      let behind = front_walks went V later bs in
      cmds_front Tb b.cmds a.env a.next w (follow_choices behind b.exit choices) f.1 met (leave c b.exit) (F choices ≡ true)
      (λ y u m2. exit_back incs c t Tb tys same later pbs V h behind (λ k' w' m' ch r'. blocks_front bs later f.3 k' w' m' ch r') b.exit p.env p.next u choices f.2 m2 y)
      (walk_hits (walk_cmds c.set t (values c V) p.cmds) F choices r)
  blocks_front (b ∷ bs) (a ∷ later) f (suc k) w met choices r = blocks_front bs later f.3 k w met choices r

module _ (p : Prog) (set : ℕ → Bool) (i : Interp) (k : ℕ) (m : Impl) (q : Proc) (s : State) (em : slice_get p.implementations k ≡ Some m) (eq : procedure_of p m.procedure ≡ Some q) where
  abbrev ds : List Decl
  ds = frame_decls m q

  abbrev c : Ctx
  c = context Cut p set i k m q s

  same : (x : Var) → ty_of p ds x ≡ type_in (decl_of c x)
  same (Global x) = refl
  same (Local x) = refl

  first_met : (V : List Val) → first_state p ds V ≡ s → Met c V (entry_env p ds) s.globals s.frame
  first_met V e = (ap (λ x. x.globals) e, ap (λ x. x.frame) e, ap (λ x. x.globals) e)

  -- the induction run fails by the choices up to the check that fails
  pub fronts_fail : (others : List Ty) (t : Spot) (later : List Arrival) → MakesPassive p ds others later (blocks_of (routine_of p k m q)) → (V : List Val) → ValuesFrom p ds others s V → (walk : List ℕ) → walk_at (slice_get (walks set t (passive_scope p i V) (passives later (blocks_of (routine_of p k m q)))) 0) walk ≡ true → induction_run p set i k s (choices_at (slice_get (front_walks (walk_cmds set t (passive_scope p i V)) V later (blocks_of (routine_of p k m q))) 0) walk) ≡ Failed t
  fronts_fail others t [] f V v walk x = absurd f.0
  fronts_fail others t (a ∷ later) f V v walk x =
      let bs = blocks_of (routine_of p k m q) in
      let met : Met c V a.env s.globals s.frame = subst (λ u. Met c V u s.globals s.frame) (sym f.0) (first_met V v.first) in
      sym (blocks_same p set i k m q s (choices_at (slice_get (front_walks (walk_cmds set t (passive_scope p i V)) V (a ∷ later) bs) 0) walk) em eq)
      ∙ blocks_front (incarnations p ds others) c t (ty_of p ds) same V v.typed bs (a ∷ later) f.1 0 (start s [] 0) met walk x
