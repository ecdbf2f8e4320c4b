-- Commands over incarnations are typed where the incarnations have the types of the variables.
use Rattle.std.proofs.Common.{◌≡◌, ℕ, zero, suc, Bool, true, false, List, [], ◌∷◌, ◌++◌, map, Option, Some, None, refl, sym, subst}
use Rattle.std.specs.Prelude.{◌≤◌, if◌then◌else◌, ◌==◌, slice_get, slice_set}
use Rattle.bg_ast.specs.Values.{Ty}
use Rattle.bg_ast.specs.Syntax.{Var, Global, Local, Exs, Read, Not, NoMore, More, Star, Test, Decl, Prog}
use Rattle.bg_sense.specs.Types.{types_of}
use Rattle.bg_sense.specs.Variables.{type_in}
use Rattle.bg_sense.specs.Typing.{Sig, HaveTypes}
use Rattle.bg_flow.specs.Core.{Demand, Saying, Cmd, Check, Suppose, Forget, Put, Perform, Finish}
use Rattle.bg_flow.specs.Blocks.{Exit, Leap, Either, Block}
use Rattle.bg_passive.specs.Passive.{PassiveCmd, Supposes}
use Rattle.bg_passive.specs.Incarnations.{Env, rename, hold, hold_all, hold_next, after_vars, after_exs, each_ex, each_decl, claims_in, supposes_in, is_worth, set_to, pass, pass_all, Arrival, joins, join_env, edge_to, edges, passives, ty_of, TypesFrom, FitsCmd, FitsCmds, ForBool, JoinsFit, after_joins, FitsJoin, FitEach, FitsBlocks, entry_env, TypedNums, EnvTyped, ArrivalsTyped, targets_of}
use Rattle.bg_block_types.specs.Typed.{sig_over, IsTruth, TypedCmds, TypedEdges, TypedBlocks}
use Rattle.bg_block_types.specs.TypedFlow.{sig_with, DemandsAreTyped, SayingsAreTyped, ExsAreTyped, CmdIsTyped, CmdsAreTyped, ExitIsTyped, CodeIsTyped}
use Rattle.bg_block_types.proofs.Renamed.{Holds, typed_on, linear_on, no_old, truth_on}

nums_append : (incs : List Ty) (is js : List ℕ) (ts us : List Ty) → TypedNums incs is ts → TypedNums incs js us → TypedNums incs (is ++ js) (ts ++ us)
nums_append incs [] js [] us h k = k
nums_append incs [] js (t ∷ ts) us h k = absurd h
nums_append incs (i ∷ is) js [] us h k = absurd h
nums_append incs (i ∷ is) js (t ∷ ts) us h k = (h.0, nums_append incs is js ts us h.1 k)

nums_set : (incs : List Ty) (ds : List Decl) (js : List ℕ) (x n : ℕ) → TypedNums incs js (types_of ds) → slice_get incs n ≡ Some (type_in (slice_get ds x)) → TypedNums incs (slice_set js x n) (types_of ds)
nums_set incs [] [] x n h e = tt
nums_set incs [] (j ∷ js) x n h e = absurd h
nums_set incs (d ∷ ds) [] x n h e = absurd h
nums_set incs (d ∷ ds) (j ∷ js) zero n h e = (e, h.1)
nums_set incs (d ∷ ds) (j ∷ js) (suc x) n h e = (h.0, nums_set incs ds js x n h.1 e)

exs_nums : (incs : List Ty) (es : Exs) (g : Sig) (n : ℕ) (ts : List Ty) → HaveTypes es g ts → TypesFrom incs n ts → TypedNums incs (each_ex n es) ts
exs_nums incs NoMore g n [] h f = tt
exs_nums incs NoMore g n (t ∷ ts) h f = absurd (let bad : ⊥ = cc in bad)
exs_nums incs (More e es) g n [] h f = absurd h
exs_nums incs (More e es) g n (t ∷ ts) h f = (f.0, exs_nums incs es g (suc n) ts h.1 f.1)

decls_nums : (incs : List Ty) (ds : List Decl) (n : ℕ) → TypesFrom incs n (types_of ds) → TypedNums incs (each_decl n ds) (types_of ds)
decls_nums incs [] n f = tt
decls_nums incs (d ∷ ds) n f = (f.0, decls_nums incs ds (suc n) f.1)

module _ (p : Prog) (ds : List Decl) (incs : List Ty) where
  abbrev gts : List Ty
  gts = types_of p.globals

  abbrev fts : List Ty
  fts = types_of ds

  abbrev tys : Var → Ty
  tys = ty_of p ds

  abbrev sig : Sig
  sig = sig_over p incs

  cmds_append : (ks ls : List PassiveCmd) → TypedCmds sig ks → TypedCmds sig ls → TypedCmds sig (ks ++ ls)
  cmds_append [] ls h k = k
  cmds_append (c ∷ ks) ls h k = (h.0, cmds_append ks ls h.1 k)

  claims_typed : (qs : List Demand) (us : List Ty) (v : Env) → Holds p incs gts us v → DemandsAreTyped (sig_with p gts us) qs → TypedCmds sig (claims_in v qs)
  claims_typed [] us v h g = tt
  claims_typed (d ∷ qs) us v h g = (truth_on p incs d.says gts us v h g.0, claims_typed qs us v h g.1)

  supposes_typed : (qs : List Saying) (us : List Ty) (v : Env) → Holds p incs gts us v → SayingsAreTyped (sig_with p gts us) qs → TypedCmds sig (supposes_in v qs)
  supposes_typed [] us v h g = tt
  supposes_typed (d ∷ qs) us v h g = (truth_on p incs d.says gts us v h g.0, supposes_typed qs us v h g.1)

  sets_typed : (es : Exs) (n : ℕ) (ts : List Ty) (v : Env) → Holds p incs gts fts v → ExsAreTyped (sig_with p gts fts) ts es → TypesFrom incs n ts → TypedCmds sig (set_to n es v)
  sets_typed NoMore n ts v h g f = tt
  sets_typed (More e es) n [] v h g f = absurd g.0
  sets_typed (More e es) n (t ∷ ts) v h g f =
      ((((refl, (t, f.0, typed_on p incs e gts fts v t h g.0.0)), (tt, tt, linear_on e v g.1.0)), (tt, no_old e v)), sets_typed es (suc n) ts v h (g.0.1, g.1.1) f.1)

  -- ---- commands keep the incarnations typed

  hold_typed : (x : Var) (n : ℕ) (v : Env) → EnvTyped incs p ds v → slice_get incs n ≡ Some (tys x) → EnvTyped incs p ds (hold x n v)
  hold_typed (Global x) n v h e = (nums_set incs p.globals v.globals x n h.0 e, h.1)
  hold_typed (Local x) n v h e = (h.0, (nums_set incs ds v.frame x n h.1.0 e, h.1.1))

  hold_all_typed : (xs : List Var) (js : List ℕ) (v : Env) → EnvTyped incs p ds v → TypedNums incs js (map tys xs) → EnvTyped incs p ds (hold_all xs js v)
  hold_all_typed [] js v h e = h
  hold_all_typed (x ∷ xs) [] v h e = h
  hold_all_typed (x ∷ xs) (j ∷ js) v h e = hold_all_typed xs js (hold x j v) (hold_typed x j v h e.0) e.1

  hold_next_typed : (xs : List Var) (n : ℕ) (v : Env) → EnvTyped incs p ds v → TypesFrom incs n (map tys xs) → EnvTyped incs p ds (hold_next xs n v)
  hold_next_typed [] n v h f = h
  hold_next_typed (x ∷ xs) n v h f = hold_next_typed xs (suc n) (hold x n v) (hold_typed x n v h f.0) f.1

  module _ (first : TypedNums incs (entry_env p ds).before gts) where
    holds : (v : Env) → EnvTyped incs p ds v → Holds p incs gts fts v
    holds v h = (h.0, (subst (λ js. TypedNums incs js gts) (sym h.1.1) first, h.1.0))

    pass_typed : (k : Cmd) (v : Env) (n : ℕ) → CmdIsTyped p ds k → FitsCmd incs tys k n → EnvTyped incs p ds v → TypedCmds sig (pass k v n).cmds × EnvTyped incs p ds (pass k v n).env
    pass_typed (Check qs) v n g f h = (claims_typed qs fts v (holds v h) g, h)
    pass_typed (Suppose qs) v n g f h = (supposes_typed qs fts v (holds v h) g, h)
    pass_typed (Forget xs) v n g f h = (tt, hold_next_typed xs n v h f)
    pass_typed (Put xs es) v n g f h =
        (sets_typed es n (map tys xs) v (holds v h) g f, hold_all_typed xs (each_ex n es) v h (exs_nums incs es (sig_with p gts fts) n (map tys xs) g.0 f))
    pass_typed (Perform k) v n g f h =
        let n1 = after_exs k.args n in
        let n2 = after_vars k.modifies n1 in
        let v2 = hold_next k.modifies n1 v in
        let h2 = hold_next_typed k.modifies n1 v h f.1 in
        let args = exs_nums incs k.args (sig_with p gts fts) n (types_of k.params) g.0.0 f.0 in
        let results = decls_nums incs k.results n2 f.2 in (
          cmds_append (set_to n k.args v) _ (sets_typed k.args n (types_of k.params) v (holds v h) g.0 f.0)
              (cmds_append (claims_in (record { globals = v.globals; before = v.globals; frame = each_ex n k.args }) k.needs) _ (claims_typed k.needs (types_of k.params) (record { globals = v.globals; before = v.globals; frame = each_ex n k.args }) (h.0, (h.0, args)) g.1.0)
              (supposes_typed k.gives (types_of k.params ++ types_of k.results) (record { globals = v2.globals; before = v.globals; frame = each_ex n k.args ++ each_decl n2 k.results }) (h2.0, (h.0, nums_append incs (each_ex n k.args) (each_decl n2 k.results) (types_of k.params) (types_of k.results) args results)) g.1.1.0)),
          hold_all_typed k.takes (each_decl n2 k.results) v2 h2 (subst (TypedNums incs (each_decl n2 k.results)) (sym g.1.1.1) results),
        )
    pass_typed Finish v n g f h = ((((refl, tt), tt), tt), h)

    all_typed : (ks : List Cmd) (v : Env) (n : ℕ) → CmdsAreTyped p ds ks → FitsCmds incs tys ks v n → EnvTyped incs p ds v → TypedCmds sig (pass_all ks v n).cmds × EnvTyped incs p ds (pass_all ks v n).env
    all_typed [] v n g f h = (tt, h)
    all_typed (k ∷ ks) v n g f h =
        let a = pass_typed k v n g.0 f.0 h in
        let b = all_typed ks (pass k v n).env (pass k v n).next g.1 f.1 a.1 in
        (cmds_append (pass k v n).cmds _ a.0 b.0, b.1)

    -- ---- ways on

    joins_typed : (m : ℕ) (is js : List ℕ) → JoinsFit incs m is js → TypedCmds sig (joins is js)
    joins_typed m [] js f = tt
    joins_typed m (i ∷ is) [] f = tt
    joins_typed m (i ∷ is) (j ∷ js) f = on (i == j) f (λ k x. joins_typed k is js x)
      where
        on : (b : Bool) → ForBool b (JoinsFit incs m is js) (m ≤ j × ((t : Ty) × ((slice_get incs i ≡ Some t) × (slice_get incs j ≡ Some t))) × JoinsFit incs (suc j) is js) → ((k : ℕ) → JoinsFit incs k is js → TypedCmds sig (joins is js)) → TypedCmds sig (if b then joins is js else is_worth j (Read (Local i)) ∷ joins is js)
        on true g k = k m g
        on false g k =
            ((((refl, (g.1.0, g.1.1.1, g.1.1.0)), (tt, tt, tt)), (tt, tt)), k (suc j) g.2)

    join_typed : (v : Env) (n : ℕ) (o : Option Arrival) → FitsJoin incs v n o → TypedCmds sig (join_env v o)
    join_typed v n None f = tt
    join_typed v n (Some a) f =
        cmds_append (joins v.globals a.env.globals) (joins v.frame a.env.frame) (joins_typed n v.globals a.env.globals f.2) (joins_typed (after_joins n v.globals a.env.globals) v.frame a.env.frame f.3)

    edge_typed : (v : Env) (n : ℕ) (later : List Arrival) (ks : List PassiveCmd) (k : ℕ) → TypedCmds sig ks → FitsJoin incs v n (slice_get later k) → TypedCmds sig (edge_to v later ks k).cmds
    edge_typed v n later ks k h f = cmds_append ks (join_env v (slice_get later k)) h (join_typed v n (slice_get later k) f)

    leaps_typed : (v : Env) (n : ℕ) (later : List Arrival) (ks : List ℕ) → FitEach incs v n later ks → TypedEdges sig (map (edge_to v later []) ks)
    leaps_typed v n later [] f = tt
    leaps_typed v n later (k ∷ ks) f = (edge_typed v n later [] k tt f.0, leaps_typed v n later ks f.1)

    edges_typed : (v : Env) (n : ℕ) (later : List Arrival) (b : Block) → EnvTyped incs p ds v → ExitIsTyped p ds b.exit → FitEach incs v n later (targets_of b.exit) → TypedEdges sig (edges v later b.exit)
    edges_typed v n later b h g f = on b.exit g f
      where
        on : (x : Exit) → ExitIsTyped p ds x → FitEach incs v n later (targets_of x) → TypedEdges sig (edges v later x)
        on (Leap []) g f = (edge_typed v n later [] 0 tt f.0, tt)
        on (Leap (k ∷ ks)) g f = leaps_typed v n later (k ∷ ks) f
        on (Either Star a z) g f = (edge_typed v n later [] a tt f.0, (edge_typed v n later [] z tt f.1.0, tt))
        on (Either (Test e) a z) g f =
            let e1 = truth_on p incs e gts fts v (holds v h) g in
            let e2 : IsTruth sig (Not (rename e v)) = (((refl, e1.0.0), e1.0.1), e1.1) in
            (edge_typed v n later (Supposes None (rename e v) ∷ []) a (e1, tt) f.0, (edge_typed v n later (Supposes None (Not (rename e v)) ∷ []) z (e2, tt) f.1.0, tt))

    pub blocks_typed : (later : List Arrival) (bs : List Block) → FitsBlocks incs tys later bs → ArrivalsTyped incs p ds later → CodeIsTyped p ds bs → TypedBlocks sig (passives later bs)
    blocks_typed later [] f h g = tt
    blocks_typed [] (b ∷ bs) f h g = absurd f
    blocks_typed (a ∷ later) (b ∷ bs) f h g =
        let x = all_typed b.cmds a.env a.next g.0.0 f.1 h.0 in
        ((x.0, edges_typed (pass_all b.cmds a.env a.next).env (pass_all b.cmds a.env a.next).next later b x.1 g.0.1 f.2), blocks_typed later bs f.3 h.1 g.1)
