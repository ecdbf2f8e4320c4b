-- A run of blocks that fails at the target gives values of the incarnations, under which a walk fails there.
use Rattle.std.proofs.Common.{◌≡◌, ℕ, zero, suc, Bool, true, false, List, [], ◌∷◌, ◌++◌, length, map, Option, Some, None, refl, sym, ap, ◌∙◌, subst, arith}
use Rattle.std.specs.Prelude.{◌<◌, ◌≤◌, ◌||◌, not, if◌then◌else◌, ◌==◌, nat_lt, slice_get, slice_set, unwrap_or}
use Rattle.std.proofs.lemmas.Bool.{eqb-true}
use Rattle.bg_ast.specs.Values.{Val, Ty, is_of, truth_of, val_eq}
use Rattle.bg_ast.specs.Syntax.{Var, Local, Ex, Exs, Read, Not, NoMore, More, Star, Test, Decl}
use Rattle.bg_sense.specs.Eval.{Scope, ev, evs, value_at}
use Rattle.bg_ast.specs.Execution.{Choice, Branch, Chosen, Spot}
use Rattle.bg_sense.specs.Flow.{World, Answer, Failed, Blocked, BadChoice, Behind, Flow, Next, Jumps, Over, and_then}
use Rattle.bg_sense.specs.Context.{Ctx, scope, callee_scope}
use Rattle.bg_sense.specs.Choices.{choose_from, branch_from, forget_all, choose_all}
use Rattle.bg_sense.specs.Variables.{put, put_all, type_in, decl_of}
use Rattle.bg_sense.specs.Types.{are_of, types_of}
use Rattle.bg_sense.proofs.Keeping.{AreTyped}
use Rattle.bg_sense.specs.Typing.{Sig, HaveTypes}
use Rattle.bg_flow.specs.Core.{Demand, Saying, Plan, Cmd, Check, Suppose, Forget, Put, Perform, Finish, check_that, check_these, suppose_this, suppose_these, perform, act, act_all}
use Rattle.bg_flow.specs.Blocks.{Exit, Leap, Either, Block, Table, at_table, enter, index, nth, leave, table}
use Rattle.bg_passive.specs.Passive.{PassiveCmd, Supposes, Edge, PassiveBlock, spot_eq, is_absent, Walked, On, Stopped, Hit, walk_cmds, walk_on, walk_at, walk_edge, follow, walks}
use Rattle.bg_passive.specs.Incarnations.{Env, rename, hold, hold_next, after_vars, after_exs, after_decls, each_ex, each_decl, claims_in, supposes_in, is_worth, set_to, pass_call, pass, pass_all, Arrival, joins, join_env, edge_to, edges, passives, TypesFrom, FitsCmd, FitsCmds, Below, EnvBelow, ForBool, JoinsFit, after_joins, FitsJoin, FitEach, targets_of, FitsBlocks, IsTypedCmd, AreTypedCmds, AreTypedBlocks}
use Rattle.bg_sense.proofs.Bools.{and_left, and_right, both}
use Rattle.bg_flow.proofs.CoreRuns.{then_assoc}
use Rattle.bg_passive.proofs.Renaming.{val_eq_refl, set_there, set_elsewhere, set_are, get_are, Agree, agree_on, map_agree, below_more, below_append, map_append, env_more, hold_below, hold_all_below, spot_refl, values, seen, renamed, same_scopes, Met, met_scope, seen_agree, met_agree, hold_met, head_same, tail_same, hold_all_met}
use Rattle.bg_sense.proofs.Renews.{put_typed}
use Rattle.bg_passive.proofs.Walks.{Hits, hits_walk, join_walk, checked, supposed}

failed_same : (s t : Spot) → Failed s ≡ Failed t → s ≡ t
failed_same s t e = ap spot_in e
  where
    spot_in : Answer → Spot
    spot_in (Failed u) = u
    spot_in _ = s

pub after_vars_more : (xs : List Var) (n : ℕ) → n ≤ after_vars xs n
after_vars_more [] n = omega arith
after_vars_more (x ∷ xs) n = let h = after_vars_more xs (suc n) in omega arith

pub after_exs_more : (es : Exs) (n : ℕ) → n ≤ after_exs es n
after_exs_more NoMore n = omega arith
after_exs_more (More e es) n = let h = after_exs_more es (suc n) in omega arith

pub after_decls_more : (ds : List Decl) (n : ℕ) → n ≤ after_decls ds n
after_decls_more [] n = omega arith
after_decls_more (d ∷ ds) n = let h = after_decls_more ds (suc n) in omega arith

each_ex_below : (es : Exs) (n : ℕ) → Below (after_exs es n) (each_ex n es)
each_ex_below NoMore n = tt
each_ex_below (More e es) n = (let h = after_exs_more es (suc n) in omega arith, each_ex_below es (suc n))

each_decl_below : (ds : List Decl) (n : ℕ) → Below (after_decls ds n) (each_decl n ds)
each_decl_below [] n = tt
each_decl_below (d ∷ ds) n = (let h = after_decls_more ds (suc n) in omega arith, each_decl_below ds (suc n))

hold_next_below : (xs : List Var) (n : ℕ) (v : Env) → EnvBelow n v → EnvBelow (after_vars xs n) (hold_next xs n v)
hold_next_below [] n v b = b
hold_next_below (x ∷ xs) n v b =
    hold_next_below xs (suc n) (hold x n v) (hold_below (suc n) x n v (omega arith) (env_more n (suc n) v (omega arith) b))

pub pass_below : (k : Cmd) (v : Env) (n : ℕ) → EnvBelow n v → EnvBelow (pass k v n).next (pass k v n).env
pass_below (Check ds) v n b = b
pass_below (Suppose ds) v n b = b
pass_below (Forget xs) v n b = hold_next_below xs n v b
pass_below (Put xs es) v n b =
    hold_all_below (after_exs es n) xs (each_ex n es) v (each_ex_below es n) (env_more n (after_exs es n) v (after_exs_more es n) b)
pass_below (Perform k) v n b =
    let n1 = after_exs k.args n in
    let n2 = after_vars k.modifies n1 in
    hold_all_below (after_decls k.results n2) k.takes (each_decl n2 k.results) (hold_next k.modifies n1 v) (each_decl_below k.results n2) (env_more n2 (after_decls k.results n2) (hold_next k.modifies n1 v) (after_decls_more k.results n2) (hold_next_below k.modifies n1 v (env_more n n1 v (after_exs_more k.args n) b)))
pass_below Finish v n b = b

pub pass_all_below : (ks : List Cmd) (v : Env) (n : ℕ) → EnvBelow n v → EnvBelow (pass_all ks v n).next (pass_all ks v n).env
pass_all_below [] v n b = b
pass_all_below (k ∷ ks) v n b = pass_all_below ks (pass k v n).env (pass k v n).next (pass_below k v n b)

lt_true : (j n : ℕ) → nat_lt j n ≡ true → j < n
lt_true j n e = grind arith

get_nth : (ks : List ℕ) (d j : ℕ) → j < length ks → slice_get ks j ≡ Some (unwrap_or (slice_get ks j) d)
get_nth [] d j h = absurd (let bad : ⊥ = omega arith in bad)
get_nth (k ∷ ks) d zero h = refl
get_nth (k ∷ ks) d (suc j) h = get_nth ks d j (omega arith)

get_map : (f : ℕ → Edge) (ks : List ℕ) (j q : ℕ) → slice_get ks j ≡ Some q → slice_get (map f ks) j ≡ Some (f q)
get_map f [] j q e = absurd (let bad : ⊥ = cc in bad)
get_map f (k ∷ ks) zero q e = let same : k ≡ q = cc in ap (λ x. Some (f x)) same
get_map f (k ∷ ks) (suc j) q e = get_map f ks j q e

fit_nth : (incs : List Ty) (v : Env) (n : ℕ) (later : List Arrival) (ks : List ℕ) (j q : ℕ) → FitEach incs v n later ks → slice_get ks j ≡ Some q → FitsJoin incs v n (slice_get later q)
fit_nth incs v n later [] j q f e = absurd (let bad : ⊥ = cc in bad)
fit_nth incs v n later (k ∷ ks) zero q f e =
    let same : k ≡ q = cc in subst (λ x. FitsJoin incs v n (slice_get later x)) same f.0
fit_nth incs v n later (k ∷ ks) (suc j) q f e = fit_nth incs v n later ks j q f.1 e

-- writing values from an incarnation on
abbrev write : List Val → ℕ → List Val → List Val
write V n [] = V
write V n (x ∷ xs) = write (slice_set V n x) (suc n) xs

module _ (incs : List Ty) where
  abbrev Typed : List Val → Type 0
  Typed V = are_of incs V ≡ true

  write_typed : (V : List Val) (n : ℕ) (vs : List Val) (ts : List Ty) → Typed V → TypesFrom incs n ts → are_of ts vs ≡ true → Typed (write V n vs)
  write_typed V n [] ts h f e = h
  write_typed V n (x ∷ xs) [] h f e = absurd (let bad : ⊥ = cc in bad)
  write_typed V n (x ∷ xs) (t ∷ ts) h f e =
      write_typed (slice_set V n x) (suc n) xs ts (set_are incs V n t x h f.0 (and_left (is_of t x) (are_of ts xs) e)) f.1 (and_right (is_of t x) (are_of ts xs) e)

  write_agree : (V : List Val) (n : ℕ) (vs : List Val) → Agree n V (write V n vs)
  write_agree V n [] j h = refl
  write_agree V n (x ∷ xs) j h = write_agree (slice_set V n x) (suc n) xs j (omega arith) ∙ set_elsewhere V n j x h

  write_exs : (V : List Val) (n : ℕ) (es : Exs) (s : Scope) (ts : List Ty) → Typed V → TypesFrom incs n ts → are_of ts (evs es s) ≡ true → map (value_at (write V n (evs es s))) (each_ex n es) ≡ evs es s
  write_exs V n NoMore s ts h f e = refl
  write_exs V n (More x es) s [] h f e = absurd (let bad : ⊥ = cc in bad)
  write_exs V n (More x es) s (t ∷ ts) h f e =
      let a = ev x s in
      let ht = set_are incs V n t a h f.0 (and_left (is_of t a) (are_of ts (evs es s)) e) in
      ap (λ y. y ∷ map (value_at (write (slice_set V n a) (suc n) (evs es s))) (each_ex (suc n) es)) (write_agree (slice_set V n a) (suc n) (evs es s) n (omega arith) ∙ set_there incs V n t a h f.0)
      ∙ ap (λ l. a ∷ l) (write_exs (slice_set V n a) (suc n) es s ts ht f.1 (and_right (is_of t a) (are_of ts (evs es s)) e))

  -- values that agree with these below n, by which this holds
  abbrev pub Found : ℕ → List Val → (List Val → Type 0) → Type 0
  Found n V R = (W : List Val) × (Agree n V W × (Typed W × R W))

  found_from : (n m : ℕ) (V W : List Val) (R : List Val → Type 0) → n ≤ m → Agree n V W → Found m W R → Found n V R
  found_from n m V W R le a f = (f.0, (agree_on n m V W f.0 le a f.1.0, (f.1.1.0, f.1.1.1)))

  found_map : (n : ℕ) (V : List Val) (R S : List Val → Type 0) → ((W : List Val) → Agree n V W → R W → S W) → Found n V R → Found n V S
  found_map n V R S h f = (f.0, (f.1.0, (f.1.1.0, h f.0 f.1.0 f.1.1.1)))

  -- the incarnations of a join are given the values that the variables have
  abbrev Joined : ℕ → List ℕ → List ℕ → List Val → Type 0
  Joined m is js V = (W : List Val) × (Agree m V W × (Typed W × (map (value_at W) js ≡ map (value_at V) is)))

  joined_one : (n m i j : ℕ) (is js : List ℕ) (V : List Val) → n ≤ m → i < n → Below n is → Typed V → (JoinsFit incs m is js → Joined m is js V) → ((V0 : List Val) → m ≤ j → Typed V0 → JoinsFit incs (suc j) is js → Joined (suc j) is js V0) → (b : Bool) → (i == j) ≡ b → ForBool b (JoinsFit incs m is js) (m ≤ j × ((ty : Ty) × ((slice_get incs i ≡ Some ty) × (slice_get incs j ≡ Some ty))) × JoinsFit incs (suc j) is js) → Joined m (i ∷ is) (j ∷ js) V
  joined_one n m i j is js V le lt bl h same new true e f =
      let ij : i ≡ j = eqb-true i j e in
      let g = same f in
      let W = g.0 in
      (W, (g.1.0, (g.1.1.0, ap (λ x. x ∷ map (value_at W) js) (ap (value_at W) (sym ij) ∙ g.1.0 i (omega arith)) ∙ ap (λ l. value_at V i ∷ l) g.1.1.1)))
  joined_one n m i j is js V le lt bl h same new false e f =
      let ty = f.1.0 in
      let V0 = slice_set V j (value_at V i) in
      let mj : m ≤ j = f.0 in
      let g = new V0 mj (set_are incs V j ty (value_at V i) h f.1.1.1 (get_are incs V i ty h f.1.1.0)) f.2 in
      let W = g.0 in
      let a0 : Agree m V V0 = λ q ltq. set_elsewhere V j q (value_at V i) (omega arith) in
      let an : Agree n V V0 = λ q ltq. set_elsewhere V j q (value_at V i) (omega arith) in
      (W, (agree_on m (suc j) V V0 W (omega arith) a0 g.1.0, (g.1.1.0, ap (λ x. x ∷ map (value_at W) js) (g.1.0 j (omega arith) ∙ set_there incs V j ty (value_at V i) h f.1.1.1) ∙ ap (λ l. value_at V i ∷ l) (g.1.1.1 ∙ map_agree n V V0 is bl an))))

  joins_found : (n m : ℕ) (is js : List ℕ) (V : List Val) → n ≤ m → Below n is → Typed V → JoinsFit incs m is js → Joined m is js V
  joins_found n m [] [] V le bl h f = (V, (λ j lt. refl, (h, refl)))
  joins_found n m [] (j ∷ js) V le bl h f = absurd f
  joins_found n m (i ∷ is) [] V le bl h f = absurd f
  joins_found n m (i ∷ is) (j ∷ js) V le bl h f =
      joined_one n m i j is js V le bl.0 bl.1 h (λ g. joins_found n m is js V le bl.1 h g) (λ V0 mj h0 g. joins_found n (suc j) is js V0 (omega arith) bl.1 h0 g) (i == j) refl f

  -- where a join's incarnations end
  joins_more : (m : ℕ) (is js : List ℕ) → JoinsFit incs m is js → m ≤ after_joins m is js
  joins_more m [] [] f = omega arith
  joins_more m [] (j ∷ js) f = absurd f
  joins_more m (i ∷ is) [] f = absurd f
  joins_more m (i ∷ is) (j ∷ js) f = on (i == j) f (λ g. joins_more m is js g) (λ g. joins_more (suc j) is js g)
    where
      on : (b : Bool) → ForBool b (JoinsFit incs m is js) (m ≤ j × ((ty : Ty) × ((slice_get incs i ≡ Some ty) × (slice_get incs j ≡ Some ty))) × JoinsFit incs (suc j) is js) → (JoinsFit incs m is js → m ≤ after_joins m is js) → (JoinsFit incs (suc j) is js → suc j ≤ after_joins (suc j) is js) → m ≤ (if b then after_joins m is js else after_joins (suc j) is js)
      on true f k l = k f
      on false f k l = let z = l f.2 in let y = f.0 in omega arith

  joins_below : (n m : ℕ) (is js : List ℕ) → n ≤ m → Below n is → JoinsFit incs m is js → Below (after_joins m is js) js
  joins_below n m [] [] le bl f = tt
  joins_below n m [] (j ∷ js) le bl f = absurd f
  joins_below n m (i ∷ is) [] le bl f = absurd f
  joins_below n m (i ∷ is) (j ∷ js) le bl f =
      on (i == j) refl f (λ g. joins_below n m is js le bl.1 g) (λ mj g. joins_below n (suc j) is js (omega arith) bl.1 g)
    where
      on : (b : Bool) → (i == j) ≡ b → ForBool b (JoinsFit incs m is js) (m ≤ j × ((ty : Ty) × ((slice_get incs i ≡ Some ty) × (slice_get incs j ≡ Some ty))) × JoinsFit incs (suc j) is js) → (JoinsFit incs m is js → Below (after_joins m is js) js) → (m ≤ j → JoinsFit incs (suc j) is js → Below (after_joins (suc j) is js) js) → Below (if b then after_joins m is js else after_joins (suc j) is js) (j ∷ js)
      on true e f k l =
          let ij : i ≡ j = eqb-true i j e in
          let z = joins_more m is js f in
          let y = bl.0 in
          (let g : j < after_joins m is js = omega arith in g, k f)
      on false e f k l =
          let z = joins_more (suc j) is js f.2 in
          (let g : j < after_joins (suc j) is js = omega arith in g, l f.0 f.2)

  module _ (c : Ctx) (t : Spot) (Tb : Table) where
    abbrev pub Fails : Flow → Type 0
    Fails f = enter Tb index f ≡ Failed t

    abbrev walk : List Val → List PassiveCmd → Walked
    walk V ks = walk_cmds c.set t (values c V) ks

    -- one check
    claim_found : (x : Bool) (s : Spot) (n : ℕ) (V : List Val) (test : List Val → Bool) (ks : List PassiveCmd) (f : Flow) (R : List Val → Type 0) → ((W : List Val) → Agree n V W → test W ≡ x) → Typed V → (Fails f → Found n V (λ W. Hits (walk W ks) (R W))) → Fails (if x then f else Over (Failed s)) → Found n V (λ W. Hits (if test W then walk W ks else (if spot_eq s t then Hit else Stopped)) (R W))
    claim_found true s n V test ks f R e h next x =
        found_map n V (λ W. Hits (walk W ks) (R W)) (λ W. Hits (if test W then walk W ks else (if spot_eq s t then Hit else Stopped)) (R W)) (λ W a r. subst (λ b. Hits (if b then walk W ks else (if spot_eq s t then Hit else Stopped)) (R W)) (sym (e W a)) r) (next x)
    claim_found false s n V test ks f R e h next x =
        (V, (λ j lt. refl, (h, subst (λ b. Hits (if b then walk V ks else (if spot_eq s t then Hit else Stopped)) (R V)) (sym (e V (λ j lt. refl))) (subst (λ u. Hits (if spot_eq s u then Hit else Stopped) (R V)) (failed_same s t x) (subst (λ b. Hits (if b then Hit else Stopped) (R V)) (sym (spot_refl s)) tt)))))

    suppose_found : (x : Bool) (n : ℕ) (V : List Val) (test : List Val → Bool) (ks : List PassiveCmd) (f : Flow) (R : List Val → Type 0) → ((W : List Val) → Agree n V W → test W ≡ x) → (Fails f → Found n V (λ W. Hits (walk W ks) (R W))) → Fails (if x then f else Over Blocked) → Found n V (λ W. Hits (if test W then walk W ks else Stopped) (R W))
    suppose_found true n V test ks f R e next x =
        found_map n V (λ W. Hits (walk W ks) (R W)) (λ W. Hits (if test W then walk W ks else Stopped) (R W)) (λ W a r. subst (λ b. Hits (if b then walk W ks else Stopped) (R W)) (sym (e W a)) r) (next x)
    suppose_found false n V test ks f R e next x = absurd (let bad : ⊥ = cc in bad)

    -- an expression under values that agree
    same_test : (n : ℕ) (V W : List Val) (v : Env) (s : Scope) (b : Option ℕ) (e : Ex) → seen c V v ≡ s → EnvBelow n v → Agree n V W → (is_absent c.set b || truth_of (ev (rename e v) (values c W))) ≡ (is_absent c.set b || truth_of (ev e s))
    same_test n V W v s b e q bl a =
        ap (λ x. is_absent c.set b || truth_of x) (renamed c e v W ∙ ap (ev e) (seen_agree c n V W v bl a ∙ q))

    checks_found : (sees : World → Scope) (v : Env) (ds : List Demand) (n : ℕ) (w : World) (V : List Val) → seen c V v ≡ sees w → EnvBelow n v → Typed V → (L : World → Flow) (R : List Val → Type 0) → (Fails (L w) → Found n V R) → Fails (and_then (check_these c sees ds w) L) → Found n V (λ W. Hits (walk W (claims_in v ds)) (R W))
    checks_found sees v [] n w V q b h L R next f = next f
    checks_found sees v (d ∷ ds) n w V q b h L R next f =
        claim_found
        (is_absent c.set d.candidate || truth_of (ev d.says (sees w)))
        d.spot
        n
        V
        (λ W. is_absent c.set d.candidate || truth_of (ev (rename d.says v) (values c W)))
        (claims_in v ds)
        (and_then (check_these c sees ds w) L)
        R
        (λ W a. same_test n V W v (sees w) d.candidate d.says q b a)
        h
        (checks_found sees v ds n w V q b h L R next)
        (ap (enter Tb index) (sym (then_assoc (check_that c sees d w) (check_these c sees ds) L ∙ checked c.set d.candidate (truth_of (ev d.says (sees w))) d.spot w (λ u. and_then (check_these c sees ds u) L))) ∙ f)

    supposes_found : (sees : World → Scope) (v : Env) (ds : List Saying) (n : ℕ) (w : World) (V : List Val) → seen c V v ≡ sees w → EnvBelow n v → Typed V → (L : World → Flow) (R : List Val → Type 0) → (Fails (L w) → Found n V R) → Fails (and_then (suppose_these c sees ds w) L) → Found n V (λ W. Hits (walk W (supposes_in v ds)) (R W))
    supposes_found sees v [] n w V q b h L R next f = next f
    supposes_found sees v (d ∷ ds) n w V q b h L R next f =
        suppose_found
        (is_absent c.set d.candidate || truth_of (ev d.says (sees w)))
        n
        V
        (λ W. is_absent c.set d.candidate || truth_of (ev (rename d.says v) (values c W)))
        (supposes_in v ds)
        (and_then (suppose_these c sees ds w) L)
        R
        (λ W a. same_test n V W v (sees w) d.candidate d.says q b a)
        (supposes_found sees v ds n w V q b h L R next)
        (ap (enter Tb index) (sym (then_assoc (suppose_this c sees d w) (suppose_these c sees ds) L ∙ supposed c.set d.candidate (truth_of (ev d.says (sees w))) w (λ u. and_then (suppose_these c sees ds u) L))) ∙ f)

    -- incarnations that are worth what they are set to
    worth_on : (W : List Val) (j : ℕ) (e : Ex) (ks : List PassiveCmd) (R : Type 0) → value_at W j ≡ ev e (values c W) → Hits (walk W ks) R → Hits (walk W (is_worth j e ∷ ks)) R
    worth_on W j e ks R q h =
        subst (λ b. Hits (if b then walk W ks else Stopped) R) (sym (ap (val_eq (value_at W j)) (sym q) ∙ val_eq_refl (value_at W j))) h

    set_on : (W : List Val) (es : Exs) (m : ℕ) (v : Env) (R : Type 0) → map (value_at W) (each_ex m es) ≡ evs es (seen c W v) → R → Hits (walk W (set_to m es v)) R
    set_on W NoMore m v R q h = h
    set_on W (More e es) m v R q h =
        worth_on W m (rename e v) (set_to (suc m) es v) R (head_same c (value_at W m) (ev e (seen c W v)) (map (value_at W) (each_ex (suc m) es)) (evs es (seen c W v)) q ∙ sym (renamed c e v W)) (set_on W es (suc m) v R (tail_same c (value_at W m) (ev e (seen c W v)) (map (value_at W) (each_ex (suc m) es)) (evs es (seen c W v)) q) h)

    -- right sides are recorded
    sets_found : (es : Exs) (n : ℕ) (v : Env) (s : Scope) (ts : List Ty) (V : List Val) → seen c V v ≡ s → EnvBelow n v → Typed V → TypesFrom incs n ts → are_of ts (evs es s) ≡ true → (R : List Val → Type 0) → Found (after_exs es n) (write V n (evs es s)) R → Found n V (λ W. Hits (walk W (set_to n es v)) (R W))
    sets_found es n v s ts V q b h f e R found =
        let vs = evs es s in
        let V1 = write V n vs in
        let W = found.0 in
        let a = agree_on n (after_exs es n) V V1 W (after_exs_more es n) (write_agree V n vs) found.1.0 in
        (W, (a, (found.1.1.0, set_on W es n v (R W) (map_agree (after_exs es n) V1 W (each_ex n es) (each_ex_below es n) found.1.0 ∙ write_exs V n es s ts h f e ∙ ap (evs es) (sym (seen_agree c n V W v b a ∙ q))) found.1.1.1)))

    -- chosen values are recorded
    choice_found : (b : Bool) (f : Flow) → Fails (if b then f else Over BadChoice) → (b ≡ true) × Fails f
    choice_found true f h = (refl, h)
    choice_found false f h = absurd (let bad : ⊥ = cc in bad)

    chosen_found : (cs : List Choice) (ty : Ty) (w : World) (k : Val → World → Flow) (L : World → Flow) (A : Type 0) → ((a : Val) (rest : List Choice) → is_of ty a ≡ true → Fails (and_then (k a (record w { choices = rest })) L) → A) → Fails (and_then (choose_from cs ty w k) L) → A
    chosen_found [] ty w k L A next f = absurd (let bad : ⊥ = cc in bad)
    chosen_found (Branch j ∷ cs) ty w k L A next f = absurd (let bad : ⊥ = cc in bad)
    chosen_found (Chosen a ∷ cs) ty w k L A next f =
        on (is_of ty a) refl f
      where
        on : (b : Bool) → is_of ty a ≡ b → Fails (and_then (if b then k a (record w { choices = cs }) else Over BadChoice) L) → A
        on true e g = next a cs e g
        on false e g = absurd (let bad : ⊥ = cc in bad)

    forget_found : (tys : Var → Ty) → ((x : Var) → tys x ≡ type_in (decl_of c x)) → (xs : List Var) (n : ℕ) (v : Env) (w : World) (V : List Val) → TypesFrom incs n (map tys xs) → EnvBelow n v → Met c V v w.globals w.frame → AreTyped c w.globals w.frame → Typed V → (L : World → Flow) (R : List Val → Type 0) → ((u : World) (W : List Val) → Agree n V W → Met c W (hold_next xs n v) u.globals u.frame → AreTyped c u.globals u.frame → Typed W → Fails (L u) → Found (after_vars xs n) W R) → Fails (and_then (forget_all c xs w) L) → Found n V R
    forget_found tys same [] n v w V f b m ty h L R next x = next w V (λ j lt. refl) m ty h x
    forget_found tys same (y ∷ xs) n v w V f b m ty h L R next x =
        chosen_found w.choices (type_in (decl_of c y)) w (λ a u. forget_all c xs (put y a u)) L (Found n V R) (λ a rest e g.
        let V1 = slice_set V n a in
        let w1 : World = record w { choices = rest } in
        let ag : Agree n V V1 = λ j lt. set_elsewhere V n j a lt in
        let e' : is_of (tys y) a ≡ true = subst (λ q. is_of q a ≡ true) (sym (same y)) e in
        let h1 : Typed V1 = set_are incs V n (tys y) a h f.0 e' in
        found_from n (suc n) V V1 R (omega arith) ag (forget_found tys same xs (suc n) (hold y n v) (put y a w1) V1 f.1 (hold_below (suc n) y n v (omega arith) (env_more n (suc n) v (omega arith) b)) (hold_met c V1 v y n a w1 (set_there incs V n (tys y) a h f.0) (met_agree c n V V1 v w.globals w.frame b ag m)) (put_typed c y a w1 e ty) h1 L R (λ u W a2 m2 t2 h2 x2. next u W (agree_on n (suc n) V V1 W (omega arith) ag a2) m2 t2 h2 x2) g)) x

    results_found : (ds : List Decl) (n : ℕ) (w : World) (V : List Val) (k : List Val → World → Flow) → TypesFrom incs n (types_of ds) → Typed V → (L : World → Flow) (R : List Val → Type 0) → ((vs : List Val) (rest : List Choice) (W : List Val) → Agree n V W → Typed W → are_of (types_of ds) vs ≡ true → map (value_at W) (each_decl n ds) ≡ vs → Fails (and_then (k vs (record w { choices = rest })) L) → Found (after_decls ds n) W R) → Fails (and_then (choose_all ds w k) L) → Found n V R
    results_found [] n w V k f h L R next x = next [] w.choices V (λ j lt. refl) h refl refl x
    results_found (d ∷ ds) n w V k f h L R next x =
        chosen_found w.choices d.ty w (λ a u. choose_all ds u (λ vs z. k (a ∷ vs) z)) L (Found n V R) (λ a rest e g.
        let V1 = slice_set V n a in
        let ag : Agree n V V1 = λ j lt. set_elsewhere V n j a lt in
        let h1 : Typed V1 = set_are incs V n d.ty a h f.0 e in
        found_from n (suc n) V V1 R (omega arith) ag (results_found ds (suc n) (record w { choices = rest }) V1 (λ vs z. k (a ∷ vs) z) f.1 h1 L R (λ vs rest2 W a2 h2 e2 q2 x2. next (a ∷ vs) rest2 W (agree_on n (suc n) V V1 W (omega arith) ag a2) h2 (both (is_of d.ty a) (are_of (types_of ds) vs) e e2) (ap (λ y. y ∷ map (value_at W) (each_decl (suc n) ds)) (a2 n (omega arith) ∙ set_there incs V n d.ty a h f.0) ∙ ap (λ l. a ∷ l) q2) x2) g)) x

    module _ (sig : Sig) (tys : Var → Ty) (same : (x : Var) → tys x ≡ type_in (decl_of c x)) (args_typed : (es : Exs) (ts : List Ty) (w : World) → HaveTypes es sig ts → AreTyped c w.globals w.frame → are_of ts (evs es (scope c w)) ≡ true) where
      puts_typed : (xs : List Var) (vs : List Val) (w : World) → are_of (map tys xs) vs ≡ true → AreTyped c w.globals w.frame → AreTyped c (put_all xs vs w).globals (put_all xs vs w).frame
      puts_typed [] vs w e ty = ty
      puts_typed (x ∷ xs) [] w e ty = ty
      puts_typed (x ∷ xs) (a ∷ vs) w e ty =
          puts_typed xs vs (put x a w) (and_right (is_of (tys x) a) (are_of (map tys xs) vs) e) (put_typed c x a w (subst (λ q. is_of q a ≡ true) (same x) (and_left (is_of (tys x) a) (are_of (map tys xs) vs) e)) ty)

      call_found : (k : Plan) (v : Env) (n : ℕ) (w : World) (V : List Val) → FitsCmd incs tys (Perform k) n → IsTypedCmd sig tys (Perform k) → EnvBelow n v → Met c V v w.globals w.frame → AreTyped c w.globals w.frame → Typed V → (L : World → Flow) (R : List Val → Type 0) → ((u : World) (W : List Val) → Met c W (pass_call k v n).env u.globals u.frame → AreTyped c u.globals u.frame → Typed W → Fails (L u) → Found (pass_call k v n).next W R) → Fails (and_then (perform c k w) L) → Found n V (λ W. Hits (walk W (pass_call k v n).cmds) (R W))
      call_found k v n w V f typed b m ty h L R next x =
          let args = evs k.args (scope c w) in
          let e0 = args_typed k.args (types_of k.params) w typed.0 ty in
          let V1 = write V n args in
          let n1 = after_exs k.args n in
          let ag1 = write_agree V n args in
          let h1 = write_typed V n args (types_of k.params) h f.0 e0 in
          let q1 = write_exs V n k.args (scope c w) (types_of k.params) h f.0 e0 in
          let m1 = met_agree c n V V1 v w.globals w.frame b ag1 m in
          let b1 = env_more n n1 v (after_exs_more k.args n) b in
          let anums = each_ex n k.args in
          let v2 = hold_next k.modifies n1 v in
          let n2 = after_vars k.modifies n1 in
          let b2 = hold_next_below k.modifies n1 v b1 in
          let rnums = each_decl n2 k.results in
          let n3 = after_decls k.results n2 in
          let vc : Env = record { globals = v.globals; before = v.globals; frame = anums } in
          let vg : Env = record { globals = v2.globals; before = v.globals; frame = anums ++ rnums } in
          let claims = claims_in vc k.needs in
          let supposes = supposes_in vg k.gives in
          let R2 : List Val → Type 0 = λ W. Hits (walk W supposes) (R W) in
          let stored : List Val → World → Flow = λ results t'. and_then (suppose_these c (callee_scope c w.globals (args ++ results)) k.gives t') (λ s. Next (put_all k.takes results s)) in
          let chosen : World → Flow = λ u. choose_all k.results u stored in
          let called : World → Flow = λ q. and_then (forget_all c k.modifies q) (λ u. choose_all k.results u (λ results t'. and_then (suppose_these c (callee_scope c q.globals (args ++ results)) k.gives t') (λ s. Next (put_all k.takes results s)))) in
          let le12 : n1 ≤ n2 = after_vars_more k.modifies n1 in
          let le23 : n2 ≤ n3 = after_decls_more k.results n2 in
          let le01 : n ≤ n1 = after_exs_more k.args n in
          found_map n V (λ W. Hits (walk W (set_to n k.args v)) (Hits (walk W (claims ++ supposes)) (R W))) (λ W. Hits (walk W (set_to n k.args v ++ (claims ++ supposes))) (R W)) (λ W a r. join_walk c.set t (values c W) (set_to n k.args v) (claims ++ supposes) (R W) r)
          (sets_found k.args n v (scope c w) (types_of k.params) V (met_scope c V v w m) b h f.0 e0 (λ W. Hits (walk W (claims ++ supposes)) (R W))
          (found_map n1 V1 (λ W. Hits (walk W claims) (R2 W)) (λ W. Hits (walk W (claims ++ supposes)) (R W)) (λ W a r. join_walk c.set t (values c W) claims supposes (R W) r)
          (checks_found (callee_scope c w.globals args) vc k.needs n1 w V1 (same_scopes c (map (value_at V1) v.globals) w.globals (map (value_at V1) v.globals) w.globals (map (value_at V1) anums) args m1.0 m1.0 q1) (b1.0, b1.0, each_ex_below k.args n) h1 (λ q. and_then (called q) L) R2
          (λ x2. forget_found tys same k.modifies n1 v w V1 f.1 b1 m1 ty h1 (λ u. and_then (chosen u) L) R2
          (λ u W a m2 t2 h2 x3. results_found k.results n2 u W stored f.2 h2 L R2
          (λ vs rest W3 a3 h3 e3 q3 x4.
          let t3 : World = record u { choices = rest } in
          let aW : Agree n1 V1 W3 = agree_on n1 n2 V1 W W3 le12 a a3 in
          let aV : Agree n V W3 = agree_on n n1 V V1 W3 le01 ag1 aW in
          let m3 = met_agree c n2 W W3 v2 u.globals u.frame b2 a3 m2 in
          supposes_found (callee_scope c w.globals (args ++ vs)) vg k.gives n3 t3 W3
          (same_scopes c (map (value_at W3) v2.globals) u.globals (map (value_at W3) v.globals) w.globals (map (value_at W3) (anums ++ rnums)) (args ++ vs) m3.0 (map_agree n V W3 v.globals b.0 aV ∙ m.0) (map_append W3 anums rnums ∙ ap (λ l. l ++ map (value_at W3) rnums) (map_agree n1 V1 W3 anums (each_ex_below k.args n) aW ∙ q1) ∙ ap (λ l. args ++ l) q3))
          (below_more n2 n3 v2.globals le23 b2.0, below_more n n3 v.globals (let g : n ≤ n3 = omega arith in g) b.0, below_append n3 anums rnums (below_more n1 n3 anums (let g : n1 ≤ n3 = omega arith in g) (each_ex_below k.args n)) (each_decl_below k.results n2))
          h3 (λ s. L (put_all k.takes vs s)) R
          (λ x5. next (put_all k.takes vs t3) W3 (hold_all_met c W3 k.takes rnums vs v2 t3 q3 m3) (puts_typed k.takes vs t3 (subst (λ l. are_of l vs ≡ true) (sym typed.1) e3) t2) h3 x5)
          (ap (enter Tb index) (sym (then_assoc (suppose_these c (callee_scope c w.globals (args ++ vs)) k.gives t3) (λ s. Next (put_all k.takes vs s)) L)) ∙ x4))
          x3)
          (ap (enter Tb index) (sym (then_assoc (forget_all c k.modifies w) chosen L)) ∙ x2))
          (ap (enter Tb index) (sym (then_assoc (check_these c (callee_scope c w.globals args) k.needs w) called L)) ∙ x))))

      cmd_found : (k : Cmd) (v : Env) (n : ℕ) (w : World) (V : List Val) → FitsCmd incs tys k n → IsTypedCmd sig tys k → EnvBelow n v → Met c V v w.globals w.frame → AreTyped c w.globals w.frame → Typed V → (L : World → Flow) (R : List Val → Type 0) → ((u : World) (W : List Val) → Met c W (pass k v n).env u.globals u.frame → AreTyped c u.globals u.frame → Typed W → Fails (L u) → Found (pass k v n).next W R) → Fails (and_then (act c k w) L) → Found n V (λ W. Hits (walk W (pass k v n).cmds) (R W))
      cmd_found (Check ds) v n w V f typed b m ty h L R next x =
          checks_found (scope c) v ds n w V (met_scope c V v w m) b h L R (next w V m ty h) x
      cmd_found (Suppose ds) v n w V f typed b m ty h L R next x =
          supposes_found (scope c) v ds n w V (met_scope c V v w m) b h L R (next w V m ty h) x
      cmd_found (Forget xs) v n w V f typed b m ty h L R next x =
          forget_found tys same xs n v w V f b m ty h L R (λ u W a m2 t2 h2 x2. next u W m2 t2 h2 x2) x
      cmd_found (Put xs es) v n w V f typed b m ty h L R next x =
          let vs = evs es (scope c w) in
          let e0 = args_typed es (map tys xs) w typed ty in
          let V1 = write V n vs in
          sets_found es n v (scope c w) (map tys xs) V (met_scope c V v w m) b h f e0 R (next (put_all xs vs w) V1 (hold_all_met c V1 xs (each_ex n es) vs v w (write_exs V n es (scope c w) (map tys xs) h f e0) (met_agree c n V V1 v w.globals w.frame b (write_agree V n vs) m)) (puts_typed xs vs w e0 ty) (write_typed V n vs (map tys xs) h f e0) x)
      cmd_found (Perform k) v n w V f typed b m ty h L R next x = call_found k v n w V f typed b m ty h L R next x
      cmd_found Finish v n w V f typed b m ty h L R next x = absurd (let bad : ⊥ = cc in bad)

      cmds_found : (ks : List Cmd) (v : Env) (n : ℕ) (w : World) (V : List Val) → FitsCmds incs tys ks v n → AreTypedCmds sig tys ks → EnvBelow n v → Met c V v w.globals w.frame → AreTyped c w.globals w.frame → Typed V → (L : World → Flow) (R : List Val → Type 0) → ((u : World) (W : List Val) → Met c W (pass_all ks v n).env u.globals u.frame → AreTyped c u.globals u.frame → Typed W → Fails (L u) → Found (pass_all ks v n).next W R) → Fails (and_then (act_all c ks w) L) → Found n V (λ W. Hits (walk W (pass_all ks v n).cmds) (R W))
      cmds_found [] v n w V f typed b m ty h L R next x = next w V m ty h x
      cmds_found (k ∷ ks) v n w V f typed b m ty h L R next x =
          let p = pass k v n in
          let rest = (pass_all ks p.env p.next).cmds in
          found_map n V (λ W. Hits (walk W p.cmds) (Hits (walk W rest) (R W))) (λ W. Hits (walk W (p.cmds ++ rest)) (R W)) (λ W a r. join_walk c.set t (values c W) p.cmds rest (R W) r)
          (cmd_found k v n w V f.0 typed.0 b m ty h (λ u. and_then (act_all c ks u) L) (λ W. Hits (walk W rest) (R W)) (λ u W m2 t2 h2 x2. cmds_found ks p.env p.next u W f.1 typed.1 (pass_below k v n b) m2 t2 h2 L R next x2) (ap (enter Tb index) (sym (then_assoc (act c k w) (act_all c ks) L)) ∙ x))

      joins_on : (W : List Val) (is js : List ℕ) (R : Type 0) → map (value_at W) js ≡ map (value_at W) is → R → Hits (walk W (joins is js)) R
      joins_on W [] js R q h = h
      joins_on W (i ∷ is) [] R q h = h
      joins_on W (i ∷ is) (j ∷ js) R q h =
          on (i == j) (joins_on W is js R (tail_same c (value_at W j) (value_at W i) (map (value_at W) js) (map (value_at W) is) q) h)
        where
          on : (b : Bool) → Hits (walk W (joins is js)) R → Hits (walk W (if b then joins is js else is_worth j (Read (Local i)) ∷ joins is js)) R
          on true k = k
          on false k =
              worth_on W j (Read (Local i)) (joins is js) R (head_same c (value_at W j) (value_at W i) (map (value_at W) js) (map (value_at W) is) q) k

      -- a later block, by how it is arrived at
      abbrev pub MetAt : Option Arrival → List Val → World → Type 0
      MetAt None V w = Unit {0}
      MetAt (Some a) V w = Met c V a.env w.globals w.frame

      abbrev pub FoundAt : Option Arrival → List Val → (List Val → Type 0) → Type 0
      FoundAt None V R = ⊥
      FoundAt (Some a) V R = Found a.next V R

      abbrev pub BelowAt : Option Arrival → Type 0
      BelowAt None = Unit {0}
      BelowAt (Some a) = EnvBelow a.next a.env

      module _ (later : List Arrival) (pbs : List PassiveBlock) where
        abbrev behind : List Val → List (List ℕ → Bool)
        behind W = walks c.set t (values c W) pbs

        abbrev pub Reach : ℕ → List Val → Type 0
        Reach k W = (choices : List ℕ) × (walk_at (slice_get (behind W) k) choices ≡ true)

        edge_at : (o : Option Arrival) (k : ℕ) (v : Env) (n : ℕ) (first : List PassiveCmd) (w : World) (V : List Val) → BelowAt o → ((V' : List Val) → MetAt o V' w → Typed V' → FoundAt o V' (Reach k)) → EnvBelow n v → FitsJoin incs v n o → Met c V v w.globals w.frame → Typed V → ((W : List Val) (R : Type 0) → Agree n V W → R → Hits (walk W first) R) → Found n V (λ W. (choices : List ℕ) × (walk_on (walk W (first ++ join_env v o)) (walk_at (slice_get (behind W) k)) choices ≡ true))
        edge_at None k v n first w V bl ih b f m h pass_first = absurd (ih V tt h)
        edge_at (Some a) k v n first w V bl ih b f m h pass_first =
            let u = a.env in
            let m' = after_joins n v.globals u.globals in
            let g1 = joins_found n n v.globals u.globals V (omega arith) b.0 h f.2 in
            let W1 = g1.0 in
            let nm : n ≤ m' = joins_more n v.globals u.globals f.2 in
            let g2 = joins_found n m' v.frame u.frame W1 nm b.2 g1.1.1.0 f.3 in
            let W2 = g2.0 in
            let a2 : Agree n V W2 = agree_on n m' V W1 W2 nm g1.1.0 g2.1.0 in
            let q1 : map (value_at W2) u.globals ≡ map (value_at V) v.globals = map_agree m' W1 W2 u.globals (joins_below n n v.globals u.globals (omega arith) b.0 f.2) g2.1.0 ∙ g1.1.1.1 in
            let q2 : map (value_at W2) u.frame ≡ map (value_at V) v.frame = g2.1.1.1 ∙ map_agree n V W1 v.frame b.2 g1.1.0 in
            let met2 : Met c W2 u w.globals w.frame = (q1 ∙ m.0, q2 ∙ m.1, ap (map (value_at W2)) (sym f.1) ∙ map_agree n V W2 v.before b.1 a2 ∙ m.2) in
            let g3 = ih W2 met2 g2.1.1.0 in
            let W = g3.0 in
            let le : n ≤ a.next = f.0 in
            let a3 : Agree n V W = agree_on n a.next V W2 W le a2 g3.1.0 in
            let s1 : map (value_at W) u.globals ≡ map (value_at W) v.globals = map_agree a.next W2 W u.globals bl.0 g3.1.0 ∙ q1 ∙ sym (map_agree n V W v.globals b.0 a3) in
            let s2 : map (value_at W) u.frame ≡ map (value_at W) v.frame = map_agree a.next W2 W u.frame bl.2 g3.1.0 ∙ q2 ∙ sym (map_agree n V W v.frame b.2 a3) in
            let R = Reach k W in
            let hit = join_walk c.set t (values c W) first (join_env v (Some a)) R (pass_first W (Hits (walk W (join_env v (Some a))) R) a3 (join_walk c.set t (values c W) (joins v.globals u.globals) (joins v.frame u.frame) R (joins_on W v.globals u.globals (Hits (walk W (joins v.frame u.frame)) R) s1 (joins_on W v.frame u.frame R s2 g3.1.1.1)))) in
            (W, (a3, (g3.1.1.0, hits_walk (walk W (first ++ join_env v (Some a))) (walk_at (slice_get (behind W) k)) hit)))

        -- a way that leads on from this block
        abbrev pub Followed : List Edge → List Val → Type 0
        Followed es W = (choices : List ℕ) × (follow c.set t (values c W) (behind W) es choices ≡ true)

        way_at : (es : List Edge) (j : ℕ) (e : Edge) (W : List Val) → slice_get es j ≡ Some e → (choices : List ℕ) × (walk_edge c.set t (values c W) (behind W) (Some e) choices ≡ true) → Followed es W
        way_at es j e W q r =
            (j ∷ r.0, ap (λ o. walk_edge c.set t (values c W) (behind W) o r.0) q ∙ r.1)

        branch_found : (cs : List Choice) (n : ℕ) (w : World) (k : ℕ → World → Flow) (A : Type 0) → ((j : ℕ) (rest : List Choice) → nat_lt j n ≡ true → Fails (k j (record w { choices = rest })) → A) → Fails (branch_from cs n w k) → A
        branch_found [] n w k A next f = absurd (let bad : ⊥ = cc in bad)
        branch_found (Chosen a ∷ cs) n w k A next f = absurd (let bad : ⊥ = cc in bad)
        branch_found (Branch j ∷ cs) n w k A next f = on (nat_lt j n) refl f
          where
            on : (b : Bool) → nat_lt j n ≡ b → Fails (if b then k j (record w { choices = cs }) else Over BadChoice) → A
            on true e g = next j cs e g
            on false e g = absurd (let bad : ⊥ = cc in bad)

        module _ (bl : (k : ℕ) → BelowAt (slice_get later k)) (ih : (k : ℕ) (w : World) (V : List Val) → MetAt (slice_get later k) V w → AreTyped c w.globals w.frame → Typed V → at_table Tb k w ≡ Failed t → FoundAt (slice_get later k) V (Reach k)) where
          edge_found : (k : ℕ) (v : Env) (n : ℕ) (first : List PassiveCmd) (w : World) (V : List Val) → EnvBelow n v → FitsJoin incs v n (slice_get later k) → Met c V v w.globals w.frame → AreTyped c w.globals w.frame → Typed V → at_table Tb k w ≡ Failed t → ((W : List Val) (R : Type 0) → Agree n V W → R → Hits (walk W first) R) → Found n V (λ W. (choices : List ℕ) × (walk_edge c.set t (values c W) (behind W) (Some (edge_to v later first k)) choices ≡ true))
          edge_found k v n first w V b f m ty h x pass_first =
              edge_at (slice_get later k) k v n first w V (bl k) (λ V' m' h'. ih k w V' m' ty h' x) b f m h pass_first

          exit_found : (x : Exit) (v : Env) (n : ℕ) (w : World) (V : List Val) → EnvBelow n v → FitEach incs v n later (targets_of x) → Met c V v w.globals w.frame → AreTyped c w.globals w.frame → Typed V → Fails (leave c x w) → Found n V (Followed (edges v later x))
          exit_found (Leap []) v n w V b f m ty h x =
              found_map n V _ (Followed (edges v later (Leap []))) (λ W a r. way_at (edges v later (Leap [])) 0 (edge_to v later [] 0) W refl r) (edge_found 0 v n [] w V b f.0 m ty h x (λ W R a r. r))
          exit_found (Leap (k ∷ [])) v n w V b f m ty h x =
              found_map n V _ (Followed (edges v later (Leap (k ∷ [])))) (λ W a r. way_at (edges v later (Leap (k ∷ []))) 0 (edge_to v later [] k) W refl r) (edge_found k v n [] w V b f.0 m ty h x (λ W R a r. r))
          exit_found (Leap (k ∷ l ∷ ks)) v n w V b f m ty h x =
              branch_found w.choices (suc (suc (length ks))) w (λ j u. Jumps (Behind (nth (k ∷ l ∷ ks) j)) u) (Found n V (Followed (edges v later (Leap (k ∷ l ∷ ks))))) (λ j rest lt y.
              let q = get_nth (k ∷ l ∷ ks) k j (lt_true j (suc (suc (length ks))) lt) in
              found_map n V _ (Followed (edges v later (Leap (k ∷ l ∷ ks)))) (λ W a r. way_at (edges v later (Leap (k ∷ l ∷ ks))) j (edge_to v later [] (nth (k ∷ l ∷ ks) j)) W (get_map (edge_to v later []) (k ∷ l ∷ ks) j (nth (k ∷ l ∷ ks) j) q) r) (edge_found (nth (k ∷ l ∷ ks) j) v n [] (record w { choices = rest }) V b (fit_nth incs v n later (k ∷ l ∷ ks) j (nth (k ∷ l ∷ ks) j) f q) m ty h y (λ W R a r. r))) x
          exit_found (Either Star on off) v n w V b f m ty h x =
              branch_found w.choices 2 w (λ k u. if k == 0 then Jumps (Behind on) u else Jumps (Behind off) u) (Found n V (Followed (edges v later (Either Star on off)))) (λ j rest lt y. side (j == 0) rest y) x
            where
              side : (s : Bool) (rest : List Choice) → Fails (if s then Jumps (Behind on) (record w { choices = rest }) else Jumps (Behind off) (record w { choices = rest })) → Found n V (Followed (edges v later (Either Star on off)))
              side true rest y =
                  found_map n V _ (Followed (edges v later (Either Star on off))) (λ W a r. way_at (edges v later (Either Star on off)) 0 (edge_to v later [] on) W refl r) (edge_found on v n [] (record w { choices = rest }) V b f.0 m ty h y (λ W R a r. r))
              side false rest y =
                  found_map n V _ (Followed (edges v later (Either Star on off))) (λ W a r. way_at (edges v later (Either Star on off)) 1 (edge_to v later [] off) W refl r) (edge_found off v n [] (record w { choices = rest }) V b f.1.0 m ty h y (λ W R a r. r))
          exit_found (Either (Test e) on off) v n w V b f m ty h x = side (truth_of (ev e (scope c w))) refl x
            where
              same_truth : (W : List Val) → Agree n V W → truth_of (ev (rename e v) (values c W)) ≡ truth_of (ev e (scope c w))
              same_truth W a =
                  ap truth_of (renamed c e v W ∙ ap (ev e) (seen_agree c n V W v b a ∙ met_scope c V v w m))

              side : (s : Bool) → truth_of (ev e (scope c w)) ≡ s → Fails (if s then Jumps (Behind on) w else Jumps (Behind off) w) → Found n V (Followed (edges v later (Either (Test e) on off)))
              side true q y =
                  found_map n V _ (Followed (edges v later (Either (Test e) on off))) (λ W a r. way_at (edges v later (Either (Test e) on off)) 0 (edge_to v later (Supposes None (rename e v) ∷ []) on) W refl r) (edge_found on v n (Supposes None (rename e v) ∷ []) w V b f.0 m ty h y (λ W R a r. subst (λ s. Hits (if s then On else Stopped) R) (sym (same_truth W a ∙ q)) r))
              side false q y =
                  found_map n V _ (Followed (edges v later (Either (Test e) on off))) (λ W a r. way_at (edges v later (Either (Test e) on off)) 1 (edge_to v later (Supposes None (Not (rename e v)) ∷ []) off) W refl r) (edge_found off v n (Supposes None (Not (rename e v)) ∷ []) w V b f.1.0 m ty h y (λ W R a r. subst (λ s. Hits (if not s then On else Stopped) R) (sym (same_truth W a ∙ q)) r))

module _ (incs : List Ty) (c : Ctx) (t : Spot) (sig : Sig) (tys : Var → Ty) (same : (x : Var) → tys x ≡ type_in (decl_of c x)) (args_typed : (es : Exs) (ts : List Ty) (w : World) → HaveTypes es sig ts → AreTyped c w.globals w.frame → are_of ts (evs es (scope c w)) ≡ true) where
  below_at : (bs : List Block) (later : List Arrival) → FitsBlocks incs tys later bs → (k : ℕ) → BelowAt incs c t [] sig tys same args_typed (slice_get later k)
  below_at bs [] f k = tt
  below_at [] (a ∷ later) f k = absurd f
  below_at (b ∷ bs) (a ∷ later) f zero = f.0
  below_at (b ∷ bs) (a ∷ later) f (suc k) = below_at bs later f.3 k

  -- from each block on
  pub blocks_found : (bs : List Block) (later : List Arrival) → FitsBlocks incs tys later bs → AreTypedBlocks sig tys bs → (k : ℕ) (w : World) (V : List Val) → MetAt incs c t [] sig tys same args_typed (slice_get later k) V w → AreTyped c w.globals w.frame → are_of incs V ≡ true → at_table (table c [] bs) k w ≡ Failed t → FoundAt incs c t [] sig tys same args_typed (slice_get later k) V (Reach incs c t [] sig tys same args_typed later (passives later bs) k)
  blocks_found [] [] f typed k w V m ty h x = absurd (let bad : ⊥ = cc in bad)
  blocks_found [] (a ∷ later) f typed k w V m ty h x = absurd f
  blocks_found (b ∷ bs) [] f typed k w V m ty h x = absurd f
  blocks_found (b ∷ bs) (a ∷ later) f typed zero w V m ty h x =
      let Tb = table c [] bs in
      let p = pass_all b.cmds a.env a.next in
      let pbs = passives later bs in
      found_map incs a.next V (λ W. Hits (walk_cmds c.set t (values c W) p.cmds) (Followed incs c t Tb sig tys same args_typed later pbs (edges p.env later b.exit) W)) (Reach incs c t [] sig tys same args_typed (a ∷ later) (passives (a ∷ later) (b ∷ bs)) 0)
      (λ W ag r. hits_walk (walk_cmds c.set t (values c W) p.cmds) (follow c.set t (values c W) (walks c.set t (values c W) pbs) (edges p.env later b.exit)) r)
      (cmds_found incs c t Tb sig tys same args_typed b.cmds a.env a.next w V f.1 typed.0 f.0 m ty h (leave c b.exit) (Followed incs c t Tb sig tys same args_typed later pbs (edges p.env later b.exit))
      (λ u W m2 t2 h2 x2. exit_found incs c t Tb sig tys same args_typed later pbs (below_at bs later f.3) (λ j w' V' m' ty' h' x'. blocks_found bs later f.3 typed.1 j w' V' m' ty' h' x') b.exit p.env p.next u W (pass_all_below b.cmds a.env a.next f.0) f.2 m2 t2 h2 x2)
      x)
  blocks_found (b ∷ bs) (a ∷ later) f typed (suc k) w V m ty h x = blocks_found bs later f.3 typed.1 k w V m ty h x
