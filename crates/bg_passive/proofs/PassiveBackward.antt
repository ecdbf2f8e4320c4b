-- A walk through passive blocks that fails at the target gives choices, by which a run of the blocks fails there.
use Rattle.std.proofs.Common.{◌≡◌, ℕ, zero, suc, Bool, true, false, List, [], ◌∷◌, ◌++◌, length, map, Option, Some, None, refl, sym, ap, ◌∙◌, subst, append_assoc, arith}
use Rattle.std.specs.Prelude.{◌<◌, ◌≤◌, ◌||◌, not, if◌then◌else◌, ◌==◌, nat_lt, slice_get, unwrap_or}
use Rattle.std.proofs.lemmas.Bool.{eqb-true}
use Rattle.bg_ast.specs.Values.{Val, Ty, is_of, truth_of, val_eq}
use Rattle.bg_ast.specs.Syntax.{Var, Global, Local, Ex, Exs, Read, Not, NoMore, More, Star, Test, Decl}
use Rattle.bg_sense.specs.Eval.{Scope, ev, evs, value_at}
use Rattle.bg_ast.specs.Execution.{Choice, Branch, Chosen, Spot}
use Rattle.bg_sense.specs.Flow.{World, Failed, Blocked, BadChoice, Behind, Flow, Next, Jumps, Over, and_then}
use Rattle.bg_sense.specs.Context.{Ctx, scope, callee_scope}
use Rattle.bg_sense.specs.Choices.{choose_from, forget_all, choose_all}
use Rattle.bg_sense.specs.Variables.{put, put_all, type_in, decl_of}
use Rattle.bg_sense.specs.Types.{are_of, types_of}
use Rattle.bg_flow.specs.Core.{Demand, Saying, Plan, Cmd, Check, Suppose, Forget, Put, Perform, Finish, check_that, check_these, suppose_this, suppose_these, perform, act, act_all}
use Rattle.bg_flow.specs.Blocks.{Exit, Leap, Either, Block, Table, at_table, enter, index, nth, leave, table}
use Rattle.bg_passive.specs.Passive.{PassiveCmd, Supposes, PassiveBlock, spot_eq, is_absent, Walked, On, Stopped, Hit, walk_cmds, walk_at, walk_edge, follow, walks}
use Rattle.bg_passive.specs.Incarnations.{Env, rename, hold, hold_next, after_vars, after_exs, each_ex, each_decl, claims_in, supposes_in, is_worth, set_to, pass_call, pass, pass_all, Arrival, joins, join_env, edge_to, edges, passives, TypesFrom, FitsCmd, FitsCmds, ForBool, JoinsFit, after_joins, FitsJoin, FitEach, targets_of, FitsBlocks}
use Rattle.bg_passive.specs.ReadBack.{vars_choices, decls_choices, cmd_choices, cmds_choices, choices_at, choices_to, follow_choices, walk_choices}
use Rattle.bg_flow.proofs.CoreRuns.{then_assoc}
use Rattle.bg_passive.proofs.Renaming.{val_eq_true, get_are, map_append, spot_true, values, seen, renamed, same_scopes, Met, met_scope, hold_met, hold_all_met, MetBy}
use Rattle.bg_passive.proofs.Walks.{Hits, hits_map, walk_hits, split_walk, checked, supposed}

-- a world with other choices
abbrev pub with_choices : World → List Choice → World
with_choices w cs = record w { choices = cs }

put_with : (x : Var) (a : Val) (w : World) (cs : List Choice) → put x a (with_choices w cs) ≡ with_choices (put x a w) cs
put_with (Global x) a w cs = refl
put_with (Local x) a w cs = refl

put_all_with : (xs : List Var) (vs : List Val) (w : World) (cs : List Choice) → put_all xs vs (with_choices w cs) ≡ with_choices (put_all xs vs w) cs
put_all_with [] vs w cs = refl
put_all_with (x ∷ xs) [] w cs = refl
put_all_with (x ∷ xs) (a ∷ vs) w cs = ap (put_all xs vs) (put_with x a w cs) ∙ put_all_with xs vs (put x a w) cs

lt_test : (j n : ℕ) → j < n → nat_lt j n ≡ true
lt_test j n e = grind arith

module _ (incs : List Ty) (c : Ctx) (t : Spot) (Tb : Table) where
  abbrev Fails : Flow → Type 0
  Fails f = enter Tb index f ≡ Failed t

  abbrev walk : List Val → List PassiveCmd → Walked
  walk V ks = walk_cmds c.set t (values c V) ks

  same_test : (V : List Val) (v : Env) (s : Scope) (b : Option ℕ) (e : Ex) → seen c V v ≡ s → (is_absent c.set b || truth_of (ev (rename e v) (values c V))) ≡ (is_absent c.set b || truth_of (ev e s))
  same_test V v s b e q = ap (λ x. is_absent c.set b || truth_of x) (renamed c e v V ∙ ap (ev e) q)

  claim_back : (x x' : Bool) (s : Spot) (p : Walked) (R : Type 0) (f : Flow) → x' ≡ x → (Hits p R → Fails f) → Hits (if x' then p else (if spot_eq s t then Hit else Stopped)) R → Fails (if x then f else Over (Failed s))
  claim_back x true s p R f e next h = subst (λ b. Fails (if b then f else Over (Failed s))) e (next h)
  claim_back x false s p R f e next h =
      subst (λ b. Fails (if b then f else Over (Failed s))) e (hit (spot_eq s t) refl h)
    where
      hit : (b : Bool) → spot_eq s t ≡ b → Hits (if b then Hit else Stopped) R → Failed s ≡ Failed t
      hit true q g = ap Failed (spot_true s t q)
      hit false q g = absurd g

  suppose_back : (x x' : Bool) (p : Walked) (R : Type 0) (f : Flow) → x' ≡ x → (Hits p R → Fails f) → Hits (if x' then p else Stopped) R → Fails (if x then f else Over Blocked)
  suppose_back x true p R f e next h = subst (λ b. Fails (if b then f else Over Blocked)) e (next h)
  suppose_back x false p R f e next h = absurd h

  pub checks_back : (sees : World → Scope) (v : Env) (ds : List Demand) (w : World) (V : List Val) → seen c V v ≡ sees w → (L : World → Flow) (R : Type 0) → (R → Fails (L w)) → Hits (walk V (claims_in v ds)) R → Fails (and_then (check_these c sees ds w) L)
  checks_back sees v [] w V q L R next h = next h
  checks_back sees v (d ∷ ds) w V q L R next h =
      ap (enter Tb index) (then_assoc (check_that c sees d w) (check_these c sees ds) L ∙ checked c.set d.candidate (truth_of (ev d.says (sees w))) d.spot w (λ u. and_then (check_these c sees ds u) L))
      ∙ claim_back (is_absent c.set d.candidate || truth_of (ev d.says (sees w))) (is_absent c.set d.candidate || truth_of (ev (rename d.says v) (values c V))) d.spot (walk V (claims_in v ds)) R (and_then (check_these c sees ds w) L) (same_test V v (sees w) d.candidate d.says q) (checks_back sees v ds w V q L R next) h

  supposes_back : (sees : World → Scope) (v : Env) (ds : List Saying) (w : World) (V : List Val) → seen c V v ≡ sees w → (L : World → Flow) (R : Type 0) → (R → Fails (L w)) → Hits (walk V (supposes_in v ds)) R → Fails (and_then (suppose_these c sees ds w) L)
  supposes_back sees v [] w V q L R next h = next h
  supposes_back sees v (d ∷ ds) w V q L R next h =
      ap (enter Tb index) (then_assoc (suppose_this c sees d w) (suppose_these c sees ds) L ∙ supposed c.set d.candidate (truth_of (ev d.says (sees w))) w (λ u. and_then (suppose_these c sees ds u) L))
      ∙ suppose_back (is_absent c.set d.candidate || truth_of (ev d.says (sees w))) (is_absent c.set d.candidate || truth_of (ev (rename d.says v) (values c V))) (walk V (supposes_in v ds)) R (and_then (suppose_these c sees ds w) L) (same_test V v (sees w) d.candidate d.says q) (supposes_back sees v ds w V q L R next) h

  -- an incarnation is worth what it is set to
  worth_off : (V : List Val) (j : ℕ) (e : Ex) (ks : List PassiveCmd) (R : Type 0) → Hits (walk V (is_worth j e ∷ ks)) R → Hits (walk V ks) R × (value_at V j ≡ ev e (values c V))
  worth_off V j e ks R h = on (val_eq (value_at V j) (ev e (values c V))) refl h
    where
      on : (b : Bool) → val_eq (value_at V j) (ev e (values c V)) ≡ b → Hits (if b then walk V ks else Stopped) R → Hits (walk V ks) R × (value_at V j ≡ ev e (values c V))
      on true q g = (g, val_eq_true (value_at V j) (ev e (values c V)) q)
      on false q g = absurd g

  pub sets_off : (V : List Val) (es : Exs) (m : ℕ) (v : Env) (R : Type 0) → Hits (walk V (set_to m es v)) R → R × (map (value_at V) (each_ex m es) ≡ evs es (seen c V v))
  sets_off V NoMore m v R h = (h, refl)
  sets_off V (More e es) m v R h =
      let a = worth_off V m (rename e v) (set_to (suc m) es v) R h in
      let b = sets_off V es (suc m) v R a.0 in
      (b.0, ap (λ x. x ∷ map (value_at V) (each_ex (suc m) es)) (a.1 ∙ renamed c e v V) ∙ ap (λ l. ev e (seen c V v) ∷ l) b.1)

  chosen_back : (ty : Ty) (a : Val) (w : World) (k : Val → World → Flow) (L : World → Flow) (cs : List Choice) → is_of ty a ≡ true → Fails (and_then (k a (with_choices w cs)) L) → Fails (and_then (choose_from (Chosen a ∷ cs) ty w k) L)
  chosen_back ty a w k L cs e x =
      subst (λ b. Fails (and_then (if b then k a (with_choices w cs) else Over BadChoice) L)) (sym e) x

  module _ (tys : Var → Ty) (same : (x : Var) → tys x ≡ type_in (decl_of c x)) where
    forget_back : (xs : List Var) (n : ℕ) (v : Env) (w : World) (rest : List Choice) (V : List Val) → TypesFrom incs n (map tys xs) → are_of incs V ≡ true → Met c V v w.globals w.frame → (L : World → Flow) → ((u : World) → Met c V (hold_next xs n v) u.globals u.frame → Fails (L (with_choices u rest))) → Fails (and_then (forget_all c xs (with_choices w (vars_choices xs n V ++ rest))) L)
    forget_back [] n v w rest V f h m L next = next w m
    forget_back (y ∷ xs) n v w rest V f h m L next =
        let a = value_at V n in
        chosen_back (type_in (decl_of c y)) a w (λ b u. forget_all c xs (put y b u)) L (vars_choices xs (suc n) V ++ rest) (subst (λ q. is_of q a ≡ true) (same y) (get_are incs V n (tys y) h f.0)) (ap (λ u. enter Tb index (and_then (forget_all c xs u) L)) (put_with y a w (vars_choices xs (suc n) V ++ rest)) ∙ forget_back xs (suc n) (hold y n v) (put y a w) rest V f.1 h (hold_met c V v y n a w refl m) L next)

    results_back : (ds : List Decl) (n : ℕ) (w : World) (rest : List Choice) (V : List Val) (k : List Val → World → Flow) → TypesFrom incs n (types_of ds) → are_of incs V ≡ true → (L : World → Flow) → Fails (and_then (k (map (value_at V) (each_decl n ds)) (with_choices w rest)) L) → Fails (and_then (choose_all ds (with_choices w (decls_choices ds n V ++ rest)) k) L)
    results_back [] n w rest V k f h L next = next
    results_back (d ∷ ds) n w rest V k f h L next =
        let a = value_at V n in
        chosen_back d.ty a w (λ b u. choose_all ds u (λ vs z. k (b ∷ vs) z)) L (decls_choices ds (suc n) V ++ rest) (get_are incs V n d.ty h f.0) (results_back ds (suc n) w rest V (λ vs z. k (a ∷ vs) z) f.1 h L next)

    call_back : (k : Plan) (v : Env) (n : ℕ) (w : World) (rest : List Choice) (V : List Val) → FitsCmd incs tys (Perform k) n → are_of incs V ≡ true → Met c V v w.globals w.frame → (L : World → Flow) (R : Type 0) → (R → (u : World) → Met c V (pass_call k v n).env u.globals u.frame → Fails (L (with_choices u rest))) → Hits (walk V (pass_call k v n).cmds) R → Fails (and_then (perform c k (with_choices w (cmd_choices (Perform k) n V ++ rest))) L)
    call_back k v n w rest V f h m L R next x =
        ap (λ cs. enter Tb index (and_then (perform c k (with_choices w cs)) L)) (append_assoc forgot (decls_choices k.results n2 V) rest)
        ∙ (ap (enter Tb index) (then_assoc (check_these c (callee_scope c w.globals args) k.needs w0) called L)
        ∙ checks_back (callee_scope c w.globals args) vc k.needs w0 V (same_scopes c (map (value_at V) v.globals) w.globals (map (value_at V) v.globals) w.globals (map (value_at V) anums) args m.0 m.0 q1) (λ z. and_then (called z) L) R2 after_checks (split_walk c.set t (values c V) claims supposes R x1.0))
      where
        args : List Val
        args = evs k.args (scope c w)

        n1 : ℕ
        n1 = after_exs k.args n

        anums : List ℕ
        anums = each_ex n k.args

        v2 : Env
        v2 = hold_next k.modifies n1 v

        n2 : ℕ
        n2 = after_vars k.modifies n1

        rnums : List ℕ
        rnums = each_decl n2 k.results

        vs : List Val
        vs = map (value_at V) rnums

        forgot : List Choice
        forgot = vars_choices k.modifies n1 V

        got : List Choice
        got = decls_choices k.results n2 V ++ rest

        w0 : World
        w0 = with_choices w (forgot ++ got)

        vc : Env
        vc = record { globals = v.globals; before = v.globals; frame = anums }

        vg : Env
        vg = record { globals = v2.globals; before = v.globals; frame = anums ++ rnums }

        claims : List PassiveCmd
        claims = claims_in vc k.needs

        supposes : List PassiveCmd
        supposes = supposes_in vg k.gives

        R2 : Type 0
        R2 = Hits (walk V supposes) R

        stored : List Val → World → Flow
        stored results t' =
            and_then (suppose_these c (callee_scope c w.globals (args ++ results)) k.gives t') (λ s. Next (put_all k.takes results s))

        chosen : World → Flow
        chosen u = choose_all k.results u stored

        called : World → Flow
        called q =
            and_then (forget_all c k.modifies q) (λ u. choose_all k.results u (λ results t'. and_then (suppose_these c (callee_scope c q.globals (args ++ results)) k.gives t') (λ s. Next (put_all k.takes results s))))

        x1 : Hits (walk V (claims ++ supposes)) R × (map (value_at V) anums ≡ evs k.args (seen c V v))
        x1 =
            sets_off V k.args n v (Hits (walk V (claims ++ supposes)) R) (split_walk c.set t (values c V) (set_to n k.args v) (claims ++ supposes) R x)

        q1 : map (value_at V) anums ≡ args
        q1 = x1.1 ∙ ap (evs k.args) (met_scope c V v w m)

        after_results : R2 → (u : World) → Met c V v2 u.globals u.frame → Fails (and_then (stored vs (with_choices u rest)) L)
        after_results r u m2 =
            ap (enter Tb index) (then_assoc (suppose_these c (callee_scope c w.globals (args ++ vs)) k.gives (with_choices u rest)) (λ s. Next (put_all k.takes vs s)) L)
            ∙ supposes_back (callee_scope c w.globals (args ++ vs)) vg k.gives (with_choices u rest) V (same_scopes c (map (value_at V) v2.globals) u.globals (map (value_at V) v.globals) w.globals (map (value_at V) (anums ++ rnums)) (args ++ vs) m2.0 m.0 (map_append V anums rnums ∙ ap (λ l. l ++ vs) q1)) (λ s. L (put_all k.takes vs s)) R (λ r2. ap (λ z. enter Tb index (L z)) (put_all_with k.takes vs u rest) ∙ next r2 (put_all k.takes vs u) (hold_all_met c V k.takes rnums vs v2 u refl m2)) r

        after_checks : R2 → Fails (and_then (called w0) L)
        after_checks r =
            ap (enter Tb index) (then_assoc (forget_all c k.modifies w0) chosen L)
            ∙ forget_back k.modifies n1 v w got V f.1 h m (λ u. and_then (chosen u) L) (λ u m2. results_back k.results n2 u rest V stored f.2 h L (after_results r u m2))

    pub cmd_back : (k : Cmd) (v : Env) (n : ℕ) (w : World) (rest : List Choice) (V : List Val) → FitsCmd incs tys k n → are_of incs V ≡ true → Met c V v w.globals w.frame → (L : World → Flow) (R : Type 0) → (R → (u : World) → Met c V (pass k v n).env u.globals u.frame → Fails (L (with_choices u rest))) → Hits (walk V (pass k v n).cmds) R → Fails (and_then (act c k (with_choices w (cmd_choices k n V ++ rest))) L)
    cmd_back (Check ds) v n w rest V f h m L R next x =
        checks_back (scope c) v ds (with_choices w rest) V (met_scope c V v w m) L R (λ r. next r w m) x
    cmd_back (Suppose ds) v n w rest V f h m L R next x =
        supposes_back (scope c) v ds (with_choices w rest) V (met_scope c V v w m) L R (λ r. next r w m) x
    cmd_back (Forget xs) v n w rest V f h m L R next x = forget_back xs n v w rest V f h m L (next x)
    cmd_back (Put xs es) v n w rest V f h m L R next x =
        let g = sets_off V es n v R x in
        let vs = evs es (scope c w) in
        ap (λ z. enter Tb index (L z)) (put_all_with xs vs w rest) ∙ next g.0 (put_all xs vs w) (hold_all_met c V xs (each_ex n es) vs v w (g.1 ∙ ap (evs es) (met_scope c V v w m)) m)
    cmd_back (Perform k) v n w rest V f h m L R next x = call_back k v n w rest V f h m L R next x
    cmd_back Finish v n w rest V f h m L R next x = absurd x

    cmds_back : (ks : List Cmd) (v : Env) (n : ℕ) (w : World) (rest : List Choice) (V : List Val) → FitsCmds incs tys ks v n → are_of incs V ≡ true → Met c V v w.globals w.frame → (L : World → Flow) (R : Type 0) → (R → (u : World) → Met c V (pass_all ks v n).env u.globals u.frame → Fails (L (with_choices u rest))) → Hits (walk V (pass_all ks v n).cmds) R → Fails (and_then (act_all c ks (with_choices w (cmds_choices ks v n V ++ rest))) L)
    cmds_back [] v n w rest V f h m L R next x = next x w m
    cmds_back (k ∷ ks) v n w rest V f h m L R next x =
        let p = pass k v n in
        let more = (pass_all ks p.env p.next).cmds in
        let own = cmds_choices ks p.env p.next V in
        ap (λ cs. enter Tb index (and_then (act_all c (k ∷ ks) (with_choices w cs)) L)) (append_assoc (cmd_choices k n V) own rest)
        ∙ (ap (enter Tb index) (then_assoc (act c k (with_choices w (cmd_choices k n V ++ (own ++ rest)))) (act_all c ks) L)
        ∙ cmd_back k v n w (own ++ rest) V f.0 h m (λ u. and_then (act_all c ks u) L) (Hits (walk V more) R) (λ y u m2. cmds_back ks p.env p.next u rest V f.1 h m2 L R next y) (split_walk c.set t (values c V) p.cmds more R x))

    joins_off : (V : List Val) (m : ℕ) (is js : List ℕ) (R : Type 0) → JoinsFit incs m is js → Hits (walk V (joins is js)) R → R × (map (value_at V) js ≡ map (value_at V) is)
    joins_off V m [] [] R f h = (h, refl)
    joins_off V m [] (j ∷ js) R f h = absurd f
    joins_off V m (i ∷ is) [] R f h = absurd f
    joins_off V m (i ∷ is) (j ∷ js) R f h = on (i == j) refl f h (joins_off V m is js R) (joins_off V (suc j) is js R)
      where
        on : (b : Bool) → (i == j) ≡ b → ForBool b (JoinsFit incs m is js) (m ≤ j × ((ty : Ty) × ((slice_get incs i ≡ Some ty) × (slice_get incs j ≡ Some ty))) × JoinsFit incs (suc j) is js) → Hits (walk V (if b then joins is js else is_worth j (Read (Local i)) ∷ joins is js)) R → (JoinsFit incs m is js → Hits (walk V (joins is js)) R → R × (map (value_at V) js ≡ map (value_at V) is)) → (JoinsFit incs (suc j) is js → Hits (walk V (joins is js)) R → R × (map (value_at V) js ≡ map (value_at V) is)) → R × (map (value_at V) (j ∷ js) ≡ map (value_at V) (i ∷ is))
        on true e g x k l =
            let r = k g x in
            (r.0, ap (λ y. y ∷ map (value_at V) js) (ap (value_at V) (sym (eqb-true i j e))) ∙ ap (λ y. value_at V i ∷ y) r.1)
        on false e g x k l =
            let z = worth_off V j (Read (Local i)) (joins is js) R x in
            let r = l g.2 z.0 in
            (r.0, ap (λ y. y ∷ map (value_at V) js) z.1 ∙ ap (λ y. value_at V i ∷ y) r.1)

    module _ (later : List Arrival) (pbs : List PassiveBlock) where
      abbrev behind : List Val → List (List ℕ → Bool)
      behind V = walks c.set t (values c V) pbs

      join_at : (o : Option Arrival) (v : Env) (n : ℕ) (w : World) (V : List Val) (R : Type 0) → FitsJoin incs v n o → Met c V v w.globals w.frame → Hits (walk V (join_env v o)) R → R × MetBy c o V w
      join_at None v n w V R f m x = (x, tt)
      join_at (Some a) v n w V R f m x =
          let u = a.env in
          let y = joins_off V n v.globals u.globals (Hits (walk V (joins v.frame u.frame)) R) f.2 (split_walk c.set t (values c V) (joins v.globals u.globals) (joins v.frame u.frame) R x) in
          let z = joins_off V (after_joins n v.globals u.globals) v.frame u.frame R f.3 y.0 in
          (z.0, (y.1 ∙ m.0, z.1 ∙ m.1, ap (map (value_at V)) (sym f.1) ∙ m.2))

      module _ (V : List Val) (h : are_of incs V ≡ true) (chosen_behind : List (List ℕ → List Choice)) (ih : (k : ℕ) (w : World) → MetBy c (slice_get later k) V w → (choices : List ℕ) → walk_at (slice_get (behind V) k) choices ≡ true → at_table Tb k (with_choices w (choices_at (slice_get chosen_behind k) choices)) ≡ Failed t) where
        -- from there on it fails
        abbrev FailsAt : ℕ → World → List ℕ → Type 0
        FailsAt k w choices = at_table Tb k (with_choices w (choices_at (slice_get chosen_behind k) choices)) ≡ Failed t

        edge_back : (k : ℕ) (v : Env) (n : ℕ) (first : List PassiveCmd) (w : World) (choices : List ℕ) → FitsJoin incs v n (slice_get later k) → Met c V v w.globals w.frame → walk_edge c.set t (values c V) (behind V) (Some (edge_to v later first k)) choices ≡ true → Hits (walk V first) (FailsAt k w choices)
        edge_back k v n first w choices f m x =
            let R : Type 0 = walk_at (slice_get (behind V) k) choices ≡ true in
            let j = join_env v (slice_get later k) in
            hits_map (walk V first) (Hits (walk V j) R) (FailsAt k w choices) (λ y. let z = join_at (slice_get later k) v n w V R f m y in ih k w z.1 choices z.0) (split_walk c.set t (values c V) first j R (walk_hits (walk V (first ++ j)) (walk_at (slice_get (behind V) k)) choices x))

        back_map : (v : Env) (n : ℕ) (ls : List ℕ) (j : ℕ) (choices : List ℕ) (d : ℕ) → FitEach incs v n later ls → walk_edge c.set t (values c V) (behind V) (slice_get (map (edge_to v later []) ls) j) choices ≡ true → j < length ls × (slice_get ls j ≡ Some (unwrap_or (slice_get ls j) d)) × FitsJoin incs v n (slice_get later (unwrap_or (slice_get ls j) d)) × (walk_edge c.set t (values c V) (behind V) (Some (edge_to v later [] (unwrap_or (slice_get ls j) d))) choices ≡ true)
        back_map v n [] j choices d f x = absurd (let bad : ⊥ = cc in bad)
        back_map v n (l ∷ ls) zero choices d f x = (omega arith, refl, f.0, x)
        back_map v n (l ∷ ls) (suc j) choices d f x =
            let r = back_map v n ls j choices d f.1 x in
            let le = r.0 in
            (omega arith, r.1, r.2, r.3)

        pub exit_back : (x : Exit) (v : Env) (n : ℕ) (w : World) (choices : List ℕ) → FitEach incs v n later (targets_of x) → Met c V v w.globals w.frame → follow c.set t (values c V) (behind V) (edges v later x) choices ≡ true → Fails (leave c x (with_choices w (follow_choices chosen_behind x choices)))
        exit_back x v n w [] f m y = absurd (let bad : ⊥ = cc in bad)
        exit_back (Leap []) v n w (zero ∷ choices) f m y = edge_back 0 v n [] w choices f.0 m y
        exit_back (Leap []) v n w (suc j ∷ choices) f m y = absurd (let bad : ⊥ = cc in bad)
        exit_back (Leap (k ∷ [])) v n w (zero ∷ choices) f m y = edge_back k v n [] w choices f.0 m y
        exit_back (Leap (k ∷ [])) v n w (suc j ∷ choices) f m y = absurd (let bad : ⊥ = cc in bad)
        exit_back (Leap (k ∷ l ∷ ks)) v n w (j ∷ choices) f m y =
            let r = back_map v n (k ∷ l ∷ ks) j choices k f y in
            let to = nth (k ∷ l ∷ ks) j in
            ap (λ o. enter Tb index (leave c (Leap (k ∷ l ∷ ks)) (with_choices w (Branch j ∷ choices_to chosen_behind o choices)))) r.1
            ∙ subst (λ b. Fails (if b then Jumps (Behind to) (with_choices w (choices_at (slice_get chosen_behind to) choices)) else Over BadChoice)) (sym (lt_test j (suc (suc (length ks))) r.0)) (edge_back to v n [] w choices r.2 m r.3)
        exit_back (Either Star on off) v n w (zero ∷ choices) f m y = edge_back on v n [] w choices f.0 m y
        exit_back (Either Star on off) v n w (suc zero ∷ choices) f m y = edge_back off v n [] w choices f.1.0 m y
        exit_back (Either Star on off) v n w (suc (suc j) ∷ choices) f m y = absurd (let bad : ⊥ = cc in bad)
        exit_back (Either (Test e) on off) v n w (zero ∷ choices) f m y =
            side (truth_of (ev (rename e v) (values c V))) refl (edge_back on v n (Supposes None (rename e v) ∷ []) w choices f.0 m y)
          where
            side : (s : Bool) → truth_of (ev (rename e v) (values c V)) ≡ s → Hits (if s then On else Stopped) (FailsAt on w choices) → Fails (leave c (Either (Test e) on off) (with_choices w (choices_at (slice_get chosen_behind on) choices)))
            side true q g =
                subst (λ b. Fails (if b then Jumps (Behind on) (with_choices w (choices_at (slice_get chosen_behind on) choices)) else Jumps (Behind off) (with_choices w (choices_at (slice_get chosen_behind on) choices)))) (sym q ∙ ap truth_of (renamed c e v V ∙ ap (ev e) (met_scope c V v w m))) g
            side false q g = absurd g
        exit_back (Either (Test e) on off) v n w (suc zero ∷ choices) f m y =
            side (truth_of (ev (rename e v) (values c V))) refl (edge_back off v n (Supposes None (Not (rename e v)) ∷ []) w choices f.1.0 m y)
          where
            side : (s : Bool) → truth_of (ev (rename e v) (values c V)) ≡ s → Hits (if not s then On else Stopped) (FailsAt off w choices) → Fails (leave c (Either (Test e) on off) (with_choices w (choices_at (slice_get chosen_behind off) choices)))
            side true q g = absurd g
            side false q g =
                subst (λ b. Fails (if b then Jumps (Behind on) (with_choices w (choices_at (slice_get chosen_behind off) choices)) else Jumps (Behind off) (with_choices w (choices_at (slice_get chosen_behind off) choices)))) (sym q ∙ ap truth_of (renamed c e v V ∙ ap (ev e) (met_scope c V v w m))) g
        exit_back (Either (Test e) on off) v n w (suc (suc j) ∷ choices) f m y = absurd (let bad : ⊥ = cc in bad)

module _ (incs : List Ty) (c : Ctx) (t : Spot) (tys : Var → Ty) (same : (x : Var) → tys x ≡ type_in (decl_of c x)) (V : List Val) (h : are_of incs V ≡ true) where
  -- from each block on, by the choices that are read off
  pub blocks_back : (bs : List Block) (later : List Arrival) → FitsBlocks incs tys later bs → (k : ℕ) (w : World) → MetBy c (slice_get later k) V w → (choices : List ℕ) → walk_at (slice_get (walks c.set t (values c V) (passives later bs)) k) choices ≡ true → at_table (table c [] bs) k (with_choices w (choices_at (slice_get (walk_choices V later bs) k) choices)) ≡ Failed t
  blocks_back [] later f k w m choices r = absurd (let bad : ⊥ = cc in bad)
  blocks_back (b ∷ bs) [] f k w m choices r = absurd f
  blocks_back (b ∷ bs) (a ∷ later) f zero w m choices r =
      let Tb = table c [] bs in
      let p = pass_all b.cmds a.env a.next in
      let pbs = passives later bs in
      let F = follow c.set t (values c V) (walks c.set t (values c V) pbs) (edges p.env later b.exit) in
      let bc = walk_choices V later bs in
      cmds_back incs c t Tb tys same b.cmds a.env a.next w (follow_choices bc b.exit choices) V f.1 h m (leave c b.exit) (F choices ≡ true)
      (λ y u m2. exit_back incs c t Tb tys same later pbs V h bc (λ k' w' m' ch r'. blocks_back bs later f.3 k' w' m' ch r') b.exit p.env p.next u choices f.2 m2 y)
      (walk_hits (walk_cmds c.set t (values c V) p.cmds) F choices r)
  blocks_back (b ∷ bs) (a ∷ later) f (suc k) w m choices r = blocks_back bs later f.3 k w m choices r
