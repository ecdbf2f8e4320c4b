-- The arrivals that are computed fit.
use Rattle.std.proofs.Common.{◌≡◌, ℕ, zero, suc, ◌+◌, Bool, true, false, List, [], ◌∷◌, ◌++◌, length, map, Option, Some, None, refl, sym, ap, ◌∙◌, subst, append_assoc, inl, inr, arith}
use Rattle.std.specs.Prelude.{◌<◌, ◌≤◌, ◌⊎◌, if◌then◌else◌, ◌==◌, slice_get, slice_set}
use Rattle.std.proofs.lemmas.Bool.{eqb-true, eq-eqb}
use Rattle.bg_ast.specs.Values.{Ty}
use Rattle.bg_ast.specs.Syntax.{Prog, Proc, Impl, Var, Global, Local, Exs, NoMore, More, Decl}
use Rattle.bg_ast.specs.Execution.{Interp, State}
use Rattle.bg_sense.specs.Context.{Ctx, Turning}
use Rattle.bg_sense.specs.Variables.{type_in, count_from}
use Rattle.bg_sense.specs.Run.{context}
use Rattle.bg_sense.specs.Types.{types_of}
use Rattle.bg_sense.specs.Typing.{Sig, HaveTypes, sig_of, IsTypedSt}
use Rattle.bg_flow.specs.Core.{Cmd, Check, Suppose, Forget, Put, Perform, Finish, frame_decls, routine_of}
use Rattle.bg_flow.specs.Blocks.{Block, led, code, at_end, blocks_of}
use Rattle.bg_passive.specs.Incarnations.{Env, hold, hold_all, hold_next, after_vars, after_exs, after_decls, each_ex, each_decl, pass, pass_all, Arrival, ty_of, TypesFrom, FitsCmd, FitsCmds, Below, EnvBelow, ForBool, JoinsFit, after_joins, FitsJoin, FitEach, targets_of, FitsBlocks, IsTypedCmd, AreTypedCmds, AreTypedBlocks, entry_env, TypedNums, EnvTyped, ArrivalsTyped, incarnations, StartsAt, MakesPassive}
use Rattle.bg_passive.specs.Arrivals.{all_begin, tails, merge, after_merge, merge_types, globals_in, frames_in, arrive_at, arrive_types, Ways, ways_here, ways_on, way_to, ways_to, cmd_types, cmds_types, arrive, arrived}
use Rattle.bg_sense.proofs.Bools.{and_left, and_right}
use Rattle.bg_passive.proofs.Renaming.{below_more, env_more}
use Rattle.bg_passive.proofs.PassiveForward.{after_vars_more, after_exs_more, after_decls_more, pass_below}
use Rattle.bg_passive.proofs.PassiveTyped.{blocks_typed}

-- one of these lists
abbrev IsIn : List ℕ → List (List ℕ) → Type 0
IsIn is [] = ⊥
IsIn is (o ∷ os) = (is ≡ o) ⊎ IsIn is os

begins : (i j : ℕ) (is : List ℕ) (os : List (List ℕ)) → all_begin j os ≡ true → IsIn (i ∷ is) os → i ≡ j
begins i j is [] e h = absurd h
begins i j is ([] ∷ os) e h = absurd (let bad : ⊥ = cc in bad)
begins i j is ((k ∷ ks) ∷ os) e (inl q) = ap first q ∙ eqb-true k j (and_left (k == j) (all_begin j os) e)
  where
    first : List ℕ → ℕ
    first [] = i
    first (x ∷ xs) = x
begins i j is ((k ∷ ks) ∷ os) e (inr h) = begins i j is os (and_right (k == j) (all_begin j os) e) h

in_tails : (i : ℕ) (is : List ℕ) (os : List (List ℕ)) → IsIn (i ∷ is) os → IsIn is (tails os)
in_tails i is [] h = absurd h
in_tails i is ([] ∷ os) (inl q) = absurd (let bad : ⊥ = cc in bad)
in_tails i is ([] ∷ os) (inr h) = inr (in_tails i is os h)
in_tails i is ((k ∷ ks) ∷ os) (inl q) = inl (ap rest q)
  where
    rest : List ℕ → List ℕ
    rest [] = is
    rest (x ∷ xs) = xs
in_tails i is ((k ∷ ks) ∷ os) (inr h) = inr (in_tails i is os h)

other_test : (i n : ℕ) → i < n → (i == n) ≡ false
other_test i n h = on (i == n) refl
  where
    on : (b : Bool) → (i == n) ≡ b → b ≡ false
    on true e = let same : i ≡ n = eqb-true i n e in absurd (let bad : ⊥ = omega arith in bad)
    on false e = refl

more_merged : (n : ℕ) (js : List ℕ) (os : List (List ℕ)) → n ≤ after_merge n js os
more_merged n [] os = omega arith
more_merged n (j ∷ js) os = on (all_begin j os) (more_merged n js (tails os)) (more_merged (suc n) js (tails os))
  where
    on : (b : Bool) → n ≤ after_merge n js (tails os) → suc n ≤ after_merge (suc n) js (tails os) → n ≤ (if b then after_merge n js (tails os) else after_merge (suc n) js (tails os))
    on true x y = x
    on false x y = omega arith

merged_below : (n0 n : ℕ) (js : List ℕ) (os : List (List ℕ)) → n0 ≤ n → Below n0 js → Below (after_merge n js os) (merge n js os)
merged_below n0 n [] os le b = tt
merged_below n0 n (j ∷ js) os le b =
    on (all_begin j os) (merged_below n0 n js (tails os) le b.1) (merged_below n0 (suc n) js (tails os) (omega arith) b.1)
  where
    on : (t : Bool) → Below (after_merge n js (tails os)) (merge n js (tails os)) → Below (after_merge (suc n) js (tails os)) (merge (suc n) js (tails os)) → Below (if t then after_merge n js (tails os) else after_merge (suc n) js (tails os)) (if t then j ∷ merge n js (tails os) else n ∷ merge (suc n) js (tails os))
    on true x y = (let h = b.0 in let m = more_merged n js (tails os) in let g : j < after_merge n js (tails os) = omega arith in g, x)
    on false x y = (let m = more_merged (suc n) js (tails os) in let g : n < after_merge (suc n) js (tails os) = omega arith in g, y)

module _ (incs : List Ty) where
  merged_typed : (n : ℕ) (js : List ℕ) (os : List (List ℕ)) (ts : List Ty) → TypedNums incs js ts → TypesFrom incs n (merge_types js os ts) → TypedNums incs (merge n js os) ts
  merged_typed n [] os [] h f = tt
  merged_typed n [] os (t ∷ ts) h f = absurd h
  merged_typed n (j ∷ js) os [] h f = absurd h
  merged_typed n (j ∷ js) os (t ∷ ts) h f =
      on (all_begin j os) f (λ g. merged_typed n js (tails os) ts h.1 g) (λ g. merged_typed (suc n) js (tails os) ts h.1 g)
    where
      on : (b : Bool) → TypesFrom incs n (if b then merge_types js (tails os) ts else t ∷ merge_types js (tails os) ts) → (TypesFrom incs n (merge_types js (tails os) ts) → TypedNums incs (merge n js (tails os)) ts) → (TypesFrom incs (suc n) (merge_types js (tails os) ts) → TypedNums incs (merge (suc n) js (tails os)) ts) → TypedNums incs (if b then j ∷ merge n js (tails os) else n ∷ merge (suc n) js (tails os)) (t ∷ ts)
      on true g x y = (h.0, x g)
      on false g x y = (g.0, y g.1)

  merge_split : (n : ℕ) (js : List ℕ) (os : List (List ℕ)) (ts rest : List Ty) → TypedNums incs js ts → TypesFrom incs n (merge_types js os ts ++ rest) → TypesFrom incs n (merge_types js os ts) × TypesFrom incs (after_merge n js os) rest
  merge_split n [] os [] rest h f = (tt, f)
  merge_split n [] os (t ∷ ts) rest h f = absurd h
  merge_split n (j ∷ js) os [] rest h f = absurd h
  merge_split n (j ∷ js) os (t ∷ ts) rest h f =
      on (all_begin j os) f (λ g. merge_split n js (tails os) ts rest h.1 g) (λ g. merge_split (suc n) js (tails os) ts rest h.1 g)
    where
      on : (b : Bool) → TypesFrom incs n ((if b then merge_types js (tails os) ts else t ∷ merge_types js (tails os) ts) ++ rest) → (TypesFrom incs n (merge_types js (tails os) ts ++ rest) → TypesFrom incs n (merge_types js (tails os) ts) × TypesFrom incs (after_merge n js (tails os)) rest) → (TypesFrom incs (suc n) (merge_types js (tails os) ts ++ rest) → TypesFrom incs (suc n) (merge_types js (tails os) ts) × TypesFrom incs (after_merge (suc n) js (tails os)) rest) → TypesFrom incs n (if b then merge_types js (tails os) ts else t ∷ merge_types js (tails os) ts) × TypesFrom incs (if b then after_merge n js (tails os) else after_merge (suc n) js (tails os)) rest
      on true g x y = x g
      on false g x y = let z = y g.1 in ((g.0, z.0), z.1)

  abbrev Fit : ℕ → List ℕ → List ℕ → ℕ → Type 0
  Fit n is js m = JoinsFit incs n is js × (after_joins n is js ≡ m)

  fit_kept : (n i j : ℕ) (is js : List ℕ) (m : ℕ) (b : Bool) → (i == j) ≡ b → b ≡ true → Fit n is js m → Fit n (i ∷ is) (j ∷ js) m
  fit_kept n i j is js m b e y f =
      let t : (i == j) ≡ true = e ∙ y in
      (subst (λ x. ForBool x (JoinsFit incs n is js) (n ≤ j × ((ty : Ty) × ((slice_get incs i ≡ Some ty) × (slice_get incs j ≡ Some ty))) × JoinsFit incs (suc j) is js)) (sym t) f.0, ap (λ x. if x then after_joins n is js else after_joins (suc j) is js) t ∙ f.1)

  fit_new : (n i : ℕ) (is js : List ℕ) (m : ℕ) (t : Ty) → i < n → slice_get incs i ≡ Some t → slice_get incs n ≡ Some t → Fit (suc n) is js m → Fit n (i ∷ is) (n ∷ js) m
  fit_new n i is js m t lt gi gn f =
      let e = other_test i n lt in
      (subst (λ x. ForBool x (JoinsFit incs n is js) (n ≤ n × ((ty : Ty) × ((slice_get incs i ≡ Some ty) × (slice_get incs n ≡ Some ty))) × JoinsFit incs (suc n) is js)) (sym e) (omega arith, (t, (gi, gn)), f.0), ap (λ x. if x then after_joins n is js else after_joins (suc n) is js) e ∙ f.1)

  merge_fits : (n0 n : ℕ) (is js : List ℕ) (os : List (List ℕ)) (ts : List Ty) → n0 ≤ n → IsIn is os → TypedNums incs is ts → TypedNums incs js ts → Below n0 is → TypesFrom incs n (merge_types js os ts) → Fit n is (merge n js os) (after_merge n js os)
  merge_fits n0 n [] [] os [] le m hi hj b f = (tt, refl)
  merge_fits n0 n [] (j ∷ js) os [] le m hi hj b f = absurd hj
  merge_fits n0 n (i ∷ is) js os [] le m hi hj b f = absurd hi
  merge_fits n0 n [] js os (t ∷ ts) le m hi hj b f = absurd hi
  merge_fits n0 n (i ∷ is) [] os (t ∷ ts) le m hi hj b f = absurd hj
  merge_fits n0 n (i ∷ is) (j ∷ js) os (t ∷ ts) le m hi hj b f =
      on (all_begin j os) refl f (λ g. merge_fits n0 n is js (tails os) ts le (in_tails i is os m) hi.1 hj.1 b.1 g) (λ g. merge_fits n0 (suc n) is js (tails os) ts (omega arith) (in_tails i is os m) hi.1 hj.1 b.1 g)
    where
      on : (x : Bool) → all_begin j os ≡ x → TypesFrom incs n (if x then merge_types js (tails os) ts else t ∷ merge_types js (tails os) ts) → (TypesFrom incs n (merge_types js (tails os) ts) → Fit n is (merge n js (tails os)) (after_merge n js (tails os))) → (TypesFrom incs (suc n) (merge_types js (tails os) ts) → Fit (suc n) is (merge (suc n) js (tails os)) (after_merge (suc n) js (tails os))) → Fit n (i ∷ is) (if x then j ∷ merge n js (tails os) else n ∷ merge (suc n) js (tails os)) (if x then after_merge n js (tails os) else after_merge (suc n) js (tails os))
      on true e g k l =
          fit_kept n i j is (merge n js (tails os)) (after_merge n js (tails os)) (i == j) refl (eq-eqb i j (begins i j is os e m)) (k g)
      on false e g k l =
          let lt : i < n = (let z = b.0 in omega arith) in
          fit_new n i is (merge (suc n) js (tails os)) (after_merge (suc n) js (tails os)) t lt hi.0 g.0 (l g.1)

  -- a join that fits from further on fits
  joins_weaker : (n m : ℕ) (is js : List ℕ) → n ≤ m → JoinsFit incs m is js → JoinsFit incs n is js × after_joins n is js ≤ after_joins m is js
  joins_weaker n m [] [] le f = (tt, le)
  joins_weaker n m [] (j ∷ js) le f = absurd f
  joins_weaker n m (i ∷ is) [] le f = absurd f
  joins_weaker n m (i ∷ is) (j ∷ js) le f = on (i == j) f (λ g. joins_weaker n m is js le g)
    where
      Rest : ℕ → Type 0
      Rest k = k ≤ j × ((ty : Ty) × ((slice_get incs i ≡ Some ty) × (slice_get incs j ≡ Some ty))) × JoinsFit incs (suc j) is js

      on : (b : Bool) → ForBool b (JoinsFit incs m is js) (m ≤ j × ((ty : Ty) × ((slice_get incs i ≡ Some ty) × (slice_get incs j ≡ Some ty))) × JoinsFit incs (suc j) is js) → (JoinsFit incs m is js → JoinsFit incs n is js × after_joins n is js ≤ after_joins m is js) → ForBool b (JoinsFit incs n is js) (n ≤ j × ((ty : Ty) × ((slice_get incs i ≡ Some ty) × (slice_get incs j ≡ Some ty))) × JoinsFit incs (suc j) is js) × (if b then after_joins n is js else after_joins (suc j) is js) ≤ (if b then after_joins m is js else after_joins (suc j) is js)
      on true g k = k g
      on false g k = let z = g.0 in ((omega arith, g.1, g.2), omega arith)

  fits_weaker : (v : Env) (n m : ℕ) (o : Option Arrival) → n ≤ m → FitsJoin incs v m o → FitsJoin incs v n o
  fits_weaker v n m None le f = tt
  fits_weaker v n m (Some a) le f =
      let x = joins_weaker n m v.globals a.env.globals le f.2 in
      let y = joins_weaker (after_joins n v.globals a.env.globals) (after_joins m v.globals a.env.globals) v.frame a.env.frame x.1 f.3 in
      (let z = f.0 in omega arith, f.1, x.0, y.0)

  nums_set : (ds : List Decl) (js : List ℕ) (x n : ℕ) → TypedNums incs js (types_of ds) → slice_get incs n ≡ Some (type_in (slice_get ds x)) → TypedNums incs (slice_set js x n) (types_of ds)
  nums_set [] [] x n h e = tt
  nums_set [] (j ∷ js) x n h e = absurd h
  nums_set (d ∷ ds) [] x n h e = absurd h
  nums_set (d ∷ ds) (j ∷ js) zero n h e = (e, h.1)
  nums_set (d ∷ ds) (j ∷ js) (suc x) n h e = (h.0, nums_set ds js x n h.1 e)

  module _ (p : Prog) (ds : List Decl) (g : Sig) where
    abbrev tys : Var → Ty
    tys = ty_of p ds

    abbrev entry : Env
    entry = entry_env p ds

    abbrev EnvOk : ℕ → Env → Type 0
    EnvOk n v = EnvBelow n v × EnvTyped incs p ds v

    abbrev AllOk : ℕ → List Env → Type 0
    AllOk n [] = Unit {0}
    AllOk n (v ∷ vs) = EnvOk n v × AllOk n vs

    abbrev WaysOk : ℕ → Ways → Type 0
    WaysOk n [] = Unit {0}
    WaysOk n (vs ∷ ways) = AllOk n vs × WaysOk n ways

    env_on : (n m : ℕ) (v : Env) → n ≤ m → EnvOk n v → EnvOk m v
    env_on n m v le h = (env_more n m v le h.0, h.1)

    all_on : (n m : ℕ) (vs : List Env) → n ≤ m → AllOk n vs → AllOk m vs
    all_on n m [] le h = tt
    all_on n m (v ∷ vs) le h = (env_on n m v le h.0, all_on n m vs le h.1)

    ways_more : (n m : ℕ) (ways : Ways) → n ≤ m → WaysOk n ways → WaysOk m ways
    ways_more n m [] le h = tt
    ways_more n m (vs ∷ ways) le h = (all_on n m vs le h.0, ways_more n m ways le h.1)

    here_ok : (n : ℕ) (ways : Ways) → WaysOk n ways → AllOk n (ways_here ways) × WaysOk n (ways_on ways)
    here_ok n [] h = (tt, tt)
    here_ok n (vs ∷ ways) h = h

    way_ok : (n k : ℕ) (v : Env) (ways : Ways) → EnvOk n v → WaysOk n ways → WaysOk n (way_to k v ways)
    way_ok n zero v [] e h = ((e, tt), tt)
    way_ok n zero v (vs ∷ ways) e h = ((e, h.0), h.1)
    way_ok n (suc k) v [] e h = (tt, way_ok n k v [] e tt)
    way_ok n (suc k) v (vs ∷ ways) e h = (h.0, way_ok n k v ways e h.1)

    ways_ok : (n : ℕ) (ks : List ℕ) (v : Env) (ways : Ways) → EnvOk n v → WaysOk n ways → WaysOk n (ways_to ks v ways)
    ways_ok n [] v ways e h = h
    ways_ok n (k ∷ ks) v ways e h = ways_ok n ks v (way_to k v ways) e (way_ok n k v ways e h)

    -- commands keep the incarnations typed
    hold_typed : (x : Var) (n : ℕ) (v : Env) → EnvTyped incs p ds v → slice_get incs n ≡ Some (tys x) → EnvTyped incs p ds (hold x n v)
    hold_typed (Global x) n v h e = (nums_set p.globals v.globals x n h.0 e, h.1)
    hold_typed (Local x) n v h e = (h.0, (nums_set ds v.frame x n h.1.0 e, h.1.1))

    hold_all_typed : (xs : List Var) (js : List ℕ) (v : Env) → EnvTyped incs p ds v → TypedNums incs js (map tys xs) → EnvTyped incs p ds (hold_all xs js v)
    hold_all_typed [] js v h e = h
    hold_all_typed (x ∷ xs) [] v h e = h
    hold_all_typed (x ∷ xs) (j ∷ js) v h e = hold_all_typed xs js (hold x j v) (hold_typed x j v h e.0) e.1

    vars_ok : (xs : List Var) (n : ℕ) (v : Env) (rest : List Ty) → EnvTyped incs p ds v → TypesFrom incs n (map tys xs ++ rest) → TypesFrom incs n (map tys xs) × (EnvTyped incs p ds (hold_next xs n v) × TypesFrom incs (after_vars xs n) rest)
    vars_ok [] n v rest h f = (tt, (h, f))
    vars_ok (x ∷ xs) n v rest h f =
        let z = vars_ok xs (suc n) (hold x n v) rest (hold_typed x n v h f.0) f.1 in ((f.0, z.0), z.1)

    exs_ok : (es : Exs) (n : ℕ) (ts rest : List Ty) → HaveTypes es g ts → TypesFrom incs n (ts ++ rest) → TypesFrom incs n ts × (TypedNums incs (each_ex n es) ts × TypesFrom incs (after_exs es n) rest)
    exs_ok NoMore n [] rest h f = (tt, (tt, f))
    exs_ok NoMore n (t ∷ ts) rest h f = absurd (let bad : ⊥ = cc in bad)
    exs_ok (More e es) n [] rest h f = absurd h
    exs_ok (More e es) n (t ∷ ts) rest h f =
        let z = exs_ok es (suc n) ts rest h.1 f.1 in ((f.0, z.0), ((f.0, z.1.0), z.1.1))

    decls_ok : (qs : List Decl) (n : ℕ) (rest : List Ty) → TypesFrom incs n (types_of qs ++ rest) → TypesFrom incs n (types_of qs) × (TypedNums incs (each_decl n qs) (types_of qs) × TypesFrom incs (after_decls qs n) rest)
    decls_ok [] n rest f = (tt, (tt, f))
    decls_ok (q ∷ qs) n rest f =
        let z = decls_ok qs (suc n) rest f.1 in ((f.0, z.0), ((f.0, z.1.0), z.1.1))

    cmd_ok : (k : Cmd) (v : Env) (n : ℕ) (rest : List Ty) → IsTypedCmd g tys k → EnvTyped incs p ds v → TypesFrom incs n (cmd_types tys k ++ rest) → FitsCmd incs tys k n × (EnvTyped incs p ds (pass k v n).env × TypesFrom incs (pass k v n).next rest)
    cmd_ok (Check qs) v n rest t h f = (tt, (h, f))
    cmd_ok (Suppose qs) v n rest t h f = (tt, (h, f))
    cmd_ok (Forget xs) v n rest t h f = vars_ok xs n v rest h f
    cmd_ok (Put xs es) v n rest t h f =
        let z = exs_ok es n (map tys xs) rest t f in (z.0, (hold_all_typed xs (each_ex n es) v h z.1.0, z.1.1))
    cmd_ok (Perform k) v n rest t h f =
        let f' = subst (TypesFrom incs n) (append_assoc (types_of k.params) (map tys k.modifies ++ types_of k.results) rest) f in
        let a = exs_ok k.args n (types_of k.params) ((map tys k.modifies ++ types_of k.results) ++ rest) t.0 f' in
        let f2 = subst (TypesFrom incs (after_exs k.args n)) (append_assoc (map tys k.modifies) (types_of k.results) rest) a.1.1 in
        let b = vars_ok k.modifies (after_exs k.args n) v (types_of k.results ++ rest) h f2 in
        let n2 = after_vars k.modifies (after_exs k.args n) in
        let d = decls_ok k.results n2 rest b.1.1 in
        ((a.0, b.0, d.0), (hold_all_typed k.takes (each_decl n2 k.results) (hold_next k.modifies (after_exs k.args n) v) b.1.0 (subst (TypedNums incs (each_decl n2 k.results)) (sym t.1) d.1.0), d.1.1))
    cmd_ok Finish v n rest t h f = (tt, (h, f))

    pass_more : (k : Cmd) (v : Env) (n : ℕ) → n ≤ (pass k v n).next
    pass_more (Check qs) v n = omega arith
    pass_more (Suppose qs) v n = omega arith
    pass_more (Forget xs) v n = after_vars_more xs n
    pass_more (Put xs es) v n = after_exs_more es n
    pass_more (Perform k) v n =
        let a = after_exs_more k.args n in
        let b = after_vars_more k.modifies (after_exs k.args n) in
        let d = after_decls_more k.results (after_vars k.modifies (after_exs k.args n)) in
        omega arith
    pass_more Finish v n = omega arith

    cmds_ok : (ks : List Cmd) (v : Env) (n : ℕ) (rest : List Ty) → AreTypedCmds g tys ks → EnvOk n v → TypesFrom incs n (cmds_types tys ks ++ rest) → FitsCmds incs tys ks v n × (EnvOk (pass_all ks v n).next (pass_all ks v n).env × (TypesFrom incs (pass_all ks v n).next rest × n ≤ (pass_all ks v n).next))
    cmds_ok [] v n rest t h f = (tt, (h, (f, omega arith)))
    cmds_ok (k ∷ ks) v n rest t h f =
        let q = pass k v n in
        let f' = subst (TypesFrom incs n) (append_assoc (cmd_types tys k) (cmds_types tys ks) rest) f in
        let a = cmd_ok k v n (cmds_types tys ks ++ rest) t.0 h.1 f' in
        let b = cmds_ok ks q.env q.next rest t.1 (pass_below k v n h.0, a.1.0) a.1.1 in
        let le1 = pass_more k v n in
        let le2 = b.1.1.1 in
        ((a.0, b.0), (b.1.0, (b.1.1.0, omega arith)))

    -- what arrives at a block
    arrival_ok : (vs : List Env) (n : ℕ) (rest : List Ty) → AllOk n vs → EnvOk n entry → TypesFrom incs n (arrive_types (types_of p.globals) (types_of ds) vs ++ rest) → EnvOk (arrive_at entry vs n).next (arrive_at entry vs n).env × (TypesFrom incs (arrive_at entry vs n).next rest × n ≤ (arrive_at entry vs n).next)
    arrival_ok [] n rest h e f = (e, (f, omega arith))
    arrival_ok (v ∷ vs) n rest h e f =
        let gs = globals_in (v ∷ vs) in
        let fs = frames_in (v ∷ vs) in
        let n1 = after_merge n v.globals gs in
        let n2 = after_merge n1 v.frame fs in
        let gt = merge_types v.globals gs (types_of p.globals) in
        let ft = merge_types v.frame fs (types_of ds) in
        let le1 : n ≤ n1 = more_merged n v.globals gs in
        let le2 : n1 ≤ n2 = more_merged n1 v.frame fs in
        let b = h.0.0 in
        let ty = h.0.1 in
        let s1 = merge_split n v.globals gs (types_of p.globals) (ft ++ rest) ty.0 (subst (TypesFrom incs n) (append_assoc gt ft rest) f) in
        let s2 = merge_split n1 v.frame fs (types_of ds) rest ty.1.0 s1.1 in
        (((below_more n1 n2 (merge n v.globals gs) le2 (merged_below n n v.globals gs (omega arith) b.0), below_more n n2 v.before (omega arith) b.1, merged_below n n1 v.frame fs le1 b.2), (merged_typed n v.globals gs (types_of p.globals) ty.0 s1.0, (merged_typed n1 v.frame fs (types_of ds) ty.1.0 s2.0, ty.1.1))), (s2.1, omega arith))

    -- each way fits
    abbrev InEach : List Env → List (List ℕ) → List (List ℕ) → Type 0
    InEach [] gs fs = Unit {0}
    InEach (v ∷ vs) gs fs = (IsIn v.globals gs × IsIn v.frame fs) × InEach vs gs fs

    in_more : (vs : List Env) (x y : List ℕ) (gs fs : List (List ℕ)) → InEach vs gs fs → InEach vs (x ∷ gs) (y ∷ fs)
    in_more [] x y gs fs h = tt
    in_more (v ∷ vs) x y gs fs h = ((inr h.0.0, inr h.0.1), in_more vs x y gs fs h.1)

    in_each : (vs : List Env) → InEach vs (globals_in vs) (frames_in vs)
    in_each [] = tt
    in_each (v ∷ vs) = ((inl refl, inl refl), in_more vs v.globals v.frame (globals_in vs) (frames_in vs) (in_each vs))

    abbrev FitAll : ℕ → List Env → Option Arrival → Type 0
    FitAll n [] o = Unit {0}
    FitAll n (v ∷ vs) o = FitsJoin incs v n o × FitAll n vs o

    abbrev after_first : List Arrival → List Arrival
    after_first [] = []
    after_first (a ∷ later) = later

    abbrev FitWays : ℕ → Ways → List Arrival → Type 0
    FitWays n [] later = Unit {0}
    FitWays n (vs ∷ ways) later = FitAll n vs (slice_get later 0) × FitWays n ways (after_first later)

    each_fits : (us : List Env) (v : Env) (vs : List Env) (n : ℕ) (rest : List Ty) → InEach us (globals_in (v ∷ vs)) (frames_in (v ∷ vs)) → AllOk n us → EnvOk n v → TypesFrom incs n (arrive_types (types_of p.globals) (types_of ds) (v ∷ vs) ++ rest) → FitAll n us (Some (arrive_at entry (v ∷ vs) n))
    each_fits [] v vs n rest m h e f = tt
    each_fits (u ∷ us) v vs n rest m h e f =
        let gs = globals_in (v ∷ vs) in
        let fs = frames_in (v ∷ vs) in
        let n1 = after_merge n v.globals gs in
        let gt = merge_types v.globals gs (types_of p.globals) in
        let ft = merge_types v.frame fs (types_of ds) in
        let le1 : n ≤ n1 = more_merged n v.globals gs in
        let le2 : n1 ≤ after_merge n1 v.frame fs = more_merged n1 v.frame fs in
        let s1 = merge_split n v.globals gs (types_of p.globals) (ft ++ rest) e.1.0 (subst (TypesFrom incs n) (append_assoc gt ft rest) f) in
        let s2 = merge_split n1 v.frame fs (types_of ds) rest e.1.1.0 s1.1 in
        let x = merge_fits n n u.globals v.globals gs (types_of p.globals) (omega arith) m.0.0 h.0.1.0 e.1.0 h.0.0.0 s1.0 in
        let y = merge_fits n n1 u.frame v.frame fs (types_of ds) le1 m.0.1 h.0.1.1.0 e.1.1.0 h.0.0.2 s2.0 in
        ((omega arith, h.0.1.1.1 ∙ sym e.1.1.1, x.0, subst (λ k. JoinsFit incs k u.frame (merge n1 v.frame fs)) (sym x.1) y.0), each_fits us v vs n rest m.1 h.1 e f)

    all_fit : (vs : List Env) (n : ℕ) (rest : List Ty) → AllOk n vs → TypesFrom incs n (arrive_types (types_of p.globals) (types_of ds) vs ++ rest) → FitAll n vs (Some (arrive_at entry vs n))
    all_fit [] n rest h f = tt
    all_fit (v ∷ vs) n rest h f = each_fits (v ∷ vs) v vs n rest (in_each (v ∷ vs)) h h.0 f

    all_weaker : (vs : List Env) (n m : ℕ) (o : Option Arrival) → n ≤ m → FitAll m vs o → FitAll n vs o
    all_weaker [] n m o le f = tt
    all_weaker (v ∷ vs) n m o le f = (fits_weaker v n m o le f.0, all_weaker vs n m o le f.1)

    ways_weaker : (ways : Ways) (n m : ℕ) (later : List Arrival) → n ≤ m → FitWays m ways later → FitWays n ways later
    ways_weaker [] n m later le f = tt
    ways_weaker (vs ∷ ways) n m later le f =
        (all_weaker vs n m (slice_get later 0) le f.0, ways_weaker ways n m (after_first later) le f.1)

    get_further : (later : List Arrival) (k : ℕ) → slice_get (after_first later) k ≡ slice_get later (suc k)
    get_further [] k = refl
    get_further (a ∷ later) k = refl

    -- a way that was opened fits, and so do the others
    way_fits : (k : ℕ) (v : Env) (n : ℕ) (ways : Ways) (later : List Arrival) → FitWays n (way_to k v ways) later → FitsJoin incs v n (slice_get later k) × FitWays n ways later
    way_fits zero v n [] later f = (f.0.0, tt)
    way_fits zero v n (vs ∷ ways) later f = (f.0.0, (f.0.1, f.1))
    way_fits (suc k) v n [] later f =
        let z = way_fits k v n [] (after_first later) f.1 in (subst (FitsJoin incs v n) (get_further later k) z.0, tt)
    way_fits (suc k) v n (vs ∷ ways) later f =
        let z = way_fits k v n ways (after_first later) f.1 in
        (subst (FitsJoin incs v n) (get_further later k) z.0, (f.0, z.1))

    ways_fit : (ks : List ℕ) (v : Env) (n : ℕ) (ways : Ways) (later : List Arrival) → FitWays n (ways_to ks v ways) later → FitEach incs v n later ks × FitWays n ways later
    ways_fit [] v n ways later f = (tt, f)
    ways_fit (k ∷ ks) v n ways later f =
        let z = ways_fit ks v n (way_to k v ways) later f in
        let y = way_fits k v n ways later z.1 in
        ((y.0, z.0), y.1)

    fit_here : (ways : Ways) (n : ℕ) (a : Arrival) (later : List Arrival) → FitAll n (ways_here ways) (Some a) → FitWays n (ways_on ways) later → FitWays n ways (a ∷ later)
    fit_here [] n a later f h = tt
    fit_here (vs ∷ ways) n a later f h = (f, h)

    arrive_fits : (bs : List Block) (ways : Ways) (n : ℕ) → AreTypedBlocks g tys bs → WaysOk n ways → EnvOk n entry → TypesFrom incs n (arrive p ds bs ways n).made → FitsBlocks incs tys (arrive p ds bs ways n).arrivals bs × FitWays n ways (arrive p ds bs ways n).arrivals
    arrive_fits [] ways n t h e f = (tt, none ways)
      where
        none_in : (vs : List Env) → FitAll n vs None
        none_in [] = tt
        none_in (v ∷ vs) = (tt, none_in vs)

        none : (ways : Ways) → FitWays n ways []
        none [] = tt
        none (vs ∷ ways) = (none_in vs, none ways)
    arrive_fits (b ∷ bs) ways n t h e f =
        let vs = ways_here ways in
        let a = arrive_at entry vs n in
        let d = pass_all b.cmds a.env a.next in
        let ways' = ways_to (targets_of b.exit) d.env (ways_on ways) in
        let rest = arrive p ds bs ways' d.next in
        let ho = here_ok n ways h in
        let x = arrival_ok vs n (cmds_types tys b.cmds ++ rest.made) ho.0 e f in
        let y = cmds_ok b.cmds a.env a.next rest.made t.0 x.0 x.1.0 in
        let le1 : n ≤ a.next = x.1.1 in
        let le2 : a.next ≤ d.next = y.1.1.1 in
        let le : n ≤ d.next = omega arith in
        let z = arrive_fits bs ways' d.next t.1 (ways_ok d.next (targets_of b.exit) d.env (ways_on ways) y.1.0 (ways_more n d.next (ways_on ways) le ho.1)) (env_on n d.next entry le e) y.1.1.0 in
        let u = ways_fit (targets_of b.exit) d.env d.next (ways_on ways) rest.arrivals z.1 in
        ((x.0.0, y.0, u.0, z.0), fit_here ways n a rest.arrivals (all_fit vs n (cmds_types tys b.cmds ++ rest.made) ho.0 f) (ways_weaker (ways_on ways) n d.next rest.arrivals le u.1))

    arrive_typed : (bs : List Block) (ways : Ways) (n : ℕ) → AreTypedBlocks g tys bs → WaysOk n ways → EnvOk n entry → TypesFrom incs n (arrive p ds bs ways n).made → ArrivalsTyped incs p ds (arrive p ds bs ways n).arrivals
    arrive_typed [] ways n t h e f = tt
    arrive_typed (b ∷ bs) ways n t h e f =
        let vs = ways_here ways in
        let a = arrive_at entry vs n in
        let d = pass_all b.cmds a.env a.next in
        let ways' = ways_to (targets_of b.exit) d.env (ways_on ways) in
        let rest = arrive p ds bs ways' d.next in
        let ho = here_ok n ways h in
        let x = arrival_ok vs n (cmds_types tys b.cmds ++ rest.made) ho.0 e f in
        let y = cmds_ok b.cmds a.env a.next rest.made t.0 x.0 x.1.0 in
        let le1 : n ≤ a.next = x.1.1 in
        let le2 : a.next ≤ d.next = y.1.1.1 in
        let le : n ≤ d.next = omega arith in
        (x.0.1, arrive_typed bs ways' d.next t.1 (ways_ok d.next (targets_of b.exit) d.env (ways_on ways) y.1.0 (ways_more n d.next (ways_on ways) le ho.1)) (env_on n d.next entry le e) y.1.1.0)

-- the incarnations at first
nums_shift : (incs : List Ty) (x : Ty) (k n : ℕ) (ts : List Ty) → TypedNums incs (count_from k n) ts → TypedNums (x ∷ incs) (count_from (suc k) n) ts
nums_shift incs x k zero [] h = tt
nums_shift incs x k zero (t ∷ ts) h = absurd h
nums_shift incs x k (suc n) [] h = absurd h
nums_shift incs x k (suc n) (t ∷ ts) h = (h.0, nums_shift incs x (suc k) n ts h.1)

nums_first : (ds : List Decl) (more : List Ty) → TypedNums (types_of ds ++ more) (count_from 0 (length ds)) (types_of ds)
nums_first [] more = tt
nums_first (d ∷ ds) more = (refl, nums_shift (types_of ds ++ more) d.ty 0 (length ds) (types_of ds) (nums_first ds more))

nums_behind : (qs : List Decl) (incs : List Ty) (n : ℕ) (ts : List Ty) → TypedNums incs (count_from 0 n) ts → TypedNums (types_of qs ++ incs) (count_from (length qs) n) ts
nums_behind [] incs n ts h = h
nums_behind (q ∷ qs) incs n ts h =
    nums_shift (types_of qs ++ incs) q.ty (length qs) n ts (nums_behind qs incs n ts h)

from_shift : (incs : List Ty) (x : Ty) (n : ℕ) (ts : List Ty) → TypesFrom incs n ts → TypesFrom (x ∷ incs) (suc n) ts
from_shift incs x n [] h = tt
from_shift incs x n (t ∷ ts) h = (h.0, from_shift incs x (suc n) ts h.1)

from_self : (ts : List Ty) → TypesFrom ts 0 ts
from_self [] = tt
from_self (t ∷ ts) = (refl, from_shift ts t 0 ts (from_self ts))

from_behind : (qs : List Decl) (incs : List Ty) (n : ℕ) (ts : List Ty) → TypesFrom incs n ts → TypesFrom (types_of qs ++ incs) (length qs + n) ts
from_behind [] incs n ts h = let e : n ≡ length {A = Decl} [] + n = omega arith in subst (λ k. TypesFrom incs k ts) e h
from_behind (q ∷ qs) incs n ts h =
    let e : suc (length qs + n) ≡ length (q ∷ qs) + n = omega arith in
    subst (λ k. TypesFrom (types_of (q ∷ qs) ++ incs) k ts) e (from_shift (types_of qs ++ incs) q.ty (length qs + n) ts (from_behind qs incs n ts h))

count_below : (k n m : ℕ) → k + n ≤ m → Below m (count_from k n)
count_below k zero m le = tt
count_below k (suc n) m le = (omega arith, count_below (suc k) n m (omega arith))

-- the first block is arrived at as at entry
starts_at : (p : Prog) (ds : List Decl) (bs : List Block) → (bs ≡ [] → ⊥) → StartsAt (arrived p ds bs).arrivals (entry_env p ds)
starts_at p ds [] some = absurd (some refl)
starts_at p ds (b ∷ bs) some = refl

led_some : (o : Bool) (ks : List Cmd) (bs : List Block) → led o ks bs ≡ [] → ⊥
led_some false ks bs e = let bad : ⊥ = cc in bad
led_some true ks [] e = let bad : ⊥ = cc in bad
led_some true ks (b ∷ bs) e = let bad : ⊥ = cc in bad

module _ (p : Prog) (set : ℕ → Bool) (i : Interp) (k : ℕ) (m : Impl) (q : Proc) (s : State) (typed : IsTypedSt (context Turning p set i k m q s) m.body) where
  abbrev c : Ctx
  c = context Turning p set i k m q s

  abbrev ds : List Decl
  ds = frame_decls m q

  abbrev bs : List Block
  bs = blocks_of (routine_of p k m q)

  abbrev n0 : ℕ
  n0 = length p.globals + length ds

  abbrev made : List Ty
  made = (arrived p ds bs).made

  abbrev incs : List Ty
  incs = incarnations p ds made

  first_typed : EnvTyped incs p ds (entry_env p ds)
  first_typed =
      (nums_first p.globals (types_of ds ++ made), (nums_behind p.globals (types_of ds ++ made) (length ds) (types_of ds) (nums_first ds made), refl))

  first_below : EnvBelow n0 (entry_env p ds)
  first_below =
      (count_below 0 (length p.globals) n0 (omega arith), count_below 0 (length p.globals) n0 (omega arith), count_below (length p.globals) (length ds) n0 (omega arith))

  made_from : TypesFrom incs n0 made
  made_from =
      let e : length ds + 0 ≡ length ds = omega arith in
      from_behind p.globals (types_of ds ++ made) (length ds) made (subst (λ j. TypesFrom (types_of ds ++ made) j made) e (from_behind ds made 0 made (from_self made)))

  pub arrived_fit : MakesPassive p ds made (arrived p ds bs).arrivals bs
  arrived_fit =
      let r = routine_of p k m q in
      let body = code r.body (at_end r.wanted) in
      (starts_at p ds bs (led_some body.takes_in (Suppose r.given ∷ []) body.blocks), (arrive_fits incs p ds (sig_of c) bs [] n0 (blocks_typed c m q k refl typed) tt (first_below, first_typed) made_from).0)

  pub arrived_typed : ArrivalsTyped incs p ds (arrived p ds bs).arrivals
  arrived_typed =
      arrive_typed incs p ds (sig_of c) bs [] n0 (blocks_typed c m q k refl typed) tt (first_below, first_typed) made_from
