-- A body that keeps its variables typed changes its targets alone, and they can be given the values that they have then.
use Rattle.std.proofs.Common.{◌≡◌, ℕ, zero, suc, Bool, true, false, List, [], ◌∷◌, ◌++◌, map, Option, Some, None, refl, sym, ap, ◌∙◌, subst, ⊎_elim}
use Rattle.std.specs.Prelude.{◌||◌, if◌then◌else◌, ◌==◌, slice_get, slice_set, filter, pos}
use Rattle.std.proofs.lemmas.Bool.{eqb-true, eq-eqb}
use Rattle.std.proofs.lemmas.List.{get_or-set_other}
use Rattle.std.proofs.lemmas.Option.{unwrap_or-slice_get}
use Rattle.bg_ast.specs.Values.{Val, Num, is_of}
use Rattle.bg_ast.specs.Syntax.{Var, Global, Local, Ex, Call, St, Skip, Then, Label, Assert, Assume, Havoc, Assign, Invoke, If, While, Break, Goto, Return, Decl, Proc}
use Rattle.bg_ast.specs.Execution.{Chosen, AtCall}
use Rattle.bg_sense.specs.Eval.{evs, value_at}
use Rattle.bg_sense.specs.Flow.{World, BadChoice, Flow, Next, Jumps, Over, and_then}
use Rattle.bg_sense.specs.Context.{Ctx, scope, callee_scope}
use Rattle.bg_sense.specs.Clauses.{check_all, suppose_all, is_there, says_of}
use Rattle.bg_sense.specs.Variables.{put, put_all, type_in, decl_of, wheres_of, wheres_at, procedure_of, modified_by, var_eq, is_among, may_change, variables_of, targets, modified, globals_of}
use Rattle.bg_sense.specs.Choices.{forget_all, choose_all}
use Rattle.bg_sense.specs.Calls.{call_of, by_specification}
use Rattle.bg_sense.specs.Types.{are_of, types_of}
use Rattle.bg_sense.specs.Typing.{AreVars}
use Rattle.bg_sense.proofs.Keeping.{AreTyped, EndsTyped, KeepsTypes}
use Rattle.bg_sense.proofs.Stays.{Fact, turning, cutting, Stays, ClosedPuts, Closed, and_then_stays, check_all_stays, suppose_all_stays, forget_all_stays, choose_from_stays}
use Rattle.bg_sense.proofs.Follows.{at, Shows, put_at}
use Rattle.bg_sense.proofs.Bools.{and_left, and_right, both, or_left, or_right, or_true_left, or_true_right, bool_cases}
use Rattle.bg_sense.proofs.LoopTurns.{get, Agrees}
use Rattle.bg_sense.proofs.LoopCut.{Renewing}

pub filtered_among : (f : Var → Bool) (xs : List Var) (y : Var) → is_among (filter f xs) y ≡ true → is_among xs y ≡ true
filtered_among f [] y m = m
filtered_among f (x ∷ xs) y m = on (f x) (filtered_among f xs y) m
  where
    first : (b : Bool) → (is_among (filter f xs) y ≡ true → is_among xs y ≡ true) → (b || is_among (filter f xs) y) ≡ true → (b || is_among xs y) ≡ true
    first true h n = refl
    first false h n = h n

    on : (b : Bool) → (is_among (filter f xs) y ≡ true → is_among xs y ≡ true) → is_among (if b then x ∷ filter f xs else filter f xs) y ≡ true → (var_eq x y || is_among xs y) ≡ true
    on true h n = first (var_eq x y) h n
    on false h n = or_true_right (var_eq x y) (is_among xs y) (h n)

pub appended_among : (xs ys : List Var) (y : Var) → is_among xs y ≡ true → is_among (xs ++ ys) y ≡ true
appended_among [] ys y m = absurd (let bad : ⊥ = cc in bad)
appended_among (x ∷ xs) ys y m = first (var_eq x y) m (appended_among xs ys y)
  where
    first : (b : Bool) → (b || is_among xs y) ≡ true → (is_among xs y ≡ true → is_among (xs ++ ys) y ≡ true) → (b || is_among (xs ++ ys) y) ≡ true
    first true m h = refl
    first false m h = h m

-- what is modified is a variable
modified_among : (c : Ctx) (q : Option Proc) (y : Var) → is_among (modified_by c.program q) y ≡ true → is_among (variables_of c) y ≡ true
modified_among c None y m = absurd (let bad : ⊥ = cc in bad)
modified_among c (Some q) y m =
    appended_among (globals_of c.program) _ y (filtered_among (is_among (map Global q.modifies)) (globals_of c.program) y m)

-- a value of a list of typed values is typed
get_typed : (ds : List Decl) (vs : List Val) (i : ℕ) → are_of (types_of ds) vs ≡ true → is_of (type_in (slice_get ds i)) (value_at vs i) ≡ true
get_typed [] [] i e = refl
get_typed [] (v ∷ vs) i e = absurd (let bad : ⊥ = cc in bad)
get_typed (d ∷ ds) [] i e = absurd (let bad : ⊥ = cc in bad)
get_typed (d ∷ ds) (v ∷ vs) zero e = and_left (is_of d.ty v) (are_of (types_of ds) vs) e
get_typed (d ∷ ds) (v ∷ vs) (suc i) e = get_typed ds vs i (and_right (is_of d.ty v) (are_of (types_of ds) vs) e)

-- a typed value in place of another
set_typed : (ds : List Decl) (vs : List Val) (i : ℕ) (v : Val) → are_of (types_of ds) vs ≡ true → is_of (type_in (slice_get ds i)) v ≡ true → are_of (types_of ds) (slice_set vs i v) ≡ true
set_typed [] [] i v e f = refl
set_typed [] (w ∷ vs) i v e f = absurd (let bad : ⊥ = cc in bad)
set_typed (d ∷ ds) [] i v e f = absurd (let bad : ⊥ = cc in bad)
set_typed (d ∷ ds) (w ∷ vs) zero v e f =
    both (is_of d.ty v) (are_of (types_of ds) vs) f (and_right (is_of d.ty w) (are_of (types_of ds) vs) e)
set_typed (d ∷ ds) (w ∷ vs) (suc i) v e f =
    both (is_of d.ty w) (are_of (types_of ds) (slice_set vs i v)) (and_left (is_of d.ty w) (are_of (types_of ds) vs) e) (set_typed ds vs i v (and_right (is_of d.ty w) (are_of (types_of ds) vs) e) f)

-- lists of typed values that agree at each place are the same
same_lists : (ds : List Decl) (vs ws : List Val) → are_of (types_of ds) vs ≡ true → are_of (types_of ds) ws ≡ true → ((i : ℕ) → value_at vs i ≡ value_at ws i) → vs ≡ ws
same_lists [] [] [] e f h = refl
same_lists [] [] (w ∷ ws) e f h = absurd (let bad : ⊥ = cc in bad)
same_lists [] (v ∷ vs) ws e f h = absurd (let bad : ⊥ = cc in bad)
same_lists (d ∷ ds) [] ws e f h = absurd (let bad : ⊥ = cc in bad)
same_lists (d ∷ ds) (v ∷ vs) [] e f h = absurd (let bad : ⊥ = cc in bad)
same_lists (d ∷ ds) (v ∷ vs) (w ∷ ws) e f h =
    ap (λ x. x ∷ vs) (h zero) ∙ ap (λ l. w ∷ l) (same_lists ds vs ws (and_right (is_of d.ty v) (are_of (types_of ds) vs) e) (and_right (is_of d.ty w) (are_of (types_of ds) ws) f) (λ i. h (suc i)))

-- a write is seen at its place, if that is within the list, and nowhere else
set_same : (ds : List Decl) (vs ws : List Val) (i : ℕ) → are_of (types_of ds) vs ≡ true → are_of (types_of ds) ws ≡ true → value_at (slice_set vs i (value_at ws i)) i ≡ value_at ws i
set_same [] [] [] i e f = refl
set_same [] [] (w ∷ ws) i e f = absurd (let bad : ⊥ = cc in bad)
set_same [] (v ∷ vs) ws i e f = absurd (let bad : ⊥ = cc in bad)
set_same (d ∷ ds) [] ws i e f = absurd (let bad : ⊥ = cc in bad)
set_same (d ∷ ds) (v ∷ vs) [] i e f = absurd (let bad : ⊥ = cc in bad)
set_same (d ∷ ds) (v ∷ vs) (w ∷ ws) zero e f = refl
set_same (d ∷ ds) (v ∷ vs) (w ∷ ws) (suc i) e f =
    set_same ds vs ws i (and_right (is_of d.ty v) (are_of (types_of ds) vs) e) (and_right (is_of d.ty w) (are_of (types_of ds) ws) f)

differs_at : (i j : ℕ) → (i == j) ≡ false → j ≡ i → ⊥
differs_at i j e f = let yes' : (i == j) ≡ true = eq-eqb i j (sym f) in let bad : ⊥ = cc in bad

set_other : (vs : List Val) (i j : ℕ) (v : Val) → (i == j) ≡ false → value_at (slice_set vs i v) j ≡ value_at vs j
set_other vs i j v e =
    unwrap_or-slice_get (slice_set vs i v) j (Num (pos 0)) ∙ get_or-set_other vs i j v (Num (pos 0)) (differs_at i j e) ∙ sym (unwrap_or-slice_get vs j (Num (pos 0)))

-- the same of variables
put_other : (x y : Var) (v : Val) (w : World) → var_eq x y ≡ false → get y (put x v w).globals (put x v w).frame ≡ get y w.globals w.frame
put_other (Global i) (Global j) v w e = set_other w.globals i j v e
put_other (Global i) (Local j) v w e = refl
put_other (Local i) (Global j) v w e = refl
put_other (Local i) (Local j) v w e = set_other w.frame i j v e

put_all_other : (xs : List Var) (vs : List Val) (y : Var) (w : World) → is_among xs y ≡ false → get y (put_all xs vs w).globals (put_all xs vs w).frame ≡ get y w.globals w.frame
put_all_other [] vs y w e = refl
put_all_other (x ∷ xs) [] y w e = refl
put_all_other (x ∷ xs) (v ∷ vs) y w e =
    put_all_other xs vs y (put x v w) (or_right (var_eq x y) (is_among xs y) e) ∙ put_other x y v w (or_left (var_eq x y) (is_among xs y) e)

same_var : (x y : Var) → var_eq x y ≡ true → x ≡ y
same_var (Global i) (Global j) e = ap Global (eqb-true i j e)
same_var (Global i) (Local j) e = absurd (let bad : ⊥ = cc in bad)
same_var (Local i) (Global j) e = absurd (let bad : ⊥ = cc in bad)
same_var (Local i) (Local j) e = ap Local (eqb-true i j e)

filtered_if : (f : Var → Bool) (x : Var) (xs : List Var) (y : Var) → (is_among xs y ≡ true → is_among (filter f xs) y ≡ true) → f y ≡ true → (b t : Bool) → f x ≡ b → var_eq x y ≡ t → (var_eq x y || is_among xs y) ≡ true → is_among (filter f (x ∷ xs)) y ≡ true
filtered_if f x xs y rest h true true p q e =
    ap (λ b. is_among (if b then x ∷ filter f xs else filter f xs) y) p ∙ ap (λ t. t || is_among (filter f xs) y) q
filtered_if f x xs y rest h true false p q e =
    ap (λ b. is_among (if b then x ∷ filter f xs else filter f xs) y) p
    ∙ ap (λ t. t || is_among (filter f xs) y) q
    ∙ rest (sym (ap (λ t. t || is_among xs y) q) ∙ e)
filtered_if f x xs y rest h false true p q e =
    let fx : f x ≡ true = ap f (same_var x y q) ∙ h in absurd (let bad : ⊥ = cc in bad)
filtered_if f x xs y rest h false false p q e =
    ap (λ b. is_among (if b then x ∷ filter f xs else filter f xs) y) p
    ∙ rest (sym (ap (λ t. t || is_among xs y) q) ∙ e)

filtered : (f : Var → Bool) (xs : List Var) (y : Var) → is_among xs y ≡ true → f y ≡ true → is_among (filter f xs) y ≡ true
filtered f [] y e h = e
filtered f (x ∷ xs) y e h = filtered_if f x xs y (λ r. filtered f xs y r h) h (f x) (var_eq x y) refl refl e

var_refl : (x : Var) → var_eq x x ≡ true
var_refl (Global i) = eq-eqb i i refl
var_refl (Local i) = eq-eqb i i refl

-- one variable of a list, and one that is none of it
apart : (xs : List Var) (x y : Var) → is_among xs x ≡ true → is_among xs y ≡ false → var_eq x y ≡ false
apart xs x y e f =
    ⊎_elim
    (λ t. let same : is_among xs x ≡ is_among xs y = ap (is_among xs) (same_var x y t) in absurd (let bad : ⊥ = cc in bad))
    (λ n. n)
    (bool_cases (var_eq x y))

module _ (c : Ctx) where
  pub put_typed : (x : Var) (v : Val) (w : World) → is_of (type_in (decl_of c x)) v ≡ true → AreTyped c w.globals w.frame → AreTyped c (put x v w).globals (put x v w).frame
  put_typed (Global i) v w e t = (set_typed c.program.globals w.globals i v t.0 e, t.1)
  put_typed (Local i) v w e t = (t.0, set_typed c.variables w.frame i v t.1 e)

  put_same : (x : Var) (g r : List Val) (w : World) → AreTyped c g r → AreTyped c w.globals w.frame → get x (put x (get x g r) w).globals (put x (get x g r) w).frame ≡ get x g r
  put_same (Global i) g r w t u = set_same c.program.globals w.globals g i u.0 t.0
  put_same (Local i) g r w t u = set_same c.variables w.frame r i u.1 t.1

  has_type : (x : Var) (g r : List Val) → AreTyped c g r → is_of (type_in (decl_of c x)) (get x g r) ≡ true
  has_type (Global i) g r t = get_typed c.program.globals g i t.0
  has_type (Local i) g r t = get_typed c.variables r i t.1

  after_put : (x : Var) (xs : List Var) (y : Var) (g r : List Val) (w : World) → AreTyped c g r → AreTyped c w.globals w.frame → ((z : Var) → is_among (x ∷ xs) z ≡ false → get z g r ≡ get z w.globals w.frame) → is_among xs y ≡ false → get y g r ≡ get y (put x (get x g r) w).globals (put x (get x g r) w).frame
  after_put x xs y g r w t u h n =
      ⊎_elim
      (λ e. let P : Var → Type 0 = λ z. get z g r ≡ get z (put x (get x g r) w).globals (put x (get x g r) w).frame in subst P (same_var x y e) (sym (put_same x g r w t u)))
      (λ e. h y (ap (λ b. b || is_among xs y) e ∙ n) ∙ sym (put_other x y (get x g r) w e))
      (bool_cases (var_eq x y))

  -- variables can be given values of their types
  forget_shows : (xs : List Var) (g r : List Val) (w : World) → AreTyped c g r → AreTyped c w.globals w.frame → ((y : Var) → is_among xs y ≡ false → get y g r ≡ get y w.globals w.frame) → Shows (forget_all (cutting c) xs) w.globals w.frame (Next (at g r []))
  forget_shows [] g r w t u h =
      ([], λ rest. ap (λ k. Next (at k w.frame rest)) (same_lists c.program.globals w.globals g u.0 t.0 (λ i. sym (h (Global i) refl))) ∙ ap (λ k. Next (at g k rest)) (same_lists c.variables w.frame r u.1 t.1 (λ i. sym (h (Local i) refl))))
  forget_shows (x ∷ xs) g r w t u h =
      let v = get x g r in
      let next = put x v w in
      let more = forget_shows xs g r next t (put_typed x v w (has_type x g r t) u) (λ y n. after_put x xs y g r w t u h n) in (
        Chosen v ∷ more.0,
        λ rest. ap (λ b. if b then forget_all (cutting c) xs (put x v (at w.globals w.frame (more.0 ++ rest))) else Over BadChoice) (has_type x g r t)
            ∙ ap (forget_all (cutting c) xs) (put_at x v w (more.0 ++ rest))
            ∙ more.1 rest,
      )

  vars_among : (ys : List Var) (y : Var) → AreVars (turning c) ys → is_among ys y ≡ true → is_among (variables_of c) y ≡ true
  vars_among [] y a e = absurd (let bad : ⊥ = cc in bad)
  vars_among (x ∷ ys) y a e =
      ⊎_elim
      (λ t. subst (λ z. is_among (variables_of c) z ≡ true) (same_var x y t) a.0)
      (λ n. vars_among ys y a.1 (sym (ap (λ b. b || is_among ys y) n) ∙ e))
      (bool_cases (var_eq x y))

  module _ (xs : List Var) (g0 r0 : List Val) where
    -- the variables that are no targets are as they were
    abbrev Others : Fact
    Others = λ g r. (y : Var) → is_among xs y ≡ false → get y g r ≡ get y g0 r0

    abbrev Covers : List Var → Type 0
    Covers ys = (y : Var) → is_among ys y ≡ true → is_among xs y ≡ true

    none_of : (ys : List Var) → Covers ys → (y : Var) → is_among xs y ≡ false → is_among ys y ≡ false
    none_of ys h y n =
        ⊎_elim (λ e. let yes' = h y e in absurd (let bad : ⊥ = cc in bad)) (λ e. e) (bool_cases (is_among ys y))

    others_puts : (ys : List Var) → Covers ys → ClosedPuts Others (turning c) ys
    others_puts [] h = tt
    others_puts (x ∷ ys) h = (
      λ v w e a y n. put_other x y v w (apart xs x y (h x (or_true_left (var_eq x x) (is_among ys x) (var_refl x))) n) ∙ a y n,
      others_puts ys (λ y e. h y (or_true_right (var_eq x y) (is_among ys y) e)),
    )

    agrees_puts : (ys : List Var) → Covers ys → ClosedPuts (Agrees xs (AreTyped c) g0 r0) (turning c) ys
    agrees_puts [] h = tt
    agrees_puts (x ∷ ys) h = (
      λ v w e a. (put_typed x v w e a.0, λ y n. put_other x y v w (apart xs x y (h x (or_true_left (var_eq x x) (is_among ys x) (var_refl x))) n) ∙ a.1 y n),
      agrees_puts ys (λ y e. h y (or_true_right (var_eq x y) (is_among ys y) e)),
    )

    others_put_all : (ys : List Var) (vs : List Val) (w : World) → Covers ys → Others w.globals w.frame → Others (put_all ys vs w).globals (put_all ys vs w).frame
    others_put_all ys vs w h a y n = put_all_other ys vs y w (none_of ys h y n) ∙ a y n

    choose_all_stays : (ds : List Decl) (w : World) (k : List Val → World → Flow) → Others w.globals w.frame → ((vs : List Val) (u : World) → Others u.globals u.frame → Stays Others (k vs u)) → Stays Others (choose_all ds w k)
    choose_all_stays [] w k a h = h [] w a
    choose_all_stays (d ∷ ds) w k a h =
        choose_from_stays
        Others
        w.choices
        d.ty
        w
        (λ v u. choose_all ds u (λ vs x. k (v ∷ vs) x))
        a
        (λ v u e b. choose_all_stays ds u (λ vs x. k (v ∷ vs) x) b (λ vs x y. h (v ∷ vs) x y))

    -- a call changes what it modifies and takes, and nothing else
    call_others : (q : Option Proc) (k : Call) (w : World) → Covers k.takes → Covers (modified_by c.program q) → Others w.globals w.frame → Stays Others (call_of q (turning c) k w)
    call_others None k w h m a = a
    call_others (Some q) k w h m a =
        let args = evs k.args (scope (turning c) w) in
        and_then_stays
        Others
        (check_all (turning c) (AtCall k.site) (callee_scope (turning c) w.globals args) q.requires_ w)
        (called args)
        (check_all_stays Others (turning c) (AtCall k.site) (callee_scope (turning c) w.globals args) q.requires_ w a)
        (λ v b. and_then_stays
        Others
        (forget_all (turning c) (modified c.program q) v)
        (chosen v.globals args)
        (forget_all_stays Others (turning c) (modified c.program q) (others_puts (modified c.program q) m) v b)
        (λ u d. choose_all_stays
        q.results
        u
        (stored v.globals args)
        d
        (λ results t e. and_then_stays
        Others
        (suppose_all (turning c) (callee_scope (turning c) v.globals (args ++ results)) said t)
        (λ s. Next (put_all k.takes results s))
        (suppose_all_stays Others (turning c) (callee_scope (turning c) v.globals (args ++ results)) said t e)
        (λ s f. others_put_all k.takes results s h f))))
      where
        said : List Ex
        said = wheres_at c (modified c.program q) ++ (wheres_of q.results ++ says_of (is_there c.set) q.ensures_)

        stored : List Val → List Val → List Val → World → Flow
        stored before args results t =
            and_then (suppose_all (turning c) (callee_scope (turning c) before (args ++ results)) said t) (λ s. Next (put_all k.takes results s))

        chosen : List Val → List Val → World → Flow
        chosen before args u = choose_all q.results u (stored before args)

        called : List Val → World → Flow
        called args v = and_then (forget_all (turning c) (modified c.program q) v) (chosen v.globals args)

    agrees_from : (f : Flow) → EndsTyped c f → Stays Others f → Stays (Agrees xs (AreTyped c) g0 r0) f
    agrees_from (Next w) t a = (t, a)
    agrees_from (Jumps p w) t a = (t, a)
    agrees_from (Over a) t b = tt

    -- a statement whose variables are all among these keeps types, and changes no others
    closed_agrees : (s : St) → KeepsTypes (turning c) s → ((y : Var) → is_among (variables_of c) y ≡ true → may_change c.program s y ≡ true → is_among xs y ≡ true) → Closed by_specification (Agrees xs (AreTyped c) g0 r0) (turning c) s
    closed_agrees Skip k h = tt
    closed_agrees (Then a b) k h = (
      closed_agrees a k.0 (λ y v m. h y v (or_true_left (may_change c.program a y) (may_change c.program b y) m)),
      closed_agrees b k.1 (λ y v m. h y v (or_true_right (may_change c.program a y) (may_change c.program b y) m)),
    )
    closed_agrees (Label l) k h = tt
    closed_agrees (Assert e) k h = tt
    closed_agrees (Assume e) k h = tt
    closed_agrees (Havoc ys) k h = agrees_puts ys (λ y m. h y (vars_among ys y k m) m)
    closed_agrees (Assign ys es) k h =
        λ w a. (k.1 w a.0, others_put_all ys (evs es (scope (turning c) w)) w (λ y m. h y (vars_among ys y k.0 m) m) a.1)
    closed_agrees (Invoke e) k h =
        let q = procedure_of c.program e.procedure in
        λ w a. agrees_from (by_specification (turning c) e w) (k.1 w a.0) (call_others q e w
        (λ y m. h y (vars_among e.takes y k.0 m) (or_true_left (is_among e.takes y) (is_among (modified_by c.program q) y) m))
        (λ y m. h y (modified_among c q y m) (or_true_right (is_among e.takes y) (is_among (modified_by c.program q) y) m))
        a.1)
    closed_agrees (If n g a b) k h = (
      closed_agrees a k.0 (λ y v m. h y v (or_true_left (may_change c.program a y) (may_change c.program b y) m)),
      closed_agrees b k.1 (λ y v m. h y v (or_true_right (may_change c.program a y) (may_change c.program b y) m)),
    )
    closed_agrees (While n g is a) k h = closed_agrees a k h
    closed_agrees (Break n) k h = tt
    closed_agrees (Goto ls) k h = tt
    closed_agrees Return k h = tt

  pub renewing : (s : St) → KeepsTypes (turning c) s → Renewing by_specification (AreTyped c) c s
  renewing Skip k = tt
  renewing (Then a b) k = (renewing a k.0, renewing b k.1)
  renewing (Label l) k = tt
  renewing (Assert e) k = tt
  renewing (Assume e) k = tt
  renewing (Havoc ys) k = tt
  renewing (Assign ys es) k = tt
  renewing (Invoke e) k = tt
  renewing (If n g a b) k = (renewing a k.0, renewing b k.1)
  renewing (While n g is a) k = (
    λ g0 r0 g r t ag. forget_shows (targets c a) g r (at g0 r0 []) ag.0 t ag.1,
    λ g0 r0 t. closed_agrees (targets c a) g0 r0 a k (λ y v m. filtered (may_change c.program a) (variables_of c) y v m),
    renewing a k,
  )
  renewing (Break n) k = tt
  renewing (Goto ls) k = tt
  renewing Return k = tt

  pub typed_puts : (ys : List Var) → ClosedPuts (AreTyped c) (turning c) ys
  typed_puts [] = tt
  typed_puts (x ∷ ys) = (λ v w e t. put_typed x v w e t, typed_puts ys)

  typed_from : (f : Flow) → EndsTyped c f → Stays (AreTyped c) f
  typed_from (Next w) t = t
  typed_from (Jumps p w) t = t
  typed_from (Over a) t = tt

  pub closed_typed : (s : St) → KeepsTypes (turning c) s → Closed by_specification (AreTyped c) (turning c) s
  closed_typed Skip k = tt
  closed_typed (Then a b) k = (closed_typed a k.0, closed_typed b k.1)
  closed_typed (Label l) k = tt
  closed_typed (Assert e) k = tt
  closed_typed (Assume e) k = tt
  closed_typed (Havoc ys) k = typed_puts ys
  closed_typed (Assign ys es) k = k.1
  closed_typed (Invoke e) k = λ w t. typed_from (by_specification (turning c) e w) (k.1 w t)
  closed_typed (If n g a b) k = (closed_typed a k.0, closed_typed b k.1)
  closed_typed (While n g is a) k = closed_typed a k
  closed_typed (Break n) k = tt
  closed_typed (Goto ls) k = tt
  closed_typed Return k = tt
