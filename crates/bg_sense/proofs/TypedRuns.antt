-- Typed expressions have values of their types, and typed bodies keep their variables typed.
use Rattle.bg_sense.specs.Interps.{IsInterp}
use Rattle.std.proofs.Common.{◌≡◌, ℕ, zero, suc, Bool, true, false, List, [], ◌∷◌, ◌++◌, length, map, Option, Some, None, refl, sym, ap, ◌∙◌, subst, arith}
use Rattle.std.specs.Prelude.{not, if◌then◌else◌, slice_get}
use Rattle.std.proofs.lemmas.Bool.{eq-eqb}
use Rattle.bg_ast.specs.Values.{Val, val_eq, Truth, Ty, IntTy, BoolTy, UserTy, MapTy, KeyType, Table, is_int, is_bool, is_of, number_of, update}
use Rattle.bg_ast.specs.Syntax.{Op, And, Or, Implies, Iff, Equal, Unequal, Less, AtMost, Greater, AtLeast, Plus, Minus, Times, Ex, Exs, Number, Fact, Constant, Read, Not, Negative, Binary, Apply, Select, Update, Old, NoMore, More, Fun, Call, Decl, Proc, Prog, Var, Global, Local, St, Skip, Then, Label, Assert, Assume, Havoc, Assign, Invoke, If, While, Break, Goto, Return}
use Rattle.bg_ast.specs.Execution.{Interp, AtCall, Choice, Branch, Chosen}
use Rattle.bg_sense.specs.Eval.{Scope, ev, evs, operate, read, value_at, default_for, functions_to, body_value, body_of, default_result, look_up, entry_for, vals_eq, functions_of}
use Rattle.bg_sense.specs.Flow.{World, Flow, Next, Jumps, Over, BadChoice, and_then}
use Rattle.bg_sense.specs.Context.{Ctx, scope, callee_scope}
use Rattle.bg_sense.specs.Clauses.{check_all, suppose_all, is_there, says_of}
use Rattle.bg_sense.specs.Variables.{put, put_all, type_in, decl_of, wheres_of, wheres_at, procedure_of, modified}
use Rattle.bg_sense.specs.Choices.{choose_from, choose_all, forget_all}
use Rattle.bg_sense.specs.Calls.{call_of, by_specification}
use Rattle.bg_sense.specs.Types.{are_of, types_of, const_types}
use Rattle.bg_sense.specs.Tables.{is_before, are_entries, is_table, is_table_of, are_tables}
use Rattle.bg_sense.specs.Typing.{Sig, key_ty, VarHasType, OpHasType, HasType, HaveTypes, sig_of, types_at, CallHasType, IsTypedSt, AreTypedBodies, sig_in}
use Rattle.bg_sense.proofs.Keeping.{AreTyped, EndsTyped, KeepsTypes}
use Rattle.bg_sense.proofs.Bools.{and_left, and_right, both}
use Rattle.bg_sense.proofs.TypedMaps.{update_typed, select_typed}
use Rattle.bg_sense.proofs.Stays.{Stays, and_then_stays, check_all_stays, suppose_all_stays, forget_all_stays, ClosedPuts}
use Rattle.bg_sense.proofs.Renews.{put_typed, typed_puts}

pub default_typed : (t : Ty) → is_of t (default_for t) ≡ true
default_typed IntTy = refl
default_typed BoolTy = refl
default_typed (UserTy t) = eq-eqb t t refl
default_typed (MapTy ks t) = default_typed t

nth_typed : (ts : List Ty) (vs : List Val) (i : ℕ) (t : Ty) → slice_get ts i ≡ Some t → are_of ts vs ≡ true → is_of t (value_at vs i) ≡ true
nth_typed [] vs i t e h = absurd (let bad : ⊥ = cc in bad)
nth_typed (u ∷ ts) [] i t e h = absurd (let bad : ⊥ = cc in bad)
nth_typed (u ∷ ts) (v ∷ vs) zero t e h =
    let same : u ≡ t = cc in subst (λ x. is_of x v ≡ true) same (and_left (is_of u v) (are_of ts vs) h)
nth_typed (u ∷ ts) (v ∷ vs) (suc i) t e h = nth_typed ts vs i t e (and_right (is_of u v) (are_of ts vs) h)

lengths : (ks : List KeyType) (vs : List Val) → are_of (map key_ty ks) vs ≡ true → length ks ≡ length (map number_of vs)
lengths [] [] h = refl
lengths [] (v ∷ vs) h = absurd (let bad : ⊥ = cc in bad)
lengths (k ∷ ks) [] h = absurd (let bad : ⊥ = cc in bad)
lengths (k ∷ ks) (v ∷ vs) h =
    let e = lengths ks vs (and_right (is_of (key_ty k) v) (are_of (map key_ty ks) vs) h) in omega arith

-- what names mean has the types of the signature
pub record Suits (g : Sig) (c : Scope) : Type 0 where
  constants : are_of g.constants c.constants ≡ true
  globals : are_of g.globals c.globals ≡ true
  before : are_of g.globals c.before ≡ true
  frame : are_of g.frame c.frame ≡ true
  functions : (f : ℕ) (fn : Fun) (args : List Val) → slice_get g.functions f ≡ Some fn → are_of fn.params args ≡ true → is_of fn.result (c.functions f args) ≡ true

as_bool : (t : Ty) (b : Bool) → t ≡ BoolTy → is_of t (Truth b) ≡ true
as_bool t b e = ap is_bool e

read_typed : (g : Sig) (c : Scope) (x : Var) (t : Ty) → VarHasType g x t → Suits g c → is_of t (read c x) ≡ true
read_typed g c (Global x) t h s = nth_typed g.globals c.globals x t h s.globals
read_typed g c (Local x) t h s = nth_typed g.frame c.frame x t h s.frame

operate_typed : (op : Op) (P Q : Ty → Type 0) (v w : Val) (t : Ty) → OpHasType op P Q t → is_of t (operate op v w) ≡ true
operate_typed And P Q v w t h = ap is_bool h.0
operate_typed Or P Q v w t h = ap is_bool h.0
operate_typed Implies P Q v w t h = ap is_bool h.0
operate_typed Iff P Q v w t h = ap is_bool h.0
operate_typed Equal P Q v w t h = ap is_bool h.0
operate_typed Unequal P Q v w t h = ap is_bool h.0
operate_typed Less P Q v w t h = ap is_bool h.0
operate_typed AtMost P Q v w t h = ap is_bool h.0
operate_typed Greater P Q v w t h = ap is_bool h.0
operate_typed AtLeast P Q v w t h = ap is_bool h.0
operate_typed Plus P Q v w t h = ap is_int h.0
operate_typed Minus P Q v w t h = ap is_int h.0
operate_typed Times P Q v w t h = ap is_int h.0

old_suits : (g : Sig) (c : Scope) → Suits g c → Suits g (record { functions = c.functions; constants = c.constants; globals = c.before; before = c.before; frame = c.frame })
old_suits g c s =
    record { constants = s.constants; globals = s.before; before = s.before; frame = s.frame; functions = s.functions }

mutual
  ev_typed : (e : Ex) (g : Sig) (t : Ty) (c : Scope) → HasType e g t → Suits g c → is_of t (ev e c) ≡ true
  ev_typed (Number z) g t c h s = ap is_int h
  ev_typed (Fact b) g t c h s = ap is_bool h
  ev_typed (Constant k) g t c h s = nth_typed g.constants c.constants k t h s.constants
  ev_typed (Read x) g t c h s = read_typed g c x t h s
  ev_typed (Not e) g t c h s = ap is_bool h.0
  ev_typed (Negative e) g t c h s = ap is_int h.0
  ev_typed (Binary op a b) g t c h s = operate_typed op (HasType a g) (HasType b g) (ev a c) (ev b c) t h
  ev_typed (Apply f es) g t c h s =
      subst (λ x. is_of x (c.functions f (evs es c)) ≡ true) (sym h.2) (s.functions f h.0 (evs es c) h.1 (evs_typed es g h.0.params c h.3 s))
  ev_typed (Select m es) g t c h s =
      select_typed h.0 t (ev m c) (map number_of (evs es c)) (ev_typed m g (MapTy h.0 t) c h.1 s)
  ev_typed (Update m es e) g t c h s =
      let u = h.1.0 in
      let keys = evs_typed es g (map key_ty h.0) c h.1.3 s in
      subst (λ x. is_of x (update (ev m c) (map number_of (evs es c)) (ev e c)) ≡ true) (sym h.1.1) (update_typed h.0 u (ev m c) (map number_of (evs es c)) (ev e c) (ev_typed m g (MapTy h.0 u) c h.1.2 s) (eq-eqb (length h.0) (length (map number_of (evs es c))) (lengths h.0 (evs es c) keys)) (ev_typed e g u c h.1.4 s))
  ev_typed (Old e) g t c h s = ev_typed e g t _ h (old_suits g c s)

  pub evs_typed : (es : Exs) (g : Sig) (ts : List Ty) (c : Scope) → HaveTypes es g ts → Suits g c → are_of ts (evs es c) ≡ true
  evs_typed NoMore g ts c h s = ap (λ x. are_of x []) h
  evs_typed (More e es) g [] c h s = absurd h
  evs_typed (More e es) g (t ∷ ts) c h s =
      both (is_of t (ev e c)) (are_of ts (evs es c)) (ev_typed e g t c h.0 s) (evs_typed es g ts c h.1 s)

-- a table gives values of its type
entry_typed : (f : Fun) (d : Val) (es : List (List Val × Val)) (args : List Val) → are_entries f d es ≡ true → is_of f.result d ≡ true → is_of f.result (entry_for es args d) ≡ true
entry_typed f d [] args h k = k
entry_typed f d (e ∷ es) args h k =
    let h1 = and_right (are_of f.params e.0) _ h in
    let h2 = and_right (is_of f.result e.1) _ h1 in
    let h3 = and_right (not (val_eq e.1 d)) _ h2 in
    pick (vals_eq e.0 args) (and_left (is_of f.result e.1) _ h1) (entry_typed f d es args (and_right (is_before e.0 es) (are_entries f d es) h3) k)
  where
    pick : (b : Bool) → is_of f.result e.1 ≡ true → is_of f.result (entry_for es args d) ≡ true → is_of f.result (if b then e.1 else entry_for es args d) ≡ true
    pick true x y = x
    pick false x y = y

table_typed : (fs : List Fun) (ts : List Table) (f : ℕ) (fn : Fun) (args : List Val) → are_tables fs ts ≡ true → slice_get fs f ≡ Some fn → is_of fn.result (look_up (slice_get ts f) args) ≡ true
table_typed [] ts f fn args h e = absurd (let bad : ⊥ = cc in bad)
table_typed (x ∷ fs) [] f fn args h e = absurd (let bad : ⊥ = cc in bad)
table_typed (x ∷ fs) (t ∷ ts) zero fn args h e =
    let same : x ≡ fn = cc in
    let is = and_left (is_table x t) _ (and_left (is_table_of x t) (are_tables fs ts) h) in
    subst (λ y. is_of y.result (entry_for t.entries args t.default) ≡ true) same (entry_typed x t.default t.entries args (and_right (is_of x.result t.default) (are_entries x t.default t.entries) is) (and_left (is_of x.result t.default) (are_entries x t.default t.entries) is))
table_typed (x ∷ fs) (t ∷ ts) (suc f) fn args h e =
    table_typed fs ts f fn args (and_right (is_table_of x t) (are_tables fs ts) h) e

module _ (p : Prog) (i : Interp) (consts : are_of (const_types p.constants) i.constants ≡ true) (tables : are_tables p.functions i.tables ≡ true) (bodies : AreTypedBodies p) where
  value_typed : (fs : ℕ → List Val → Val) → ((g : ℕ) (gn : Fun) (args : List Val) → slice_get p.functions g ≡ Some gn → are_of gn.params args ≡ true → is_of gn.result (fs g args) ≡ true) → (f : ℕ) (fn : Fun) (args : List Val) → slice_get p.functions f ≡ Some fn → are_of fn.params args ≡ true → (b : Option Ex) → fn.body ≡ b → is_of fn.result (body_value b fs i f args) ≡ true
  value_typed fs typed f fn args e h None q = table_typed p.functions i.tables f fn args tables e
  value_typed fs typed f fn args e h (Some x) q =
      ev_typed x (record { constants = const_types p.constants; functions = p.functions; globals = []; frame = fn.params }) fn.result _ (bodies f fn x e q) (record {
        constants = consts;
        globals = refl;
        before = refl;
        frame = h;
        functions = typed;
      })

  functions_typed : (depth f : ℕ) (fn : Fun) (args : List Val) → slice_get p.functions f ≡ Some fn → are_of fn.params args ≡ true → is_of fn.result (functions_to depth p.functions i f args) ≡ true
  functions_typed zero f fn args e h =
      ap (λ o. is_of fn.result (default_result o)) e ∙ default_typed fn.result
  functions_typed (suc depth) f fn args e h =
      ap (λ o. is_of fn.result (body_value (body_of o) (functions_to depth p.functions i) i f args)) e
      ∙ value_typed (functions_to depth p.functions i) (functions_typed depth) f fn args e h fn.body refl

pub value_has_type : (p : Prog) (ds : List Decl) (i : Interp) (e : Ex) (t : Ty) (globals before frame : List Val) → AreTypedBodies p → IsInterp p i → are_of (types_of p.globals) globals ≡ true → are_of (types_of p.globals) before ≡ true → are_of (types_of ds) frame ≡ true → HasType e (sig_in p ds) t → is_of t (ev e (record { functions = functions_of p i; constants = i.constants; globals = globals; before = before; frame = frame })) ≡ true
value_has_type p ds i e t globals before frame bodies interp g b f h =
    ev_typed e (sig_in p ds) t (record { functions = functions_of p i; constants = i.constants; globals = globals; before = before; frame = frame }) h (record {
      constants = interp.constants;
      globals = g;
      before = b;
      frame = f;
      functions = functions_typed p i interp.constants interp.tables bodies (suc (length p.functions));
    })

module _ (c : Ctx) (consts : are_of (const_types c.program.constants) c.interp.constants ≡ true) (tables : are_tables c.program.functions c.interp.tables ≡ true) (bodies : AreTypedBodies c.program) (before : are_of (types_of c.program.globals) c.before ≡ true) where
  pub suits : (w : World) → AreTyped c w.globals w.frame → Suits (sig_of c) (scope c w)
  suits w t =
      record {
        constants = consts;
        globals = t.0;
        before = before;
        frame = t.1;
        functions = functions_typed c.program c.interp consts tables bodies (suc (length c.program.functions));
      }

  put_all_typed : (xs : List Var) (vs : List Val) (w : World) → are_of (types_at c xs) vs ≡ true → AreTyped c w.globals w.frame → AreTyped c (put_all xs vs w).globals (put_all xs vs w).frame
  put_all_typed [] vs w h t = t
  put_all_typed (x ∷ xs) [] w h t = t
  put_all_typed (x ∷ xs) (v ∷ vs) w h t =
      put_all_typed xs vs (put x v w) (and_right (is_of (type_in (decl_of c x)) v) (are_of (types_at c xs) vs) h) (put_typed c x v w (and_left (is_of (type_in (decl_of c x)) v) (are_of (types_at c xs) vs) h) t)

  choose_if_typed : (b : Bool) (t : Ty) (v : Val) (f : Flow) → is_of t v ≡ b → (is_of t v ≡ true → Stays (AreTyped c) f) → Stays (AreTyped c) (if b then f else Over BadChoice)
  choose_if_typed true t v f e h = h e
  choose_if_typed false t v f e h = tt

  choose_from_typed : (cs : List Choice) (t : Ty) (w : World) (k : Val → World → Flow) → AreTyped c w.globals w.frame → ((v : Val) (u : World) → is_of t v ≡ true → AreTyped c u.globals u.frame → Stays (AreTyped c) (k v u)) → Stays (AreTyped c) (choose_from cs t w k)
  choose_from_typed [] t w k h g = tt
  choose_from_typed (Branch n ∷ cs) t w k h g = tt
  choose_from_typed (Chosen v ∷ cs) t w k h g =
      choose_if_typed (is_of t v) t v (k v (record w { choices = cs })) refl (λ e. g v (record w { choices = cs }) e h)

  choose_all_typed : (ds : List Decl) (w : World) (k : List Val → World → Flow) → AreTyped c w.globals w.frame → ((vs : List Val) (u : World) → are_of (types_of ds) vs ≡ true → AreTyped c u.globals u.frame → Stays (AreTyped c) (k vs u)) → Stays (AreTyped c) (choose_all ds w k)
  choose_all_typed [] w k t h = h [] w refl t
  choose_all_typed (d ∷ ds) w k t h =
      choose_from_typed
      w.choices
      d.ty
      w
      (λ v u. choose_all ds u (λ vs x. k (v ∷ vs) x))
      t
      (λ v u e s. choose_all_typed ds u (λ vs x. k (v ∷ vs) x) s (λ vs x e' s'. h (v ∷ vs) x (both (is_of d.ty v) (are_of (types_of ds) vs) e e') s'))

  ends : (f : Flow) → Stays (AreTyped c) f → EndsTyped c f
  ends (Next w) h = h
  ends (Jumps p w) h = h
  ends (Over a) h = tt

  call_typed : (q : Option Proc) (k : Call) (w : World) → CallHasType c.program c.variables q k.args k.takes → AreTyped c w.globals w.frame → Stays (AreTyped c) (call_of q c k w)
  call_typed None k w h t = t
  call_typed (Some q) k w h t =
      let args = evs k.args (scope c w) in
      and_then_stays
      (AreTyped c)
      (check_all c (AtCall k.site) (callee_scope c w.globals args) q.requires_ w)
      (called args)
      (check_all_stays (AreTyped c) c (AtCall k.site) (callee_scope c w.globals args) q.requires_ w t)
      (λ v tv. and_then_stays
      (AreTyped c)
      (forget_all c (modified c.program q) v)
      (chosen v.globals args)
      (forget_all_stays (AreTyped c) c (modified c.program q) (puts (modified c.program q)) v tv)
      (λ u tu. choose_all_typed
      q.results
      u
      (stored v.globals args)
      tu
      (λ results s e ts. and_then_stays
      (AreTyped c)
      (suppose_all c (callee_scope c v.globals (args ++ results)) said s)
      (λ x. Next (put_all k.takes results x))
      (suppose_all_stays (AreTyped c) c (callee_scope c v.globals (args ++ results)) said s ts)
      (λ x tx. put_all_typed k.takes results x (subst (λ l. are_of l results ≡ true) (sym h.1) e) tx))))
    where
      said : List Ex
      said = wheres_at c (modified c.program q) ++ (wheres_of q.results ++ says_of (is_there c.set) q.ensures_)

      stored : List Val → List Val → List Val → World → Flow
      stored before' args results t' =
          and_then (suppose_all c (callee_scope c before' (args ++ results)) said t') (λ s. Next (put_all k.takes results s))

      chosen : List Val → List Val → World → Flow
      chosen before' args u = choose_all q.results u (stored before' args)

      called : List Val → World → Flow
      called args v = and_then (forget_all c (modified c.program q) v) (chosen v.globals args)

      puts : (ys : List Var) → ClosedPuts (AreTyped c) c ys
      puts ys = typed_puts c ys

  pub keeps_types : (s : St) → IsTypedSt c s → KeepsTypes c s
  keeps_types Skip h = tt
  keeps_types (Then a b) h = (keeps_types a h.0, keeps_types b h.1)
  keeps_types (Label l) h = tt
  keeps_types (Assert k) h = tt
  keeps_types (Assume e) h = tt
  keeps_types (Havoc xs) h = h
  keeps_types (Assign xs es) h =
      (h.0, λ w t. put_all_typed xs (evs es (scope c w)) w (evs_typed es (sig_of c) (types_at c xs) (scope c w) h.1 (suits w t)) t)
  keeps_types (Invoke k) h =
      (h.0, λ w t. ends (by_specification c k w) (call_typed (procedure_of c.program k.procedure) k w h.1 t))
  keeps_types (If n g a b) h = (keeps_types a h.0, keeps_types b h.1)
  keeps_types (While n g is a) h = keeps_types a h
  keeps_types (Break n) h = tt
  keeps_types (Goto ls) h = tt
  keeps_types Return h = tt
