-- The blocks of a typed implementation are typed, all that they say included.
use Rattle.std.proofs.Common.{◌≡◌, ℕ, zero, suc, Bool, true, false, List, [], ◌∷◌, ◌++◌, map, Some, refl, sym, ap, ◌∙◌, subst, arith}
use Rattle.std.specs.Prelude.{slice_get, All}
use Rattle.bg_ast.specs.Values.{Ty}
use Rattle.bg_ast.specs.Syntax.{Var, Global, Local, Ex, Clause, Guard, Star, Test, Call, St, Skip, Then, Label, Assert, Assume, Havoc, Assign, Invoke, If, While, Break, Goto, Return, Decl, Proc, Prog}
use Rattle.bg_ast.specs.Execution.{Spot, AtAssert, AtEntry, AfterTurn, AtCall}
use Rattle.bg_sense.specs.Types.{types_of}
use Rattle.bg_sense.specs.Variables.{wheres_in, wheres_of, wheres_at, procedure_of, modified}
use Rattle.bg_sense.specs.Typing.{Sig, sig_in, types_in, HaveTypes}
use Rattle.bg_sense.specs.Typed.{AreLinear, HasNoOld, IsFormula, IsGuard, Around, IsTypedCall, IsTypedStatement, AreTypedDecls, IsTypedProc}
use Rattle.bg_flow.specs.Core.{Demand, Saying, Suppose, Head, Core, Nil, Seq, Mark, Do, To, Choose, Loop, still, demands, demands_if, sayings, sayings_if, each_one, the_checked, the_free, plain, plan_of, calls_of, desugar}
use Rattle.bg_flow.specs.Blocks.{Coded, closed, skipped, turned, code, at_end, blocks_of}
use Rattle.bg_passive.specs.Incarnations.{ty_of}
use Rattle.bg_block_types.specs.TypedFlow.{sig_with, sig_here, DemandsAreTyped, SayingsAreTyped, PlanIsTyped, CmdsAreTyped, GuardIsTyped, CodeIsTyped}
use Rattle.bg_block_types.proofs.Renamed.{formula_wider}
use Rattle.bg_block_types.proofs.Commands.{led_typed}

pub all_tail : {A : Type 0} (P : A → Type 0) (x : A) (xs : List A) → All P (x ∷ xs) → All P xs
all_tail P x xs h = λ k d l. h (suc k) d (omega arith)

pub all_at : {A : Type 0} (P : A → Type 0) (xs : List A) (k : ℕ) (x : A) → All P xs → slice_get xs k ≡ Some x → P x
all_at P [] k x h e = absurd (let bad : ⊥ = cc in bad)
all_at P (y ∷ xs) zero x h e = let same : y ≡ x = cc in subst P same (h 0 y (omega arith))
all_at P (y ∷ xs) (suc k) x h e = all_at P xs k x (all_tail P y xs h) e

pub types_append : (ds es : List Decl) → types_of (ds ++ es) ≡ types_of ds ++ types_of es
types_append [] es = refl
types_append (d ∷ ds) es = ap (λ l. d.ty ∷ l) (types_append ds es)

-- ---- what is demanded, assumed and said by declarations

-- expressions that are assumed
abbrev pub GoodList : Sig → List Ex → Type 0
GoodList g [] = Unit {0}
GoodList g (e ∷ es) = IsFormula g e × GoodList g es

pub list_append : (g : Sig) (es fs : List Ex) → GoodList g es → GoodList g fs → GoodList g (es ++ fs)
list_append g [] fs h k = k
list_append g (e ∷ es) fs h k = (h.0, list_append g es fs h.1 k)

of_all : (g : Sig) (es : List Ex) → All (IsFormula g) es → GoodList g es
of_all g [] h = tt
of_all g (e ∷ es) h = (h 0 e (omega arith), of_all g es (all_tail (IsFormula g) e es h))

pub list_wider : (p : Prog) (gts fts more : List Ty) (es : List Ex) → GoodList (sig_with p gts fts) es → GoodList (sig_with p gts (fts ++ more)) es
list_wider p gts fts more [] h = tt
list_wider p gts fts more (e ∷ es) h = (formula_wider p gts fts more e h.0, list_wider p gts fts more es h.1)

abbrev pub GoodClauses : Sig → List Clause → Type 0
GoodClauses g [] = Unit {0}
GoodClauses g (k ∷ ks) = IsFormula g k.says × GoodClauses g ks

pub clauses_of_all : (g : Sig) (P : Clause → Type 0) (ks : List Clause) → ((k : Clause) → P k → IsFormula g k.says) → All P ks → GoodClauses g ks
clauses_of_all g P [] f h = tt
clauses_of_all g P (k ∷ ks) f h = (f k (h 0 k (omega arith)), clauses_of_all g P ks f (all_tail P k ks h))

pub clauses_wider : (p : Prog) (gts fts more : List Ty) (ks : List Clause) → GoodClauses (sig_with p gts fts) ks → GoodClauses (sig_with p gts (fts ++ more)) ks
clauses_wider p gts fts more [] h = tt
clauses_wider p gts fts more (k ∷ ks) h = (formula_wider p gts fts more k.says h.0, clauses_wider p gts fts more ks h.1)

demand_if : (g : Sig) (b : Bool) (d : Demand) (ds : List Demand) → IsFormula g d.says → DemandsAreTyped g ds → DemandsAreTyped g (demands_if b d ds)
demand_if g true d ds h k = k
demand_if g false d ds h k = (h, k)

pub good_demands : (g : Sig) (spot : ℕ → Spot) (ks : List Clause) → GoodClauses g ks → DemandsAreTyped g (demands spot ks)
good_demands g spot [] h = tt
good_demands g spot (k ∷ ks) h = demand_if g k.is_free _ _ h.0 (good_demands g spot ks h.1)

saying_if : (g : Sig) (b : Bool) (d : Saying) (ds : List Saying) → IsFormula g d.says → SayingsAreTyped g ds → SayingsAreTyped g (sayings_if b d ds)
saying_if g true d ds h k = (h, k)
saying_if g false d ds h k = k

pub good_sayings : (g : Sig) (which : Bool → Bool) (ks : List Clause) → GoodClauses g ks → SayingsAreTyped g (sayings which ks)
good_sayings g which [] h = tt
good_sayings g which (k ∷ ks) h = saying_if g (which k.is_free) _ _ h.0 (good_sayings g which ks h.1)

pub good_plain : (g : Sig) (es : List Ex) (ds : List Saying) → GoodList g es → SayingsAreTyped g ds → SayingsAreTyped g (plain es ds)
good_plain g [] ds h k = k
good_plain g (e ∷ es) ds h k = (h.0, good_plain g es ds h.1 k)

pub decls_say : (g : Sig) (ds : List Decl) → AreTypedDecls g ds → GoodList g (wheres_of ds)
decls_say g [] h = tt
decls_say g (d ∷ ds) h =
    list_append g d.wheres (wheres_of ds) (of_all g d.wheres (h 0 d (omega arith))) (decls_say g ds (all_tail (λ d. All (IsFormula g) d.wheres) d ds h))

decl_says : (g : Sig) (ds : List Decl) (x : ℕ) → GoodList g (wheres_of ds) → GoodList g (wheres_in (slice_get ds x))
decl_says g [] x h = tt
decl_says g (d ∷ ds) zero h = front d.wheres h
  where
    front : (es : List Ex) → GoodList g (es ++ wheres_of ds) → GoodList g es
    front [] h = tt
    front (e ∷ es) h = (h.0, front es h.1)
decl_says g (d ∷ ds) (suc x) h = decl_says g ds x (behind d.wheres h)
  where
    behind : (es : List Ex) → GoodList g (es ++ wheres_of ds) → GoodList g (wheres_of ds)
    behind [] h = h
    behind (e ∷ es) h = behind es h.1

-- ---- blocks

module _ (p : Prog) (ds : List Decl) where
  abbrev here : Sig
  here = sig_here p ds

  abbrev GoodHead : Head → Type 0
  GoodHead h =
      DemandsAreTyped here h.arriving × (SayingsAreTyped here h.held × (SayingsAreTyped here h.free × DemandsAreTyped here h.turned))

  abbrev pub GoodCore : Core → Type 0
  GoodCore (Seq a b) = GoodCore a × GoodCore b
  GoodCore (Do ks) = CmdsAreTyped p ds ks
  GoodCore (Choose e a b) = GuardIsTyped p ds e × (GoodCore a × GoodCore b)
  GoodCore (Loop h e a) = GoodHead h × (GuardIsTyped p ds e × GoodCore a)
  GoodCore _ = Unit {0}

  pub code_good : (s : Core) (t : Coded) → GoodCore s → CodeIsTyped p ds t.blocks → CodeIsTyped p ds (code s t).blocks
  code_good Nil t h k = k
  code_good (Seq a b) t h k = code_good a (code b t) h.0 (code_good b t h.1 k)
  code_good (Mark q) t h k = k
  code_good (Do ks) t h k = led_typed p ds t.takes_in ks t.blocks h k
  code_good (To qs) t h k = ((tt, tt), k)
  code_good (Choose e a b) t h k =
      ((tt, h.0), code_good a (skipped t (code b (closed t))) h.1.0 ((tt, tt), code_good b (closed t) h.1.1 k))
  code_good (Loop hd e a) t h k =
      (((h.0.0, (tt, (h.0.1.0, (h.0.1.1.0, tt)))), h.1.0), code_good a (turned hd t) h.1.1 (((h.0.1.1.1, (tt, tt)), tt), k))

-- ---- bodies

module _ (p : Prog) (q : Proc) (ds : List Decl) (gsay : GoodList (sig_with p (types_of p.globals) []) (wheres_of p.globals)) (dsay : GoodList (sig_with p (types_of p.globals) (types_of ds)) (wheres_of ds)) (procs : (k : ℕ) (c : Proc) → slice_get p.procedures k ≡ Some c → IsTypedProc p c) where
  abbrev gts : List Ty
  gts = types_of p.globals

  abbrev fts : List Ty
  fts = types_of ds

  abbrev tys : Var → Ty
  tys = ty_of p ds

  abbrev sig : Sig
  sig = sig_with p gts fts

  abbrev around : Around
  around = record { program = p; procedure = q; variables = ds }

  globals_say : (us : List Ty) → GoodList (sig_with p gts us) (wheres_of p.globals)
  globals_say us = list_wider p gts [] us (wheres_of p.globals) gsay

  says_at : (xs : List Var) → GoodList sig (wheres_at (still p ds) xs)
  says_at [] = tt
  says_at (Global x ∷ xs) =
      list_append sig (wheres_in (slice_get p.globals x)) _ (decl_says sig p.globals x (globals_say fts)) (says_at xs)
  says_at (Local x ∷ xs) = list_append sig (wheres_in (slice_get ds x)) _ (decl_says sig ds x dsay) (says_at xs)

  -- what globals are declared to be, in any frame
  modified_say : (us : List Ty) (xs : List Var) → GoodList (sig_with p gts us) (wheres_at (still p []) xs)
  modified_say us [] = tt
  modified_say us (Global x ∷ xs) =
      list_append (sig_with p gts us) (wheres_in (slice_get p.globals x)) _ (decl_says (sig_with p gts us) p.globals x (globals_say us)) (modified_say us xs)
  modified_say us (Local x ∷ xs) = modified_say us xs

  guard_good : (e : Guard) → IsGuard sig e → GuardIsTyped p ds e
  guard_good Star h = tt
  guard_good (Test e) h = h

  types_same : (xs : List Var) → types_in p ds xs ≡ map tys xs
  types_same [] = refl
  types_same (Global x ∷ xs) = ap (λ l. tys (Global x) ∷ l) (types_same xs)
  types_same (Local x ∷ xs) = ap (λ l. tys (Local x) ∷ l) (types_same xs)

  plan_good : (k : Call) (c : Proc) → IsTypedProc p c → HaveTypes k.args sig (types_of c.params) → AreLinear k.args → types_in p ds k.takes ≡ types_of c.results → PlanIsTyped p ds (plan_of p c k)
  plan_good k c t args linear takes =
      let us = types_of c.params ++ types_of c.results in
      let g = sig_with p gts us in
      let e : types_of (c.params ++ c.results) ≡ us = types_append c.params c.results in
      let needs = clauses_of_all (sig_in p c.params) (λ k. IsFormula (sig_in p c.params) k.says × HasNoOld k.says) c.requires_ (λ k x. x.0) t.requires_ in
      let results = subst (λ u. GoodList (sig_with p gts u) (wheres_of c.results)) e (decls_say (sig_in p (c.params ++ c.results)) c.results t.results) in
      let ensures_ = subst (λ u. GoodClauses (sig_with p gts u) c.ensures_) e (clauses_of_all (sig_in p (c.params ++ c.results)) (λ k. IsFormula (sig_in p (c.params ++ c.results)) k.says) c.ensures_ (λ k x. x) t.ensures_) in
      let gives = good_plain g (wheres_at (still p []) (modified p c)) (plain (wheres_of c.results) (sayings each_one c.ensures_)) (modified_say us (modified p c)) (good_plain g (wheres_of c.results) (sayings each_one c.ensures_) results (good_sayings g each_one c.ensures_ ensures_)) in
      ((args, linear), (good_demands (sig_in p c.params) (AtCall k.site) c.requires_ needs, (gives, sym (types_same k.takes) ∙ takes)))

  call_good : (k : Call) → IsTypedCall around k → CmdsAreTyped p ds (calls_of p (procedure_of p k.procedure) k)
  call_good k h =
      let c = h.0 in
      subst (λ x. CmdsAreTyped p ds (calls_of p x k)) (sym h.1.0) (plan_good k c (procs k.procedure c h.1.0) h.1.1.0 h.1.1.1.0 h.1.1.1.1.0, tt)

  desugar_good : (s : St) (inside before : List ℕ) → IsTypedStatement around inside before s → GoodCore p ds (desugar p ds s)
  desugar_good Skip inside before h = tt
  desugar_good (Then a b) inside before h = (desugar_good a inside _ h.0, desugar_good b inside before h.1)
  desugar_good (Label l) inside before h = tt
  desugar_good (Assert k) inside before h = (good_demands sig AtAssert (k ∷ []) (h.1, tt), tt)
  desugar_good (Assume e) inside before h = ((h, tt), tt)
  desugar_good (Havoc xs) inside before h = (tt, (good_plain sig (wheres_at (still p ds) xs) [] (says_at xs) tt, tt))
  desugar_good (Assign xs es) inside before h = ((subst (λ ts. HaveTypes es sig ts) (types_same xs) h.2, h.3), tt)
  desugar_good (Invoke k) inside before h = call_good k h
  desugar_good (If n e a b) inside before h =
      ((guard_good e h.0, (desugar_good a (n ∷ inside) before h.1, desugar_good b (n ∷ inside) before h.2)), tt)
  desugar_good (While n e is a) inside before h =
      let ks = clauses_of_all sig (λ k. IsFormula sig k.says) is (λ k x. x) h.1 in
      (((good_demands sig AtEntry is ks, (good_sayings sig the_checked is ks, (good_sayings sig the_free is ks, good_demands sig AfterTurn is ks))), (guard_good e h.0, desugar_good a (n ∷ inside) before h.2)), tt)
  desugar_good (Break n) inside before h = tt
  desugar_good (Goto ls) inside before h = tt
  desugar_good Return inside before h = tt

  -- the blocks of a routine with this body
  pub routine_good : (s : St) (given : List Saying) (wanted : List Demand) → IsTypedStatement around [] [] s → SayingsAreTyped sig given → DemandsAreTyped sig wanted → CodeIsTyped p ds (blocks_of (record { given = given; body = desugar p ds s; wanted = wanted }))
  routine_good s given wanted h a b =
      let body = code (desugar p ds s) (at_end wanted) in
      led_typed p ds body.takes_in (Suppose given ∷ []) body.blocks (a, tt)
      (code_good p ds (desugar p ds s) (at_end wanted) (desugar_good s [] [] h) (((b, tt), tt), tt))
