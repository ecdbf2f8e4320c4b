-- Runs of an opened program fail where those of the program fail, under interpretations that meet it.
use Rattle.std.proofs.Common.{◌≡◌, ℕ, zero, suc, arith, Bool, true, false, List, [], ◌∷◌, ◌++◌, length, map, Option, Some, None, refl, sym, ap, ◌∙◌, subst, ⊎_elim}
use Rattle.std.specs.Prelude.{◌&&◌, slice_get, option_map, take, drop, All}
use Rattle.std.specs.List.{list_all}
use Rattle.bg_ast.specs.Values.{Val, Ty, IntTy, BoolTy, MapTy, is_of, truth_of}
use Rattle.bg_ast.specs.Syntax.{Ex, Exs, Number, Fact, Constant, Read, Global, Local, Not, Negative, Binary, Apply, Select, Update, Old, NoMore, More, St, Decl, Const, Fun, Proc, Impl, Prog}
use Rattle.bg_ast.specs.Execution.{Interp, State, Choice, Spot, Place}
use Rattle.bg_sense.specs.Eval.{Scope, ev, evs, operate, holds_alone, functions_of}
use Rattle.bg_sense.specs.Flow.{Answer, Failed, Blocked}
use Rattle.bg_sense.specs.Context.{Cut, Ctx, scope}
use Rattle.bg_sense.specs.Types.{are_of, types_of, const_types}
use Rattle.bg_sense.specs.Tables.{are_tables}
use Rattle.bg_sense.specs.Interps.{are_distinct, all_hold, Meets}
use Rattle.bg_sense.specs.Variables.{procedure_of, wheres_of}
use Rattle.bg_sense.specs.Typing.{Sig, HasType, HaveTypes, sig_in}
use Rattle.bg_sense.specs.Typed.{HasNoOld, IsFormula, IsTypedProc, IsTypedImpl, IsTyped, around}
use Rattle.bg_sense.specs.Recursion.{HasNoRecursion}
use Rattle.bg_sense.specs.Resolved.{IsResolved}
use Rattle.bg_sense.specs.Run.{context, start, run, run_of, run_body, induction_run}
use Rattle.bg_sense.specs.Calls.{by_specification}
use Rattle.bg_sense.specs.Claims.{frame_with, frame_of, Fails}
use Rattle.bg_sense.proofs.Bools.{and_left, and_right, both, bool_cases}
use Rattle.bg_fits.specs.Valued.{is_value_type, st_passes, clause_passes, decls_pass, fun_passes, proc_passes, impl_passes}
use Rattle.bg_opened.proofs.Plain.{is_plain, is_over_plain}
use Rattle.bg_opened.proofs.Tables.{Agree, bodiless_tables, are_tables_for, tables_agree}
use Rattle.bg_opened.specs.Exprs.{opened}
use Rattle.bg_opened.specs.Unique.{claims}
use Rattle.bg_opened.specs.Judged.{const_judged}
use Rattle.bg_opened.specs.Programs.{global_for, supposing, opened_clause, opened_st, opened_decl, opened_proc, opened_impl, bodies_of, opened_program}
use Rattle.bg_opened.specs.Moments.{tables_of, with_constants, interp_in, without_constants}
use Rattle.bg_opened.proofs.Places.{at_mapped}
use Rattle.bg_opened.proofs.Worths.{typed_reads, sides}
use Rattle.bg_opened.proofs.Runs.{Each, Fair, FairDecl, FairSt, FairProc, body_alike, body_blocked}
use Rattle.bg_opened.proofs.Resolves.{map_append, each_all}
use Rattle.bg_opened.proofs.Uniques.{claims_typed, claims_hold}
use Rattle.bg_opened.proofs.Fairs.{types_length, each_weaker, each_append, list_all_left, list_all_at, reads_more, fair_clauses, fair_decls, fair_modified, fair_st, its_procedure, modified_alike, targets_alike, decls_alike, decl_fair, worth}

-- ---- what reads no variable is worth the same at each moment

module _ (fs : ℕ → List Val → Val) (cs : List Val) (sig : Sig) (bare_globals : sig.globals ≡ []) (bare_frame : sig.frame ≡ []) where
  abbrev M : List Val → List Val → List Val → Scope
  M gs bs r = record { functions = fs; constants = cs; globals = gs; before = bs; frame = r }

  none_there : (ts : List Ty) (x : ℕ) (t : Ty) → ts ≡ [] → slice_get ts x ≡ Some t → ⊥
  none_there [] x t e h = let bad : ⊥ = cc in bad
  none_there (u ∷ ts) x t e h = let bad : ⊥ = cc in bad

  mutual
    pub alone : (e : Ex) (t : Ty) → HasType e sig t → (gs bs r hs as' q : List Val) → ev e (M gs bs r) ≡ ev e (M hs as' q)
    alone (Number z) t h gs bs r hs as' q = refl
    alone (Fact b) t h gs bs r hs as' q = refl
    alone (Constant k) t h gs bs r hs as' q = refl
    alone (Read (Global x)) t h gs bs r hs as' q = absurd (none_there sig.globals x t bare_globals h)
    alone (Read (Local x)) t h gs bs r hs as' q = absurd (none_there sig.frame x t bare_frame h)
    alone (Not e) t h gs bs r hs as' q = let i = alone e BoolTy h.1 gs bs r hs as' q in cc
    alone (Negative e) t h gs bs r hs as' q = let i = alone e IntTy h.1 gs bs r hs as' q in cc
    alone (Binary op a b) t h gs bs r hs as' q =
        let s = sides op (HasType a sig) (HasType b sig) t h in
        ap (λ v. operate op v (ev b (M gs bs r))) (alone a s.0.0 s.0.1 gs bs r hs as' q)
        ∙ ap (operate op (ev a (M hs as' q))) (alone b s.1.0 s.1.1 gs bs r hs as' q)
    alone (Apply f es) t h gs bs r hs as' q = ap (fs f) (all_alone es h.0.params h.3 gs bs r hs as' q)
    alone (Select m es) t h gs bs r hs as' q =
        let i = alone m (MapTy h.0 t) h.1 gs bs r hs as' q in
        let j = all_alone es (map Rattle.bg_sense.specs.Typing.key_ty h.0) h.2 gs bs r hs as' q in
        cc
    alone (Update m es e) t h gs bs r hs as' q =
        let i = alone m (MapTy h.0 h.1.0) h.1.2 gs bs r hs as' q in
        let j = all_alone es (map Rattle.bg_sense.specs.Typing.key_ty h.0) h.1.3 gs bs r hs as' q in
        let k = alone e h.1.0 h.1.4 gs bs r hs as' q in
        cc
    alone (Old e) t h gs bs r hs as' q = alone e t h bs bs r as' as' q

    all_alone : (es : Exs) (ts : List Ty) → HaveTypes es sig ts → (gs bs r hs as' q : List Val) → evs es (M gs bs r) ≡ evs es (M hs as' q)
    all_alone NoMore ts h gs bs r hs as' q = refl
    all_alone (More e es) [] h gs bs r hs as' q = absurd h
    all_alone (More e es) (t ∷ ts) h gs bs r hs as' q =
        let i = alone e t h.0 gs bs r hs as' q in
        let j = all_alone es ts h.1 gs bs r hs as' q in
        cc

-- ---- lists

pub are_of_length : (ts : List Ty) (vs : List Val) → are_of ts vs ≡ true → length vs ≡ length ts
are_of_length [] [] h = refl
are_of_length [] (v ∷ vs) h = absurd (let bad : ⊥ = cc in bad)
are_of_length (t ∷ ts) [] h = absurd (let bad : ⊥ = cc in bad)
are_of_length (t ∷ ts) (v ∷ vs) h = ap suc (are_of_length ts vs (and_right (is_of t v) (are_of ts vs) h))

pub are_of_both : (ts us : List Ty) (vs ws : List Val) → are_of ts vs ≡ true → are_of us ws ≡ true → are_of (ts ++ us) (vs ++ ws) ≡ true
are_of_both [] us [] ws h k = k
are_of_both [] us (v ∷ vs) ws h k = absurd (let bad : ⊥ = cc in bad)
are_of_both (t ∷ ts) us [] ws h k = absurd (let bad : ⊥ = cc in bad)
are_of_both (t ∷ ts) us (v ∷ vs) ws h k =
    both (is_of t v) (are_of (ts ++ us) (vs ++ ws)) (and_left (is_of t v) (are_of ts vs) h) (are_of_both ts us vs ws (and_right (is_of t v) (are_of ts vs) h) k)

pub are_of_front : (ts us : List Ty) (vs : List Val) → are_of (ts ++ us) vs ≡ true → are_of ts (take (length ts) vs) ≡ true
are_of_front [] us vs h = refl
are_of_front (t ∷ ts) us [] h = absurd (let bad : ⊥ = cc in bad)
are_of_front (t ∷ ts) us (v ∷ vs) h =
    both (is_of t v) (are_of ts (take (length ts) vs)) (and_left (is_of t v) (are_of (ts ++ us) vs) h) (are_of_front ts us vs (and_right (is_of t v) (are_of (ts ++ us) vs) h))

pub are_of_behind : (ts us : List Ty) (vs : List Val) → are_of (ts ++ us) vs ≡ true → are_of us (drop (length ts) vs) ≡ true
are_of_behind [] us vs h = h
are_of_behind (t ∷ ts) us [] h = absurd (let bad : ⊥ = cc in bad)
are_of_behind (t ∷ ts) us (v ∷ vs) h = are_of_behind ts us vs (and_right (is_of t v) (are_of (ts ++ us) vs) h)

taken_apart : (n : ℕ) (vs : List Val) → take n vs ++ drop n vs ≡ vs
taken_apart zero vs = refl
taken_apart (suc n) [] = refl
taken_apart (suc n) (v ∷ vs) = ap (λ l. v ∷ l) (taken_apart n vs)

pub types_opened : (g : ℕ) (b : ℕ → Option Ex) (ds : List Decl) → types_of (map (opened_decl g b) ds) ≡ types_of ds
types_opened g b [] = refl
types_opened g b (d ∷ ds) = ap (λ l. d.ty ∷ l) (types_opened g b ds)

pub types_joined : (ds es : List Decl) → types_of (ds ++ es) ≡ types_of ds ++ types_of es
types_joined [] es = refl
types_joined (d ∷ ds) es = ap (λ l. d.ty ∷ l) (types_joined ds es)

types_of_constants : (cs : List Const) → types_of (map global_for cs) ≡ const_types cs
types_of_constants [] = refl
types_of_constants (c ∷ cs) = ap (λ l. c.ty ∷ l) (types_of_constants cs)

-- the types of an opened program's globals
pub global_types : (depth : ℕ) (p : Prog) → types_of (opened_program depth p).globals ≡ types_of p.globals ++ const_types p.constants
global_types depth p =
    types_joined (map (opened_decl (length p.globals) (bodies_of depth p)) p.globals) (map global_for p.constants)
    ∙ ap (λ l. l ++ types_of (map global_for p.constants)) (types_opened (length p.globals) (bodies_of depth p) p.globals)
    ∙ ap (λ l. types_of p.globals ++ l) (types_of_constants p.constants)

wheres_joined : (ds es : List Decl) → wheres_of (ds ++ es) ≡ wheres_of ds ++ wheres_of es
wheres_joined [] es = refl
wheres_joined (d ∷ ds) es = ap (λ l. d.wheres ++ l) (wheres_joined ds es) ∙ joined d.wheres (wheres_of ds) (wheres_of es)
  where
    joined : (xs ys zs : List Ex) → xs ++ (ys ++ zs) ≡ (xs ++ ys) ++ zs
    joined [] ys zs = refl
    joined (x ∷ xs) ys zs = ap (λ l. x ∷ l) (joined xs ys zs)

wheres_of_constants : (cs : List Const) → wheres_of (map global_for cs) ≡ []
wheres_of_constants [] = refl
wheres_of_constants (c ∷ cs) = wheres_of_constants cs

wheres_opened : (g : ℕ) (b : ℕ → Option Ex) (ds : List Decl) → wheres_of (map (opened_decl g b) ds) ≡ map (opened g b) (wheres_of ds)
wheres_opened g b [] = refl
wheres_opened g b (d ∷ ds) =
    ap (λ l. map (opened g b) d.wheres ++ l) (wheres_opened g b ds) ∙ sym (map_append (opened g b) d.wheres (wheres_of ds))

nil_behind : (xs : List Ex) → xs ++ [] ≡ xs
nil_behind [] = refl
nil_behind (x ∷ xs) = ap (λ l. x ∷ l) (nil_behind xs)

pub frame_opened : (g : ℕ) (b : ℕ → Option Ex) (q : Proc) (m : Impl) → map (opened_decl g b) q.params ++ (map (opened_decl g b) q.results ++ map (opened_decl g b) m.locals) ≡ map (opened_decl g b) (q.params ++ (q.results ++ m.locals))
frame_opened g b q m =
    ap (λ l. map (opened_decl g b) q.params ++ l) (sym (map_append (opened_decl g b) q.results m.locals))
    ∙ sym (map_append (opened_decl g b) q.params (q.results ++ m.locals))

pub at_all : {A : Type 0} (P : A → Type 0) (xs : List A) (k : ℕ) (x : A) → All P xs → slice_get xs k ≡ Some x → P x
at_all P [] k x h e = absurd (let bad : ⊥ = cc in bad)
at_all P (y ∷ xs) zero x h e = let same : y ≡ x = cc in subst P same (h 0 y (omega arith))
at_all P (y ∷ xs) (suc k) x h e = at_all P xs k x (λ j d l. h (suc j) d (omega arith)) e

pub supposing_passes : (n : ℕ) (f : Ex → Bool) (es : List Ex) (s : St) → st_passes n f (supposing es s) ≡ true → (list_all f es ≡ true) × (st_passes n f s ≡ true)
supposing_passes n f [] s h = (refl, h)
supposing_passes n f (e ∷ es) s h =
    let r = supposing_passes n f es s (and_right (f e) (st_passes n f (supposing es s)) h) in
    (both (f e) (list_all f es) (and_left (f e) (st_passes n f (supposing es s)) h) r.0, r.1)

-- ---- what the test says of a program's parts

module _ (depth : ℕ) (p : Prog) (test : is_over_plain p.functions (opened_program depth p) ≡ true) where
  abbrev its : Prog
  its = opened_program depth p

  abbrev Globals : Bool
  Globals = decls_pass is_value_type (is_plain p.functions) its.globals

  abbrev Funs : Bool
  Funs = list_all (fun_passes is_value_type) its.functions

  abbrev Procs : Bool
  Procs = list_all (proc_passes p.candidates is_value_type (is_plain p.functions)) its.procedures

  abbrev Impls : Bool
  Impls = list_all (impl_passes p.candidates is_value_type (is_plain p.functions)) its.implementations

  pub globals_pass : Globals ≡ true
  globals_pass = and_left Globals (Funs && (Procs && Impls)) test

  rest : (Procs && Impls) ≡ true
  rest = and_right Funs (Procs && Impls) (and_right Globals (Funs && (Procs && Impls)) test)

  pub procs_pass : Procs ≡ true
  procs_pass = and_left Procs Impls rest

  pub impls_pass : Impls ≡ true
  impls_pass = and_right Procs Impls rest

-- ---- runs of a program

module _ (depth : ℕ) (p : Prog) (i j : Interp) (agree : Agree p.functions i j) (typed : IsTyped p) (res : IsResolved p) (none : HasNoRecursion p) (test : is_over_plain p.functions (opened_program depth p) ≡ true) where
  abbrev g : ℕ
  g = length p.globals

  abbrev b : ℕ → Option Ex
  b = bodies_of depth p

  abbrev F : List Fun
  F = p.functions

  abbrev o : Prog
  o = opened_program depth p

  abbrev cs : List Val
  cs = i.constants

  abbrev n : ℕ
  n = p.candidates

  globals_fair : Each (FairDecl g b F cs) p.globals
  globals_fair =
      fair_decls depth p cs [] p.globals (each_all (λ d. All (IsFormula (sig_in p [])) d.wheres) p.globals typed.globals) (list_all_left (Rattle.bg_fits.specs.Valued.decl_passes is_value_type (is_plain F)) (map (opened_decl g b) p.globals) (map global_for p.constants) (globals_pass depth p test))

  procs_fair : (k : ℕ) (q : Proc) → procedure_of p k ≡ Some q → FairProc g b F cs p o q
  procs_fair k q e =
      let t : IsTypedProc p q = at_all (IsTypedProc p) p.procedures k q typed.procedures e in
      let s = list_all_at (proc_passes n is_value_type (is_plain F)) o.procedures k (opened_proc g b q) (procs_pass depth p test) (its_procedure depth p cs k ∙ ap (option_map (opened_proc g b)) e) in
      let params_pass = decls_pass is_value_type (is_plain F) (map (opened_decl g b) q.params) in
      let results_pass = decls_pass is_value_type (is_plain F) (map (opened_decl g b) q.results) in
      let requires_pass = list_all (clause_passes n (is_plain F)) (map (opened_clause g b) q.requires_) in
      let ensures_pass = list_all (clause_passes n (is_plain F)) (map (opened_clause g b) q.ensures_) in
      let s1 = and_right params_pass (results_pass && (requires_pass && ensures_pass)) s in
      let s2 = and_right results_pass (requires_pass && ensures_pass) s1 in
      record {
        params = fair_decls depth p cs q.params q.params (each_all (λ d. All (IsFormula (sig_in p q.params)) d.wheres) q.params t.params) (and_left params_pass (results_pass && (requires_pass && ensures_pass)) s);
        results = fair_decls depth p cs (q.params ++ q.results) q.results (each_all (λ d. All (IsFormula (sig_in p (q.params ++ q.results))) d.wheres) q.results t.results) (and_left results_pass (requires_pass && ensures_pass) s1);
        requires_ = fair_clauses depth p cs q.params n q.requires_ (each_weaker (λ k. IsFormula (sig_in p q.params) k.says) (λ k. IsFormula (sig_in p q.params) k.says × HasNoOld k.says) q.requires_ (λ k h. h.0) (each_all (λ k. IsFormula (sig_in p q.params) k.says × HasNoOld k.says) q.requires_ t.requires_)) (and_left requires_pass ensures_pass s2);
        ensures_ = fair_clauses depth p cs (q.params ++ q.results) n q.ensures_ (each_all (λ k. IsFormula (sig_in p (q.params ++ q.results)) k.says) q.ensures_ t.ensures_) (and_right requires_pass ensures_pass s2);
        modified_alike = modified_alike depth p cs res k q e;
        modified_fair = fair_modified depth p cs q;
      }

  -- what axioms say
  axiom_fair : (set : ℕ → Bool) (k : ℕ) (ds : List Decl) (b0 : List Val) (es : List Ex) → Each (λ e. IsFormula (sig_in (record p { globals = [] }) []) e × HasNoOld e) es → list_all (is_plain F) (map (opened g b) es) ≡ true → Each (λ e. Fair g b F cs e × ((w : Rattle.bg_sense.specs.Flow.World) → truth_of (ev e (scope (record { program = p; interp = i; set = set; implementation = k; variables = ds; before = b0; loops = Cut }) w)) ≡ holds_alone p i e)) es
  axiom_fair set k ds b0 [] h t = tt
  axiom_fair set k ds b0 (e ∷ es) h t =
      let sig = sig_in (record p { globals = [] }) [] in
      let rest = list_all (is_plain F) (map (opened g b) es) in (
        (
          (reads_more g e (typed_reads e sig BoolTy h.0.0.0), and_left (is_plain F (opened g b e)) rest t),
          λ w. ap truth_of (alone (functions_of p i) cs sig refl refl e BoolTy h.0.0.0 w.globals b0 w.frame [] [] []),
        ),
        axiom_fair set k ds b0 es h.1 (and_right (is_plain F (opened g b e)) rest t),
      )

  its_implementation : (k : ℕ) (m : Impl) → slice_get p.implementations k ≡ Some m → slice_get o.implementations k ≡ Some (opened_impl g b (claims p) m)
  its_implementation k m e = at_mapped (opened_impl g b (claims p)) p.implementations k ∙ ap (option_map (opened_impl g b (claims p))) e

  module _ (set : ℕ → Bool) (k : ℕ) (m : Impl) (q : Proc) (s : State) (choices : List Choice) (im : slice_get p.implementations k ≡ Some m) (iq : procedure_of p m.procedure ≡ Some q) (len : length s.globals ≡ g) where
    abbrev ds : List Decl
    ds = q.params ++ (q.results ++ m.locals)

    its_type : IsTypedImpl p m
    its_type = at_all (IsTypedImpl p) p.implementations k m typed.implementations im

    its_own : its_type.procedure ≡ q
    its_own = let e = sym its_type.is_there ∙ iq in cc

    its_pass : impl_passes n is_value_type (is_plain F) (opened_impl g b (claims p) m) ≡ true
    its_pass =
        list_all_at (impl_passes n is_value_type (is_plain F)) o.implementations k (opened_impl g b (claims p) m) (impls_pass depth p test) (its_implementation k m im)

    abbrev Locals : Bool
    Locals = decls_pass is_value_type (is_plain F) (map (opened_decl g b) m.locals)

    abbrev Whole : St
    Whole = supposing (map (opened g b) (claims p)) (opened_st g b m.body)

    parts : (list_all (is_plain F) (map (opened g b) (claims p)) ≡ true) × (st_passes n (is_plain F) (opened_st g b m.body) ≡ true)
    parts =
        supposing_passes n (is_plain F) (map (opened g b) (claims p)) (opened_st g b m.body) (and_right Locals (st_passes n (is_plain F) Whole) its_pass)

    its_proc : FairProc g b F cs p o q
    its_proc = procs_fair m.procedure q iq

    body_fair : FairSt g b F cs m.body
    body_fair =
        fair_st depth p cs n q ds [] [] m.body (subst (λ y. Rattle.bg_sense.specs.Typed.IsTypedStatement (around p y m) [] [] m.body) its_own its_type.body) parts.1

    locals_fair : Each (FairDecl g b F cs) m.locals
    locals_fair =
        fair_decls depth p cs ds m.locals (each_all (λ d. All (IsFormula (sig_in p ds)) d.wheres) m.locals (subst (λ y. All (λ d. All (IsFormula (sig_in p (y.params ++ (y.results ++ m.locals)))) d.wheres) m.locals) its_own its_type.locals)) (and_left Locals (st_passes n (is_plain F) Whole) its_pass)

    ds_fair : Each (FairDecl g b F cs) ds
    ds_fair =
        each_append (FairDecl g b F cs) q.params (q.results ++ m.locals) its_proc.params (each_append (FairDecl g b F cs) q.results m.locals its_proc.results locals_fair)

    wheres_fair : (es : List Decl) → Each (FairDecl g b F cs) es → Each (Fair g b F cs) (wheres_of es)
    wheres_fair [] h = tt
    wheres_fair (d ∷ es) h = each_append (Fair g b F cs) d.wheres (wheres_of es) h.0 (wheres_fair es h.1)

    begins : wheres_of (o.globals ++ map (opened_decl g b) ds) ≡ map (opened g b) (wheres_of (p.globals ++ ds))
    begins =
        wheres_joined o.globals (map (opened_decl g b) ds)
        ∙ ap (λ l. l ++ wheres_of (map (opened_decl g b) ds)) (wheres_joined (map (opened_decl g b) p.globals) (map global_for p.constants) ∙ ap (λ l. wheres_of (map (opened_decl g b) p.globals) ++ l) (wheres_of_constants p.constants) ∙ nil_behind (wheres_of (map (opened_decl g b) p.globals)) ∙ wheres_opened g b p.globals)
        ∙ ap (λ l. map (opened g b) (wheres_of p.globals) ++ l) (wheres_opened g b ds)
        ∙ sym (map_append (opened g b) (wheres_of p.globals) (wheres_of ds))
        ∙ ap (map (opened g b)) (sym (wheres_joined p.globals ds))

    -- the context of the opened run, with its variables in one list
    abbrev there : List Decl → Ctx
    there vs =
        record {
          program = o;
          interp = j;
          set = set;
          implementation = k;
          variables = vs;
          before = s.globals ++ cs;
          loops = Cut;
        }

    opened_run : induction_run o set j k (with_constants i s) choices ≡ run_body by_specification (there (map (opened_decl g b) ds)) (opened_impl g b (claims p) m) (opened_proc g b q) (start (with_constants i s) choices 0)
    opened_run =
        ap (λ x. run x Cut o set j k (with_constants i s) choices 0) (its_implementation k m im)
        ∙ ap (λ x. run_of x Cut o set j k (opened_impl g b (claims p) m) (with_constants i s) choices 0) (its_procedure depth p cs m.procedure ∙ ap (option_map (opened_proc g b)) iq)
        ∙ ap (λ vs. run_body by_specification (there vs) (opened_impl g b (claims p) m) (opened_proc g b q) (start (with_constants i s) choices 0)) (frame_opened g b q m)

    own_run : induction_run p set i k s choices ≡ run_body by_specification (context Cut p set i k m q s) m q (start s choices 0)
    own_run =
        ap (λ x. run x Cut p set i k s choices 0) im ∙ ap (λ x. run_of x Cut p set i k m s choices 0) iq

    same_runs : all_hold p i (claims p) ≡ true → induction_run o set j k (with_constants i s) choices ≡ induction_run p set i k s choices
    same_runs t =
        opened_run
        ∙ body_alike g b F cs p o i j set k ds s.globals (worth depth p i j agree typed none) len (decls_alike depth p cs ds) (λ x h. decl_fair depth p cs ds globals_fair ds_fair x) (its_procedure depth p cs) procs_fair (λ a h. targets_alike depth p cs ds a res h) m q (claims p) body_fair its_proc.ensures_ (axiom_fair set k ds s.globals (claims p) (claims_typed p typed.axioms) parts.0) begins (wheres_fair (p.globals ++ ds) (each_append (FairDecl g b F cs) p.globals ds globals_fair ds_fair)) its_proc.requires_ (start s choices 0) len t
        ∙ sym own_run

    blocked_run : all_hold p i (claims p) ≡ false → induction_run o set j k (with_constants i s) choices ≡ Blocked
    blocked_run t =
        opened_run
        ∙ body_blocked g b F cs p o i j set k ds s.globals (worth depth p i j agree typed none) len (decls_alike depth p cs ds) (λ x h. decl_fair depth p cs ds globals_fair ds_fair x) (its_procedure depth p cs) procs_fair (λ a h. targets_alike depth p cs ds a res h) m q (claims p) body_fair its_proc.ensures_ (axiom_fair set k ds s.globals (claims p) (claims_typed p typed.axioms) parts.0) begins (wheres_fair (p.globals ++ ds) (each_append (FairDecl g b F cs) p.globals ds globals_fair ds_fair)) its_proc.requires_ (start s choices 0) len t

  no_such : (set : ℕ → Bool) (k : ℕ) (s : State) (choices : List Choice) → slice_get p.implementations k ≡ None → induction_run o set j k (with_constants i s) choices ≡ induction_run p set i k s choices
  no_such set k s choices e =
      ap (λ x. run x Cut o set j k (with_constants i s) choices 0) (at_mapped (opened_impl g b (claims p)) p.implementations k ∙ ap (option_map (opened_impl g b (claims p))) e)
      ∙ sym (ap (λ x. run x Cut p set i k s choices 0) e)

  pub runs_alike : (set : ℕ → Bool) (k : ℕ) (s : State) (choices : List Choice) → all_hold p i (claims p) ≡ true → length s.globals ≡ g → induction_run o set j k (with_constants i s) choices ≡ induction_run p set i k s choices
  runs_alike set k s choices t len = on (slice_get p.implementations k) refl
    where
      on : (x : Option Impl) → slice_get p.implementations k ≡ x → induction_run o set j k (with_constants i s) choices ≡ induction_run p set i k s choices
      on None e = no_such set k s choices e
      on (Some m) e =
          let t' = at_all (IsTypedImpl p) p.implementations k m typed.implementations e in
          same_runs set k m t'.procedure s choices e t'.is_there len t

  pub failing_runs_meet : (set : ℕ → Bool) (k : ℕ) (s : State) (choices : List Choice) (spot : Spot) → length s.globals ≡ g → induction_run o set j k (with_constants i s) choices ≡ Failed spot → all_hold p i (claims p) ≡ true
  failing_runs_meet set k s choices spot len f =
      ⊎_elim (λ t. t) (λ t. absurd (on (slice_get p.implementations k) refl t)) (bool_cases (all_hold p i (claims p)))
    where
      on : (x : Option Impl) → slice_get p.implementations k ≡ x → all_hold p i (claims p) ≡ false → ⊥
      on None e t =
          let r = sym (ap (λ x. run x Cut o set j k (with_constants i s) choices 0) (at_mapped (opened_impl g b (claims p)) p.implementations k ∙ ap (option_map (opened_impl g b (claims p))) e)) ∙ f in
          let bad : ⊥ = cc in
          bad
      on (Some m) e t =
          let t' = at_all (IsTypedImpl p) p.implementations k m typed.implementations e in
          let r = sym (blocked_run set k m t'.procedure s choices e t'.is_there len t) ∙ f in
          let bad : ⊥ = cc in
          bad

-- ---- failures

-- the types of an opened program's frames
frame_types : (depth : ℕ) (p : Prog) (k : ℕ) → types_of (frame_of (opened_program depth p) (slice_get (opened_program depth p).implementations k)) ≡ types_of (frame_of p (slice_get p.implementations k))
frame_types depth p k =
    ap (λ m. types_of (frame_of o m)) (at_mapped (opened_impl g b (claims p)) p.implementations k) ∙ on (slice_get p.implementations k)
  where
    g : ℕ
    g = length p.globals

    b : ℕ → Option Ex
    b = bodies_of depth p

    o : Prog
    o = opened_program depth p

    by : (m : Impl) (q : Option Proc) → types_of (frame_with (option_map (opened_proc (length p.globals) (bodies_of depth p)) q) (opened_impl (length p.globals) (bodies_of depth p) (claims p) m)) ≡ types_of (frame_with q m)
    by m None = types_opened (length p.globals) (bodies_of depth p) m.locals
    by m (Some q) =
        ap types_of (frame_opened (length p.globals) (bodies_of depth p) q m) ∙ types_opened (length p.globals) (bodies_of depth p) (q.params ++ (q.results ++ m.locals))

    on : (m : Option Impl) → types_of (frame_of (opened_program depth p) (option_map (opened_impl (length p.globals) (bodies_of depth p) (claims p)) m)) ≡ types_of (frame_of p m)
    on None = refl
    on (Some m) =
        ap (λ q. types_of (frame_with q (opened_impl (length p.globals) (bodies_of depth p) (claims p) m))) (its_procedure depth p [] m.procedure) ∙ by m (procedure_of p m.procedure)

-- tables of the program's functions are an interpretation that meets the opened program
tables_meet : (depth : ℕ) (p : Prog) (i : Interp) → are_tables p.functions i.tables ≡ true → Meets (opened_program depth p) (tables_of i)
tables_meet depth p i h =
    record { interp = record { constants = refl; tables = bodiless_tables p.functions i.tables h }; unique = refl; axioms = refl }

module _ (depth : ℕ) (p : Prog) (typed : IsTyped p) (res : IsResolved p) (none : HasNoRecursion p) (test : is_over_plain p.functions (opened_program depth p) ≡ true) (judged : list_all const_judged p.constants ≡ true) where
  in_length : (s : State) → are_of (types_of p.globals) s.globals ≡ true → length s.globals ≡ length p.globals
  in_length s h = are_of_length (types_of p.globals) s.globals h ∙ types_length p.globals

  pub opened_fails : (set : ℕ → Bool) (t : Place) (i : Interp) (s : State) (choices : List Choice) → Fails p set t i s choices → Fails (opened_program depth p) set t (tables_of i) (with_constants i s) choices
  opened_fails set t i s choices f =
      record {
        meets = tables_meet depth p i f.meets.interp.tables;
        state = record {
          globals = ap (λ ts. are_of ts (s.globals ++ i.constants)) (global_types depth p) ∙ are_of_both (types_of p.globals) (const_types p.constants) s.globals i.constants f.state.globals f.meets.interp.constants;
          frame = ap (λ ts. are_of ts s.frame) (frame_types depth p t.implementation) ∙ f.state.frame;
        };
        fails = runs_alike depth p i (tables_of i) (λ k h. refl) typed res none test set t.implementation s choices (claims_hold p i (are_of_length (const_types p.constants) i.constants f.meets.interp.constants) ∙ both (are_distinct p.constants i.constants) (all_hold p i p.axioms) f.meets.unique f.meets.axioms) (in_length s f.state.globals) ∙ f.fails;
      }

  module _ (set : ℕ → Bool) (t : Place) (j : Interp) (s : State) (choices : List Choice) (f : Fails (opened_program depth p) set t j s choices) where
    abbrev i : Interp
    i = interp_in p j s

    agree : Agree p.functions (interp_in p j s) j
    agree = tables_agree p.functions j.tables f.meets.interp.tables

    abbrev own : State
    own = without_constants p s

    all_typed : are_of (types_of p.globals ++ const_types p.constants) s.globals ≡ true
    all_typed = sym (ap (λ ts. are_of ts s.globals) (global_types depth p)) ∙ f.state.globals

    globals_typed : are_of (types_of p.globals) own.globals ≡ true
    globals_typed =
        ap (λ n. are_of (types_of p.globals) (take n s.globals)) (sym (types_length p.globals)) ∙ are_of_front (types_of p.globals) (const_types p.constants) s.globals all_typed

    constants_typed : are_of (const_types p.constants) i.constants ≡ true
    constants_typed =
        ap (λ n. are_of (const_types p.constants) (drop n s.globals)) (sym (types_length p.globals)) ∙ are_of_behind (types_of p.globals) (const_types p.constants) s.globals all_typed

    joined : with_constants i own ≡ s
    joined = ap (λ gs. record { globals = gs; frame = s.frame }) (taken_apart (length p.globals) s.globals)

    as_joined : induction_run (opened_program depth p) set j t.implementation (with_constants i own) choices ≡ Failed t.spot
    as_joined = ap (λ x. induction_run (opened_program depth p) set j t.implementation x choices) joined ∙ f.fails

    holds : all_hold p i (claims p) ≡ true
    holds = failing_runs_meet depth p i j agree typed res none test set t.implementation own choices t.spot (in_length own globals_typed) as_joined

    both_hold : (are_distinct p.constants i.constants && all_hold p i p.axioms) ≡ true
    both_hold = sym (claims_hold p i (are_of_length (const_types p.constants) i.constants constants_typed)) ∙ holds

    pub program_fails : Fails p set t i own choices
    program_fails =
        record {
          meets = record {
            interp = record { constants = constants_typed; tables = are_tables_for p.functions j.tables f.meets.interp.tables };
            unique = and_left (are_distinct p.constants i.constants) (all_hold p i p.axioms) both_hold;
            axioms = and_right (are_distinct p.constants i.constants) (all_hold p i p.axioms) both_hold;
          };
          state = record {
            globals = globals_typed;
            frame = sym (ap (λ ts. are_of ts s.frame) (frame_types depth p t.implementation)) ∙ f.state.frame;
          };
          fails = sym (runs_alike depth p i j agree typed res none test set t.implementation own choices holds (in_length own globals_typed)) ∙ as_joined;
        }

    -- the run is that of the program, whatever choices are given
    pub program_runs : (others : List Choice) → induction_run p set i t.implementation own others ≡ induction_run (opened_program depth p) set j t.implementation s others
    program_runs others =
        sym (runs_alike depth p i j agree typed res none test set t.implementation own others holds (in_length own globals_typed))
        ∙ ap (λ x. induction_run (opened_program depth p) set j t.implementation x others) joined
