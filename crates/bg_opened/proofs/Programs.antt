-- An opened program is typed.
use Rattle.std.proofs.Common.{◌≡◌, ℕ, suc, arith, Bool, true, List, [], ◌∷◌, ◌++◌, length, map, Option, Some, None, refl, sym, ap, ◌∙◌, subst}
use Rattle.std.specs.Prelude.{◌&&◌, slice_get, slice_index_or, option_map, All, Contains}
use Rattle.std.specs.List.{list_all}
use Rattle.bg_ast.specs.Values.{Ty, IntTy, BoolTy, MapTy}
use Rattle.bg_ast.specs.Syntax.{Var, Global, Local, Ex, Exs, Number, Fact, Constant, Read, Not, Negative, Binary, Apply, Select, Update, Old, NoMore, More, Clause, Guard, Star, Test, Call, St, Skip, Then, Label, Assert, Assume, Havoc, Assign, Invoke, If, While, Break, Goto, Return, Decl, Const, Fun, Proc, Impl, Prog}
use Rattle.bg_sense.specs.Types.{types_of, const_types}
use Rattle.bg_sense.specs.Variables.{type_in, decl_in, modified, procedure_of}
use Rattle.bg_sense.specs.Typing.{Sig, HasType, HaveTypes, key_ty, sig_in, types_in}
use Rattle.bg_sense.specs.Typed.{IsLinear, HasNoOld, IsFormula, IsGuard, Around, MayChange, labels_of, IsTypedCall, IsTypedStatement, IsTypedProc, IsTypedImpl, IsTyped}
use Rattle.bg_sense.specs.Recursion.{HasNoRecursion}
use Rattle.bg_sense.specs.Resolved.{IsResolved}
use Rattle.bg_sense.proofs.Bools.{and_left, and_right}
use Rattle.bg_fits.specs.Valued.{is_value_type, exs_pass, clause_passes, guard_passes, st_passes, decl_passes, decls_pass, proc_passes, impl_passes, is_declared}
use Rattle.bg_opened.proofs.Plain.{is_plain, is_over_plain}
use Rattle.bg_opened.proofs.Tables.{no_body}
use Rattle.bg_opened.specs.Exprs.{opened, all_opened, bodies_to}
use Rattle.bg_opened.specs.Unique.{claims}
use Rattle.bg_opened.specs.Programs.{global_for, bodiless, supposing, opened_clause, opened_guard, opened_call, opened_st, opened_decl, opened_proc, opened_impl, bodies_of, opened_program}
use Rattle.bg_opened.proofs.Places.{at_mapped}
use Rattle.bg_opened.proofs.Worths.{within, front_at, opened_no_old, opens_to}
use Rattle.bg_opened.proofs.Typing.{op_map, opened_typed, bodies_typed, BodiesTyped, plain_typed, opened_linear, all_opened_linear, bodies_linear}
use Rattle.bg_opened.proofs.Runs.{Each, FairVar}
use Rattle.bg_opened.proofs.Resolves.{map_append, map_length, each_all, all_each, each_map}
use Rattle.bg_opened.proofs.Fairs.{types_length, each_append, list_all_left, list_all_at, its_procedure, modified_alike, fair_vars, decls_alike}
use Rattle.bg_opened.proofs.Uniques.{claims_typed}
use Rattle.bg_opened.proofs.Claims.{at_all, types_opened, frame_opened, global_types, supposing_passes, globals_pass, procs_pass, impls_pass}

-- ---- what reads no variable is typed in each frame

module _ (cts : List Ty) (fs : List Fun) (r : List Ty) where
  abbrev Bare : Sig
  Bare = record { constants = cts; functions = fs; globals = []; frame = [] }

  abbrev Framed : Sig
  Framed = record { constants = cts; functions = fs; globals = []; frame = r }

  mutual
    framed_typed : (e : Ex) (t : Ty) → HasType e Bare t → HasType e Framed t
    framed_typed (Number z) t h = h
    framed_typed (Fact b) t h = h
    framed_typed (Constant k) t h = h
    framed_typed (Read (Global x)) t h = h
    framed_typed (Read (Local x)) t h = absurd (let bad : ⊥ = cc in bad)
    framed_typed (Not e) t h = (h.0, framed_typed e BoolTy h.1)
    framed_typed (Negative e) t h = (h.0, framed_typed e IntTy h.1)
    framed_typed (Binary op a b) t h =
        op_map op (HasType a Bare) (HasType b Bare) (HasType a Framed) (HasType b Framed) t (framed_typed a) (framed_typed b) h
    framed_typed (Apply f es) t h = (h.0, h.1, h.2, all_framed_typed es h.0.params h.3)
    framed_typed (Select m es) t h =
        (h.0, framed_typed m (MapTy h.0 t) h.1, all_framed_typed es (map key_ty h.0) h.2)
    framed_typed (Update m es e) t h = (
      h.0,
      (h.1.0, h.1.1, framed_typed m (MapTy h.0 h.1.0) h.1.2, all_framed_typed es (map key_ty h.0) h.1.3, framed_typed e h.1.0 h.1.4),
    )
    framed_typed (Old e) t h = framed_typed e t h

    all_framed_typed : (es : Exs) (ts : List Ty) → HaveTypes es Bare ts → HaveTypes es Framed ts
    all_framed_typed NoMore ts h = h
    all_framed_typed (More e es) [] h = absurd h
    all_framed_typed (More e es) (t ∷ ts) h = (framed_typed e t h.0, all_framed_typed es ts h.1)

module _ (depth : ℕ) (p : Prog) (typed : IsTyped p) (res : IsResolved p) (none : HasNoRecursion p) (test : is_over_plain p.functions (opened_program depth p) ≡ true) where
  abbrev g : ℕ
  g = length p.globals

  abbrev b : ℕ → Option Ex
  b = bodies_of depth p

  abbrev F : List Fun
  F = p.functions

  abbrev o : Prog
  o = opened_program depth p

  abbrev O : Ex → Ex
  O = opened g b

  abbrev OD : Decl → Decl
  OD = opened_decl g b

  abbrev n : ℕ
  n = p.candidates

  abbrev gts : List Ty
  gts = types_of p.globals

  abbrev cts : List Ty
  cts = const_types p.constants

  -- ---- expressions

  abbrev Plain : List Ty → List Ty → Sig
  Plain gs r = record { constants = []; functions = map bodiless F; globals = gs; frame = r }

  here : g ≡ length gts
  here = sym (types_length p.globals)

  own_bodies : BodiesTyped gts cts p.functions b
  own_bodies =
      subst (λ m. BodiesTyped gts cts p.functions (bodies_to m p.functions depth)) (types_length p.globals) (bodies_typed gts cts p.functions typed.bodies depth)

  in_front : (x : ℕ) (t : Ty) → slice_get gts x ≡ Some t → slice_get (gts ++ cts) x ≡ Some t
  in_front x t e = front_at gts cts x (within gts x t e) ∙ e

  abbrev no_types : List Ty
  no_types = []

  nowhere : (x : ℕ) (t : Ty) → slice_get no_types x ≡ Some t → slice_get (gts ++ cts) x ≡ Some t
  nowhere x t e = absurd (let bad : ⊥ = cc in bad)

  -- with the types of the opened program's own declarations
  as_declared : (ds : List Decl) (e : Ex) (t : Ty) → HasType e (Plain (gts ++ cts) (types_of ds)) t → HasType e (sig_in o (map OD ds)) t
  as_declared ds e t h =
      subst (λ gs. HasType e (Plain gs (types_of (map OD ds))) t) (sym (global_types depth p)) (subst (λ r. HasType e (Plain (gts ++ cts) r) t) (sym (types_opened g b ds)) h)

  typed_one : (ds : List Decl) (e : Ex) (t : Ty) → HasType e (sig_in p ds) t → is_plain F (O e) ≡ true → HasType (O e) (sig_in o (map OD ds)) t
  typed_one ds e t h s =
      as_declared ds (O e) t (plain_typed [] p.functions (gts ++ cts) (types_of ds) (O e) t s (opened_typed gts cts p.functions g here b own_bodies gts in_front (types_of ds) e t h))

  linear_bodies : (f : ℕ) (x : Ex) → b f ≡ Some x → IsLinear x
  linear_bodies = bodies_linear g p.functions (λ f fn x e q. (typed.plain_bodies f fn x e q).0) depth

  formula_one : (ds : List Decl) (e : Ex) → IsFormula (sig_in p ds) e → is_plain F (O e) ≡ true → IsFormula (sig_in o (map OD ds)) (O e)
  formula_one ds e h s = (typed_one ds e BoolTy h.0 s, opened_linear g b linear_bodies e h.1)

  exs_typed : (ds : List Decl) (es : Exs) (ts : List Ty) → HaveTypes es (sig_in p ds) ts → exs_pass (is_plain F) (all_opened g b es) ≡ true → HaveTypes (all_opened g b es) (sig_in o (map OD ds)) ts
  exs_typed ds NoMore ts h s = h
  exs_typed ds (More e es) [] h s = absurd h
  exs_typed ds (More e es) (t ∷ ts) h s = (
    typed_one ds e t h.0 (and_left (is_plain F (O e)) (exs_pass (is_plain F) (all_opened g b es)) s),
    exs_typed ds es ts h.1 (and_right (is_plain F (O e)) (exs_pass (is_plain F) (all_opened g b es)) s),
  )

  bare_formula : (ds : List Decl) (e : Ex) → IsFormula (sig_in (record p { globals = [] }) []) e → is_plain F (O e) ≡ true → IsFormula (sig_in o (map OD ds)) (O e)
  bare_formula ds e h s = (
    as_declared ds (O e) BoolTy (plain_typed [] p.functions (gts ++ cts) (types_of ds) (O e) BoolTy s (opened_typed gts cts p.functions g here b own_bodies [] nowhere (types_of ds) e BoolTy (framed_typed cts p.functions (types_of ds) e BoolTy h.0))),
    opened_linear g b linear_bodies e h.1,
  )

  no_old_bodies : (f : ℕ) (x : Ex) → b f ≡ Some x → HasNoOld x
  no_old_bodies f x e =
      (opens_to p (record { constants = []; tables = [] }) g [] none typed.bodies (λ h fn y q s. (typed.plain_bodies h fn y q s).1) depth f x e).no_old

  -- ---- lists

  list_typed : (ds : List Decl) (es : List Ex) → Each (IsFormula (sig_in p ds)) es → list_all (is_plain F) (map O es) ≡ true → Each (IsFormula (sig_in o (map OD ds))) (map O es)
  list_typed ds [] h s = tt
  list_typed ds (e ∷ es) h s = (
    formula_one ds e h.0 (and_left (is_plain F (O e)) (list_all (is_plain F) (map O es)) s),
    list_typed ds es h.1 (and_right (is_plain F (O e)) (list_all (is_plain F) (map O es)) s),
  )

  abbrev Clauses : List Clause → Bool
  Clauses ks = list_all (clause_passes n (is_plain F)) (map (opened_clause g b) ks)

  clause_scalar : (k : Clause) (ks : List Clause) → Clauses (k ∷ ks) ≡ true → is_plain F (O k.says) ≡ true
  clause_scalar k ks s =
      and_right (is_declared n k.candidate) (is_plain F (O k.says)) (and_left (clause_passes n (is_plain F) (opened_clause g b k)) (Clauses ks) s)

  clauses_typed : (ds : List Decl) (ks : List Clause) → Each (λ k. IsFormula (sig_in p ds) k.says) ks → Clauses ks ≡ true → Each (λ k. IsFormula (sig_in o (map OD ds)) k.says) (map (opened_clause g b) ks)
  clauses_typed ds [] h s = tt
  clauses_typed ds (k ∷ ks) h s = (
    formula_one ds k.says h.0 (clause_scalar k ks s),
    clauses_typed ds ks h.1 (and_right (clause_passes n (is_plain F) (opened_clause g b k)) (Clauses ks) s),
  )

  plain_clauses_typed : (ds : List Decl) (ks : List Clause) → Each (λ k. IsFormula (sig_in p ds) k.says × HasNoOld k.says) ks → Clauses ks ≡ true → Each (λ k. IsFormula (sig_in o (map OD ds)) k.says × HasNoOld k.says) (map (opened_clause g b) ks)
  plain_clauses_typed ds [] h s = tt
  plain_clauses_typed ds (k ∷ ks) h s = (
    (formula_one ds k.says h.0.0 (clause_scalar k ks s), opened_no_old g b no_old_bodies k.says h.0.1),
    plain_clauses_typed ds ks h.1 (and_right (clause_passes n (is_plain F) (opened_clause g b k)) (Clauses ks) s),
  )

  abbrev Decls : List Decl → Bool
  Decls es = decls_pass is_value_type (is_plain F) (map OD es)

  decls_typed : (ds es : List Decl) → Each (λ d. All (IsFormula (sig_in p ds)) d.wheres) es → Decls es ≡ true → Each (λ d. All (IsFormula (sig_in o (map OD ds))) d.wheres) (map OD es)
  decls_typed ds [] h s = tt
  decls_typed ds (d ∷ es) h s = (
    all_each (IsFormula (sig_in o (map OD ds))) (map O d.wheres) (list_typed ds d.wheres (each_all (IsFormula (sig_in p ds)) d.wheres h.0) (and_right (is_value_type d.ty) (list_all (is_plain F) (map O d.wheres)) (and_left (decl_passes is_value_type (is_plain F) (OD d)) (Decls es) s))),
    decls_typed ds es h.1 (and_right (decl_passes is_value_type (is_plain F) (OD d)) (Decls es) s),
  )

  guard_typed : (ds : List Decl) (e : Guard) → IsGuard (sig_in p ds) e → guard_passes (is_plain F) (opened_guard g b e) ≡ true → IsGuard (sig_in o (map OD ds)) (opened_guard g b e)
  guard_typed ds Star h s = tt
  guard_typed ds (Test e) h s = formula_one ds e h s

  -- ---- statements

  labels_alike : (s : St) → labels_of (opened_st g b s) ≡ labels_of s
  labels_alike Skip = refl
  labels_alike (Then x y) = ap (λ l. l ++ labels_of (opened_st g b y)) (labels_alike x) ∙ ap (λ l. labels_of x ++ l) (labels_alike y)
  labels_alike (Label l) = refl
  labels_alike (Assert k) = refl
  labels_alike (Assume e) = refl
  labels_alike (Havoc xs) = refl
  labels_alike (Assign xs es) = refl
  labels_alike (Invoke k) = refl
  labels_alike (If i e x y) = refl
  labels_alike (While i e is x) = refl
  labels_alike (Break i) = refl
  labels_alike (Goto ls) = refl
  labels_alike Return = refl

  type_if : (x : Option Decl) → type_in (option_map OD x) ≡ type_in x
  type_if None = refl
  type_if (Some d) = refl

  types_alike : (ds : List Decl) (xs : List Var) → Each (FairVar g b F []) xs → types_in o (map OD ds) xs ≡ types_in p ds xs
  types_alike ds [] h = refl
  types_alike ds (x ∷ xs) h =
      ap (λ t. t ∷ types_in o (map OD ds) xs) (ap type_in (decls_alike depth p [] ds x h.0) ∙ type_if (decl_in p ds x))
      ∙ ap (λ l. type_in (decl_in p ds x) ∷ l) (types_alike ds xs h.1)

  module _ (own : ℕ) (q : Proc) (is_there : procedure_of p own ≡ Some q) (ds : List Decl) where
    abbrev R : Around
    R = record { program = p; procedure = q; variables = ds }

    abbrev R' : Around
    R' = record { program = o; procedure = opened_proc g b q; variables = map OD ds }

    change : (x : Var) → MayChange R x → MayChange R' x
    change (Global x) h = subst (λ l. Contains l (Global x)) (sym (modified_alike depth p [] res own q is_there)) h
    change (Local x) h =
        let m = map_length OD q.params in
        let l = map_length OD ds in
        let a = h.0 in
        let c = h.1 in
        (omega arith, omega arith)

    changes : (xs : List Var) → All (MayChange R) xs → All (MayChange R') xs
    changes xs h k d l = change (slice_index_or xs k d) (h k d l)

    call_typed : (k : Call) → IsTypedCall R k → exs_pass (is_plain F) (all_opened g b k.args) ≡ true → IsTypedCall R' (opened_call g b k)
    call_typed k h s =
        let c = h.0 in
        let fair = fair_vars depth p [] q ds k.takes h.1.1.1.1.1.1.0 in (
          opened_proc g b c,
          (
            its_procedure depth p [] k.procedure ∙ ap (option_map (opened_proc g b)) h.1.0,
            (
              subst (HaveTypes (all_opened g b k.args) (sig_in o (map OD ds))) (sym (types_opened g b c.params)) (exs_typed ds k.args (types_of c.params) h.1.1.0 s),
              (
                all_opened_linear g b linear_bodies k.args h.1.1.1.0,
                (
                  types_alike ds k.takes fair ∙ h.1.1.1.1.0 ∙ sym (types_opened g b c.results),
                  (
                    h.1.1.1.1.1.0,
                    (
                      changes k.takes h.1.1.1.1.1.1.0,
                      subst (All (MayChange R')) (sym (modified_alike depth p [] res k.procedure c h.1.0)) (changes (modified p c) h.1.1.1.1.1.1.1),
                    ),
                  ),
                ),
              ),
            ),
          ),
        )

    st_typed : (inside before : List ℕ) (s : St) → IsTypedStatement R inside before s → st_passes n (is_plain F) (opened_st g b s) ≡ true → IsTypedStatement R' inside before (opened_st g b s)
    st_typed inside before Skip h s = tt
    st_typed inside before (Then x y) h s = (
      subst (λ l. IsTypedStatement R' inside (l ++ before) (opened_st g b x)) (sym (labels_alike y)) (st_typed inside (labels_of y ++ before) x h.0 (and_left (st_passes n (is_plain F) (opened_st g b x)) (st_passes n (is_plain F) (opened_st g b y)) s)),
      st_typed inside before y h.1 (and_right (st_passes n (is_plain F) (opened_st g b x)) (st_passes n (is_plain F) (opened_st g b y)) s),
    )
    st_typed inside before (Label l) h s = tt
    st_typed inside before (Assert k) h s =
        (h.0, formula_one ds k.says h.1 (and_right (is_declared n k.candidate) (is_plain F (O k.says)) s))
    st_typed inside before (Assume e) h s = formula_one ds e h s
    st_typed inside before (Havoc xs) h s = changes xs h
    st_typed inside before (Assign xs es) h s = (
      h.0,
      changes xs h.1,
      subst (HaveTypes (all_opened g b es) (sig_in o (map OD ds))) (sym (types_alike ds xs (fair_vars depth p [] q ds xs h.1))) (exs_typed ds es (types_in p ds xs) h.2 s),
      all_opened_linear g b linear_bodies es h.3,
    )
    st_typed inside before (Invoke k) h s = call_typed k h s
    st_typed inside before (If i e x y) h s =
        let t = and_right (guard_passes (is_plain F) (opened_guard g b e)) (st_passes n (is_plain F) (opened_st g b x) && st_passes n (is_plain F) (opened_st g b y)) s in (
          guard_typed ds e h.0 (and_left (guard_passes (is_plain F) (opened_guard g b e)) (st_passes n (is_plain F) (opened_st g b x) && st_passes n (is_plain F) (opened_st g b y)) s),
          st_typed (i ∷ inside) before x h.1 (and_left (st_passes n (is_plain F) (opened_st g b x)) (st_passes n (is_plain F) (opened_st g b y)) t),
          st_typed (i ∷ inside) before y h.2 (and_right (st_passes n (is_plain F) (opened_st g b x)) (st_passes n (is_plain F) (opened_st g b y)) t),
        )
    st_typed inside before (While i e is x) h s =
        let t = and_right (guard_passes (is_plain F) (opened_guard g b e)) (Clauses is && st_passes n (is_plain F) (opened_st g b x)) s in (
          guard_typed ds e h.0 (and_left (guard_passes (is_plain F) (opened_guard g b e)) (Clauses is && st_passes n (is_plain F) (opened_st g b x)) s),
          all_each (λ k. IsFormula (sig_in o (map OD ds)) k.says) (map (opened_clause g b) is) (clauses_typed ds is (each_all (λ k. IsFormula (sig_in p ds) k.says) is h.1) (and_left (Clauses is) (st_passes n (is_plain F) (opened_st g b x)) t)),
          st_typed (i ∷ inside) before x h.2 (and_right (Clauses is) (st_passes n (is_plain F) (opened_st g b x)) t),
        )
    st_typed inside before (Break i) h s = h
    st_typed inside before (Goto ls) h s = h
    st_typed inside before Return h s = tt

    supposing_typed : (es : List Ex) (s : St) → Each (λ e. IsFormula (sig_in (record p { globals = [] }) []) e × HasNoOld e) es → list_all (is_plain F) (map O es) ≡ true → IsTypedStatement R' [] [] s → IsTypedStatement R' [] [] (supposing (map O es) s)
    supposing_typed [] s h t k = k
    supposing_typed (e ∷ es) s h t k = (
      bare_formula ds e h.0.0 (and_left (is_plain F (O e)) (list_all (is_plain F) (map O es)) t),
      supposing_typed es s h.1 (and_right (is_plain F (O e)) (list_all (is_plain F) (map O es)) t) k,
    )

  -- ---- procedures and implementations

  proc_typed : (k : ℕ) (q : Proc) → procedure_of p k ≡ Some q → IsTypedProc o (opened_proc g b q)
  proc_typed k q e =
      let t = at_all (IsTypedProc p) p.procedures k q typed.procedures e in
      let s = list_all_at (proc_passes n is_value_type (is_plain F)) o.procedures k (opened_proc g b q) (procs_pass depth p test) (its_procedure depth p [] k ∙ ap (option_map (opened_proc g b)) e) in
      let s1 = and_right (Decls q.params) (Decls q.results && (Clauses q.requires_ && Clauses q.ensures_)) s in
      let s2 = and_right (Decls q.results) (Clauses q.requires_ && Clauses q.ensures_) s1 in
      let joined = map_append OD q.params q.results in
      record {
        params = all_each (λ d. All (IsFormula (sig_in o (map OD q.params))) d.wheres) (map OD q.params) (decls_typed q.params q.params (each_all (λ d. All (IsFormula (sig_in p q.params)) d.wheres) q.params t.params) (and_left (Decls q.params) (Decls q.results && (Clauses q.requires_ && Clauses q.ensures_)) s));
        results = all_each (λ d. All (IsFormula (sig_in o (map OD q.params ++ map OD q.results))) d.wheres) (map OD q.results) (subst (λ l. Each (λ d. All (IsFormula (sig_in o l)) d.wheres) (map OD q.results)) joined (decls_typed (q.params ++ q.results) q.results (each_all (λ d. All (IsFormula (sig_in p (q.params ++ q.results))) d.wheres) q.results t.results) (and_left (Decls q.results) (Clauses q.requires_ && Clauses q.ensures_) s1)));
        requires_ = all_each (λ c. IsFormula (sig_in o (map OD q.params)) c.says × HasNoOld c.says) (map (opened_clause g b) q.requires_) (plain_clauses_typed q.params q.requires_ (each_all (λ c. IsFormula (sig_in p q.params) c.says × HasNoOld c.says) q.requires_ t.requires_) (and_left (Clauses q.requires_) (Clauses q.ensures_) s2));
        ensures_ = all_each (λ c. IsFormula (sig_in o (map OD q.params ++ map OD q.results)) c.says) (map (opened_clause g b) q.ensures_) (subst (λ l. Each (λ c. IsFormula (sig_in o l) c.says) (map (opened_clause g b) q.ensures_)) joined (clauses_typed (q.params ++ q.results) q.ensures_ (each_all (λ c. IsFormula (sig_in p (q.params ++ q.results)) c.says) q.ensures_ t.ensures_) (and_right (Clauses q.requires_) (Clauses q.ensures_) s2)));
      }

  impl_typed : (k : ℕ) (m : Impl) → slice_get p.implementations k ≡ Some m → IsTypedImpl o (opened_impl g b (claims p) m)
  impl_typed k m e =
      let t = at_all (IsTypedImpl p) p.implementations k m typed.implementations e in
      let q = t.procedure in
      let ds = q.params ++ (q.results ++ m.locals) in
      let whole = supposing (map O (claims p)) (opened_st g b m.body) in
      let s = list_all_at (impl_passes n is_value_type (is_plain F)) o.implementations k (opened_impl g b (claims p) m) (impls_pass depth p test) (at_mapped (opened_impl g b (claims p)) p.implementations k ∙ ap (option_map (opened_impl g b (claims p))) e) in
      let parts = supposing_passes n (is_plain F) (map O (claims p)) (opened_st g b m.body) (and_right (Decls m.locals) (st_passes n (is_plain F) whole) s) in
      let same = sym (frame_opened g b q m) in
      record {
        procedure = opened_proc g b q;
        is_there = its_procedure depth p [] m.procedure ∙ ap (option_map (opened_proc g b)) t.is_there;
        locals = all_each (λ d. All (IsFormula (sig_in o (map OD q.params ++ (map OD q.results ++ map OD m.locals)))) d.wheres) (map OD m.locals) (subst (λ l. Each (λ d. All (IsFormula (sig_in o l)) d.wheres) (map OD m.locals)) same (decls_typed ds m.locals (each_all (λ d. All (IsFormula (sig_in p ds)) d.wheres) m.locals t.locals) (and_left (Decls m.locals) (st_passes n (is_plain F) whole) s)));
        body = subst (λ l. IsTypedStatement (record { program = o; procedure = opened_proc g b q; variables = l }) [] [] whole) same (supposing_typed m.procedure q t.is_there ds (claims p) (opened_st g b m.body) (claims_typed p typed.axioms) parts.0 (st_typed m.procedure q t.is_there ds [] [] m.body t.body parts.1));
      }

  -- ---- the program

  -- it is so of each of a list, by place
  each_of : {A : Type 0} (P : A → Type 0) (xs : List A) → ((k : ℕ) (x : A) → slice_get xs k ≡ Some x → P x) → Each P xs
  each_of P [] h = tt
  each_of P (x ∷ xs) h = (h 0 x refl, each_of P xs (λ k y e. h (suc k) y e))

  constants_plain : (cs : List Const) → Each (λ d. All (IsFormula (sig_in o [])) d.wheres) (map global_for cs)
  constants_plain [] = tt
  constants_plain (c ∷ cs) = ((λ k d l. absurd (omega arith)), constants_plain cs)

  pub program_typed : IsTyped o
  program_typed =
      record {
        globals = all_each (λ d. All (IsFormula (sig_in o [])) d.wheres) o.globals (each_append (λ d. All (IsFormula (sig_in o [])) d.wheres) (map OD p.globals) (map global_for p.constants) (decls_typed [] p.globals (each_all (λ d. All (IsFormula (sig_in p [])) d.wheres) p.globals typed.globals) (list_all_left (decl_passes is_value_type (is_plain F)) (map OD p.globals) (map global_for p.constants) (globals_pass depth p test))) (constants_plain p.constants));
        axioms = λ k d l. absurd (omega arith);
        bodies = λ f fn e q s. absurd (no_body F f fn e q s);
        plain_bodies = λ f fn e q s. absurd (no_body F f fn e q s);
        procedures = all_each (IsTypedProc o) o.procedures (each_map (IsTypedProc o) (λ q. IsTypedProc o (opened_proc g b q)) (opened_proc g b) p.procedures (λ q h. h) (each_of (λ q. IsTypedProc o (opened_proc g b q)) p.procedures proc_typed));
        implementations = all_each (IsTypedImpl o) o.implementations (each_map (IsTypedImpl o) (λ m. IsTypedImpl o (opened_impl g b (claims p) m)) (opened_impl g b (claims p)) p.implementations (λ m h. h) (each_of (λ m. IsTypedImpl o (opened_impl g b (claims p) m)) p.implementations impl_typed));
      }
