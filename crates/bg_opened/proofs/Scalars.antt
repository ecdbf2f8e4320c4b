-- An opened program of judged parts applies functions without a body alone.
use Rattle.std.proofs.Common.{◌≡◌, ◌<◌, ◌≤◌, ℕ, zero, suc, arith, Bool, true, List, [], ◌∷◌, ◌++◌, length, map, Option, Some, None, refl, sym, ap, ◌∙◌, subst}
use Rattle.std.specs.Prelude.{◌&&◌, not, slice_get, All}
use Rattle.std.specs.List.{list_all}
use Rattle.bg_ast.specs.Values.{Ty, IntTy, BoolTy, MapTy}
use Rattle.bg_ast.specs.Syntax.{Global, Local, Ex, Exs, Number, Fact, Constant, Read, Not, Negative, Binary, Apply, Select, Update, Old, NoMore, More, Clause, Guard, Star, Test, St, Skip, Then, Label, Assert, Assume, Havoc, Assign, Invoke, If, While, Break, Goto, Return, Decl, Const, Fun, Proc, Impl, Prog}
use Rattle.bg_sense.specs.Types.{types_of, const_types}
use Rattle.bg_sense.specs.Typing.{Sig, HasType, HaveTypes, key_ty, sig_in}
use Rattle.bg_sense.specs.Typed.{HasNoOld, IsFormula, IsGuard, IsTypedStatement, IsTypedProc, IsTypedImpl, IsTyped}
use Rattle.bg_sense.specs.Recursion.{AppliesBelow, EachAppliesBelow}
use Rattle.bg_sense.specs.Tables.{has_body}
use Rattle.bg_sense.proofs.Bools.{and_left, and_right, both}
use Rattle.bg_fits.specs.Valued.{is_value_type, any_ex, exs_pass, clause_passes, guard_passes, st_passes, decl_passes, decls_pass, fun_passes, proc_passes, impl_passes, is_declared}
use Rattle.bg_opened.proofs.Plain.{is_plain, are_plain, is_over_plain}
use Rattle.bg_opened.specs.Exprs.{ex_at, put_in, put_in_all, applied, opened, all_opened, opened_fun, opened_body, bodies_to, body_in, raw_bodies}
use Rattle.bg_opened.specs.Unique.{claims}
use Rattle.bg_opened.specs.Programs.{global_for, bodiless, supposing, opened_clause, opened_guard, opened_st, opened_decl, opened_proc, opened_impl, bodies_of, opened_program}
use Rattle.bg_opened.specs.Openable.{HasShortChains}
use Rattle.bg_opened.specs.Judged.{const_judged, fun_judged, is_judged}
use Rattle.bg_opened.proofs.Worths.{sides}
use Rattle.bg_opened.proofs.Runs.{Each}
use Rattle.bg_opened.proofs.Resolves.{each_all}
use Rattle.bg_opened.proofs.Fairs.{list_all_at}
use Rattle.bg_opened.proofs.Uniques.{claims_typed}

-- ---- arguments in the place of the frame

module _ (fs : List Fun) where
  at_plain : (xs : Exs) (j : ℕ) → are_plain fs xs ≡ true → is_plain fs (ex_at xs j) ≡ true
  at_plain NoMore j h = refl
  at_plain (More e es) zero h = and_left (is_plain fs e) (are_plain fs es) h
  at_plain (More e es) (suc j) h = at_plain es j (and_right (is_plain fs e) (are_plain fs es) h)

  abbrev has_none : ℕ → Bool
  has_none f = not (has_body (raw_bodies fs f))

  mutual
    put_in_plain : (b : Ex) (xs : Exs) → is_plain fs b ≡ true → are_plain fs xs ≡ true → is_plain fs (put_in b xs) ≡ true
    put_in_plain (Number z) xs h k = refl
    put_in_plain (Fact b) xs h k = refl
    put_in_plain (Constant c) xs h k = h
    put_in_plain (Read (Global x)) xs h k = refl
    put_in_plain (Read (Local j)) xs h k = at_plain xs j k
    put_in_plain (Not e) xs h k = put_in_plain e xs h k
    put_in_plain (Negative e) xs h k = put_in_plain e xs h k
    put_in_plain (Binary op a b) xs h k =
        both (is_plain fs (put_in a xs)) (is_plain fs (put_in b xs)) (put_in_plain a xs (and_left (is_plain fs a) (is_plain fs b) h) k) (put_in_plain b xs (and_right (is_plain fs a) (is_plain fs b) h) k)
    put_in_plain (Apply f es) xs h k =
        both (has_none f) (are_plain fs (put_in_all es xs)) (and_left (has_none f) (are_plain fs es) h) (put_in_all_plain es xs (and_right (has_none f) (are_plain fs es) h) k)
    put_in_plain (Select m es) xs h k =
        both (is_plain fs (put_in m xs)) (are_plain fs (put_in_all es xs)) (put_in_plain m xs (and_left (is_plain fs m) (are_plain fs es) h) k) (put_in_all_plain es xs (and_right (is_plain fs m) (are_plain fs es) h) k)
    put_in_plain (Update m es e) xs h k =
        let rest = and_right (is_plain fs m) (are_plain fs es && is_plain fs e) h in
        both (is_plain fs (put_in m xs)) (are_plain fs (put_in_all es xs) && is_plain fs (put_in e xs)) (put_in_plain m xs (and_left (is_plain fs m) (are_plain fs es && is_plain fs e) h) k)
        (both (are_plain fs (put_in_all es xs)) (is_plain fs (put_in e xs)) (put_in_all_plain es xs (and_left (are_plain fs es) (is_plain fs e) rest) k) (put_in_plain e xs (and_right (are_plain fs es) (is_plain fs e) rest) k))
    put_in_plain (Old e) xs h k = put_in_plain e xs h k

    put_in_all_plain : (es xs : Exs) → are_plain fs es ≡ true → are_plain fs xs ≡ true → are_plain fs (put_in_all es xs) ≡ true
    put_in_all_plain NoMore xs h k = refl
    put_in_all_plain (More e es) xs h k =
        both (is_plain fs (put_in e xs)) (are_plain fs (put_in_all es xs)) (put_in_plain e xs (and_left (is_plain fs e) (are_plain fs es) h) k) (put_in_all_plain es xs (and_right (is_plain fs e) (are_plain fs es) h) k)

module _ (p : Prog) (typed : IsTyped p) (chain : ℕ → ℕ) (falls : (f : ℕ) (fn : Fun) (e : Ex) → slice_get p.functions f ≡ Some fn → fn.body ≡ Some e → (0 < chain f) × AppliesBelow chain (chain f) e) where
  abbrev g : ℕ
  g = length p.globals

  abbrev F : List Fun
  F = p.functions

  abbrev B : ℕ → ℕ → Option Ex
  B = bodies_to g p.functions

  abbrev Sigs : List Ty → List Ty → Sig
  Sigs gs r = record { constants = const_types p.constants; functions = p.functions; globals = gs; frame = r }

  -- what stands in the place of a function's applications: where there is nothing, it has no body
  abbrev Good : ℕ → Option Ex → Type 0
  Good f None = not (has_body (raw_bodies F f)) ≡ true
  Good f (Some x) = is_plain F x ≡ true

  -- bodies of functions of chains up to the depth are there, and nothing but variables, numbers and functions without a body is left in
  -- them
  abbrev BodiesPlain : ℕ → Type 0
  BodiesPlain d = (f : ℕ) (fn : Fun) → slice_get p.functions f ≡ Some fn → chain f ≤ d → Good f (B d f)

  applied_plain : (f : ℕ) (xs : Exs) (o : Option Ex) → Good f o → are_plain F xs ≡ true → is_plain F (applied o f xs) ≡ true
  applied_plain f xs None s h = both (not (has_body (raw_bodies F f))) (are_plain F xs) s h
  applied_plain f xs (Some y) s h = put_in_plain F y xs s h

  module _ (d : ℕ) (deep : BodiesPlain d) (gs r : List Ty) (low : ℕ) (below : low ≤ suc d) where
    mutual
      opened_scalar : (e : Ex) (t : Ty) → HasType e (Sigs gs r) t → AppliesBelow chain low e → is_plain F (opened g (B d) e) ≡ true
      opened_scalar (Number z) t h a = refl
      opened_scalar (Fact b) t h a = refl
      opened_scalar (Constant k) t h a = refl
      opened_scalar (Read (Global x)) t h a = refl
      opened_scalar (Read (Local x)) t h a = refl
      opened_scalar (Not e) t h a = opened_scalar e BoolTy h.1 a
      opened_scalar (Negative e) t h a = opened_scalar e IntTy h.1 a
      opened_scalar (Binary op x y) t h a =
          let s = sides op (HasType x (Sigs gs r)) (HasType y (Sigs gs r)) t h in
          both (is_plain F (opened g (B d) x)) (is_plain F (opened g (B d) y)) (opened_scalar x s.0.0 s.0.1 a.0) (opened_scalar y s.1.0 s.1.1 a.1)
      opened_scalar (Apply f es) t h a =
          let l = a.0 in
          applied_plain f (all_opened g (B d) es) (B d f) (deep f h.0 h.1 (omega arith)) (all_opened_scalar es h.0.params h.3 a.1)
      opened_scalar (Select m es) t h a =
          both (is_plain F (opened g (B d) m)) (are_plain F (all_opened g (B d) es)) (opened_scalar m (MapTy h.0 t) h.1 a.0) (all_opened_scalar es (map key_ty h.0) h.2 a.1)
      opened_scalar (Update m es e) t h a =
          both (is_plain F (opened g (B d) m)) (are_plain F (all_opened g (B d) es) && is_plain F (opened g (B d) e)) (opened_scalar m (MapTy h.0 h.1.0) h.1.2 a.0)
          (both (are_plain F (all_opened g (B d) es)) (is_plain F (opened g (B d) e)) (all_opened_scalar es (map key_ty h.0) h.1.3 a.1) (opened_scalar e h.1.0 h.1.4 a.2))
      opened_scalar (Old e) t h a = opened_scalar e t h a

      all_opened_scalar : (es : Exs) (ts : List Ty) → HaveTypes es (Sigs gs r) ts → EachAppliesBelow chain low es → are_plain F (all_opened g (B d) es) ≡ true
      all_opened_scalar NoMore ts h a = refl
      all_opened_scalar (More e es) [] h a = absurd h
      all_opened_scalar (More e es) (t ∷ ts) h a =
          both (is_plain F (opened g (B d) e)) (are_plain F (all_opened g (B d) es)) (opened_scalar e t h.0 a.0) (all_opened_scalar es ts h.1 a.1)

  without : (f : ℕ) (fn : Fun) → slice_get p.functions f ≡ Some fn → fn.body ≡ None → Good f None
  without f fn e q = ap (λ o. not (has_body (body_in o))) e ∙ ap (λ o. not (has_body o)) q

  first_by : (f : ℕ) (fn : Fun) → slice_get p.functions f ≡ Some fn → chain f ≤ 0 → (o : Option Ex) → fn.body ≡ o → Good f None
  first_by f fn e l None q = without f fn e q
  first_by f fn e l (Some y) q = let some = (falls f fn y e q).0 in absurd (omega arith)

  body_by : (d f : ℕ) (fn : Fun) → BodiesPlain d → slice_get p.functions f ≡ Some fn → chain f ≤ suc d → (o : Option Ex) → fn.body ≡ o → Good f (opened_body (opened g (B d)) o)
  body_by d f fn deep e l None q = without f fn e q
  body_by d f fn deep e l (Some y) q =
      opened_scalar d deep [] fn.params (chain f) l y fn.result (typed.bodies f fn y e q) (falls f fn y e q).1

  bodies_plain : (d : ℕ) → BodiesPlain d
  bodies_plain zero f fn e l = first_by f fn e l fn.body refl
  bodies_plain (suc d) f fn e l =
      subst (Good f) (sym (ap (opened_fun (opened g (B d))) e)) (body_by d f fn (bodies_plain d) e l fn.body refl)

  -- ---- the parts of a program

  module _ (depth : ℕ) (high : (f : ℕ) (fn : Fun) → slice_get p.functions f ≡ Some fn → chain f ≤ depth) where
    mutual
      applies : (e : Ex) (gs r : List Ty) (t : Ty) → HasType e (Sigs gs r) t → AppliesBelow chain (suc depth) e
      applies (Number z) gs r t h = tt
      applies (Fact b) gs r t h = tt
      applies (Constant k) gs r t h = tt
      applies (Read (Global x)) gs r t h = tt
      applies (Read (Local x)) gs r t h = tt
      applies (Not e) gs r t h = applies e gs r BoolTy h.1
      applies (Negative e) gs r t h = applies e gs r IntTy h.1
      applies (Binary op a b) gs r t h =
          let s = sides op (HasType a (Sigs gs r)) (HasType b (Sigs gs r)) t h in
          (applies a gs r s.0.0 s.0.1, applies b gs r s.1.0 s.1.1)
      applies (Apply f es) gs r t h =
          let l = high f h.0 h.1 in
          ((let m : chain f < suc depth = omega arith in m), all_apply es gs r h.0.params h.3)
      applies (Select m es) gs r t h =
          (applies m gs r (MapTy h.0 t) h.1, all_apply es gs r (map key_ty h.0) h.2)
      applies (Update m es e) gs r t h =
          (applies m gs r (MapTy h.0 h.1.0) h.1.2, all_apply es gs r (map key_ty h.0) h.1.3, applies e gs r h.1.0 h.1.4)
      applies (Old e) gs r t h = applies e gs r t h

      all_apply : (es : Exs) (gs r : List Ty) (ts : List Ty) → HaveTypes es (Sigs gs r) ts → EachAppliesBelow chain (suc depth) es
      all_apply NoMore gs r ts h = tt
      all_apply (More e es) gs r [] h = absurd h
      all_apply (More e es) gs r (t ∷ ts) h =
          (applies e gs r t h.0, all_apply es gs r ts h.1)

    abbrev O : Ex → Ex
    O = opened g (B depth)

    one_scalar : (gs r : List Ty) (e : Ex) (t : Ty) → HasType e (Sigs gs r) t → is_plain F (O e) ≡ true
    one_scalar gs r e t h =
        opened_scalar depth (bodies_plain depth) gs r (suc depth) (omega arith) e t h (applies e gs r t h)

    exs_scalar : (ds : List Decl) (es : Exs) (ts : List Ty) → HaveTypes es (sig_in p ds) ts → exs_pass (is_plain F) (all_opened g (B depth) es) ≡ true
    exs_scalar ds NoMore ts h = refl
    exs_scalar ds (More e es) [] h = absurd h
    exs_scalar ds (More e es) (t ∷ ts) h =
        both (is_plain F (O e)) (exs_pass (is_plain F) (all_opened g (B depth) es)) (one_scalar (types_of p.globals) (types_of ds) e t h.0) (exs_scalar ds es ts h.1)

    list_scalar : (ds : List Decl) (es : List Ex) → Each (IsFormula (sig_in p ds)) es → list_all (is_plain F) (map O es) ≡ true
    list_scalar ds [] h = refl
    list_scalar ds (e ∷ es) h =
        both (is_plain F (O e)) (list_all (is_plain F) (map O es)) (one_scalar (types_of p.globals) (types_of ds) e BoolTy h.0.0) (list_scalar ds es h.1)

    axioms_scalar : (es : List Ex) → Each (λ e. IsFormula (sig_in (record p { globals = [] }) []) e × HasNoOld e) es → list_all (is_plain F) (map O es) ≡ true
    axioms_scalar [] h = refl
    axioms_scalar (e ∷ es) h =
        both (is_plain F (O e)) (list_all (is_plain F) (map O es)) (one_scalar [] [] e BoolTy h.0.0.0) (axioms_scalar es h.1)

    clause_scalar : (n : ℕ) (ds : List Decl) (k : Clause) → IsFormula (sig_in p ds) k.says → clause_passes n any_ex k ≡ true → clause_passes n (is_plain F) (opened_clause g (B depth) k) ≡ true
    clause_scalar n ds k h j =
        both (is_declared n k.candidate) (is_plain F (O k.says)) (and_left (is_declared n k.candidate) (any_ex k.says) j) (one_scalar (types_of p.globals) (types_of ds) k.says BoolTy h.0)

    clauses_scalar : (n : ℕ) (ds : List Decl) (ks : List Clause) → Each (λ k. IsFormula (sig_in p ds) k.says) ks → list_all (clause_passes n any_ex) ks ≡ true → list_all (clause_passes n (is_plain F)) (map (opened_clause g (B depth)) ks) ≡ true
    clauses_scalar n ds [] h j = refl
    clauses_scalar n ds (k ∷ ks) h j =
        both (clause_passes n (is_plain F) (opened_clause g (B depth) k)) (list_all (clause_passes n (is_plain F)) (map (opened_clause g (B depth)) ks)) (clause_scalar n ds k h.0 (and_left (clause_passes n any_ex k) (list_all (clause_passes n any_ex) ks) j)) (clauses_scalar n ds ks h.1 (and_right (clause_passes n any_ex k) (list_all (clause_passes n any_ex) ks) j))

    decls_scalar : (ds es : List Decl) → Each (λ d. All (IsFormula (sig_in p ds)) d.wheres) es → decls_pass is_value_type any_ex es ≡ true → decls_pass is_value_type (is_plain F) (map (opened_decl g (B depth)) es) ≡ true
    decls_scalar ds [] h j = refl
    decls_scalar ds (d ∷ es) h j =
        let one = and_left (decl_passes is_value_type any_ex d) (decls_pass is_value_type any_ex es) j in
        both (decl_passes is_value_type (is_plain F) (opened_decl g (B depth) d)) (decls_pass is_value_type (is_plain F) (map (opened_decl g (B depth)) es)) (both (is_value_type d.ty) (list_all (is_plain F) (map O d.wheres)) (and_left (is_value_type d.ty) (list_all any_ex d.wheres) one) (list_scalar ds d.wheres (each_all (IsFormula (sig_in p ds)) d.wheres h.0))) (decls_scalar ds es h.1 (and_right (decl_passes is_value_type any_ex d) (decls_pass is_value_type any_ex es) j))

    guard_scalar : (ds : List Decl) (e : Guard) → IsGuard (sig_in p ds) e → guard_passes (is_plain F) (opened_guard g (B depth) e) ≡ true
    guard_scalar ds Star h = refl
    guard_scalar ds (Test e) h = one_scalar (types_of p.globals) (types_of ds) e BoolTy h.0

    st_scalar : (n : ℕ) (q : Proc) (ds : List Decl) (inside before : List ℕ) (s : St) → IsTypedStatement (record { program = p; procedure = q; variables = ds }) inside before s → st_passes n any_ex s ≡ true → st_passes n (is_plain F) (opened_st g (B depth) s) ≡ true
    st_scalar n q ds inside before Skip h j = refl
    st_scalar n q ds inside before (Then x y) h j =
        both (st_passes n (is_plain F) (opened_st g (B depth) x)) (st_passes n (is_plain F) (opened_st g (B depth) y)) (st_scalar n q ds inside _ x h.0 (and_left (st_passes n any_ex x) (st_passes n any_ex y) j)) (st_scalar n q ds inside before y h.1 (and_right (st_passes n any_ex x) (st_passes n any_ex y) j))
    st_scalar n q ds inside before (Label l) h j = refl
    st_scalar n q ds inside before (Assert k) h j = clause_scalar n ds k h.1 j
    st_scalar n q ds inside before (Assume e) h j = one_scalar (types_of p.globals) (types_of ds) e BoolTy h.0
    st_scalar n q ds inside before (Havoc xs) h j = refl
    st_scalar n q ds inside before (Assign xs es) h j = exs_scalar ds es _ h.2
    st_scalar n q ds inside before (Invoke k) h j = exs_scalar ds k.args _ h.1.1.0
    st_scalar n q ds inside before (If i e x y) h j =
        let rest = and_right (guard_passes any_ex e) (st_passes n any_ex x && st_passes n any_ex y) j in
        both (guard_passes (is_plain F) (opened_guard g (B depth) e)) (st_passes n (is_plain F) (opened_st g (B depth) x) && st_passes n (is_plain F) (opened_st g (B depth) y)) (guard_scalar ds e h.0) (both (st_passes n (is_plain F) (opened_st g (B depth) x)) (st_passes n (is_plain F) (opened_st g (B depth) y)) (st_scalar n q ds (i ∷ inside) before x h.1 (and_left (st_passes n any_ex x) (st_passes n any_ex y) rest)) (st_scalar n q ds (i ∷ inside) before y h.2 (and_right (st_passes n any_ex x) (st_passes n any_ex y) rest)))
    st_scalar n q ds inside before (While i e is x) h j =
        let rest = and_right (guard_passes any_ex e) (list_all (clause_passes n any_ex) is && st_passes n any_ex x) j in
        both (guard_passes (is_plain F) (opened_guard g (B depth) e)) (list_all (clause_passes n (is_plain F)) (map (opened_clause g (B depth)) is) && st_passes n (is_plain F) (opened_st g (B depth) x)) (guard_scalar ds e h.0) (both (list_all (clause_passes n (is_plain F)) (map (opened_clause g (B depth)) is)) (st_passes n (is_plain F) (opened_st g (B depth) x)) (clauses_scalar n ds is (each_all (λ k. IsFormula (sig_in p ds) k.says) is h.1) (and_left (list_all (clause_passes n any_ex) is) (st_passes n any_ex x) rest)) (st_scalar n q ds (i ∷ inside) before x h.2 (and_right (list_all (clause_passes n any_ex) is) (st_passes n any_ex x) rest)))
    st_scalar n q ds inside before (Break i) h j = refl
    st_scalar n q ds inside before (Goto ls) h j = refl
    st_scalar n q ds inside before Return h j = refl

    supposing_scalar : (n : ℕ) (es : List Ex) (s : St) → list_all (is_plain F) es ≡ true → st_passes n (is_plain F) s ≡ true → st_passes n (is_plain F) (supposing es s) ≡ true
    supposing_scalar n [] s h k = k
    supposing_scalar n (e ∷ es) s h k =
        both (is_plain F e) (st_passes n (is_plain F) (supposing es s)) (and_left (is_plain F e) (list_all (is_plain F) es) h) (supposing_scalar n es s (and_right (is_plain F e) (list_all (is_plain F) es) h) k)

    proc_scalar : (n : ℕ) (q : Proc) → IsTypedProc p q → proc_passes n is_value_type any_ex q ≡ true → proc_passes n is_value_type (is_plain F) (opened_proc g (B depth) q) ≡ true
    proc_scalar n q t j =
        let dp = decls_pass is_value_type any_ex q.params in
        let dr = decls_pass is_value_type any_ex q.results in
        let cr = list_all (clause_passes n any_ex) q.requires_ in
        let ce = list_all (clause_passes n any_ex) q.ensures_ in
        let j1 = and_right dp (dr && (cr && ce)) j in
        let j2 = and_right dr (cr && ce) j1 in
        let o = opened_proc g (B depth) q in
        let xp = decls_pass is_value_type (is_plain F) o.params in
        let xr = decls_pass is_value_type (is_plain F) o.results in
        let yr = list_all (clause_passes n (is_plain F)) o.requires_ in
        let ye = list_all (clause_passes n (is_plain F)) o.ensures_ in
        both xp (xr && (yr && ye)) (decls_scalar q.params q.params (each_all (λ d. All (IsFormula (sig_in p q.params)) d.wheres) q.params t.params) (and_left dp (dr && (cr && ce)) j)) (both xr (yr && ye) (decls_scalar (q.params ++ q.results) q.results (each_all (λ d. All (IsFormula (sig_in p (q.params ++ q.results))) d.wheres) q.results t.results) (and_left dr (cr && ce) j1)) (both yr ye (clauses_scalar n q.params q.requires_ (formulas q.requires_ (each_all (λ k. IsFormula (sig_in p q.params) k.says × HasNoOld k.says) q.requires_ t.requires_)) (and_left cr ce j2)) (clauses_scalar n (q.params ++ q.results) q.ensures_ (each_all (λ k. IsFormula (sig_in p (q.params ++ q.results)) k.says) q.ensures_ t.ensures_) (and_right cr ce j2))))
      where
        formulas : (ks : List Clause) → Each (λ k. IsFormula (sig_in p q.params) k.says × HasNoOld k.says) ks → Each (λ k. IsFormula (sig_in p q.params) k.says) ks
        formulas [] h = tt
        formulas (k ∷ ks) h = (h.0.0, formulas ks h.1)

    procs_scalar : (n : ℕ) (qs : List Proc) → Each (IsTypedProc p) qs → list_all (proc_passes n is_value_type any_ex) qs ≡ true → list_all (proc_passes n is_value_type (is_plain F)) (map (opened_proc g (B depth)) qs) ≡ true
    procs_scalar n [] t j = refl
    procs_scalar n (q ∷ qs) t j =
        both (proc_passes n is_value_type (is_plain F) (opened_proc g (B depth) q)) (list_all (proc_passes n is_value_type (is_plain F)) (map (opened_proc g (B depth)) qs)) (proc_scalar n q t.0 (and_left (proc_passes n is_value_type any_ex q) (list_all (proc_passes n is_value_type any_ex) qs) j)) (procs_scalar n qs t.1 (and_right (proc_passes n is_value_type any_ex q) (list_all (proc_passes n is_value_type any_ex) qs) j))

    impl_scalar : (n : ℕ) (axioms : List Ex) (m : Impl) → list_all (is_plain F) (map O axioms) ≡ true → IsTypedImpl p m → impl_passes n is_value_type any_ex m ≡ true → impl_passes n is_value_type (is_plain F) (opened_impl g (B depth) axioms m) ≡ true
    impl_scalar n axioms m a t j =
        let ds = t.procedure.params ++ (t.procedure.results ++ m.locals) in
        let dl = decls_pass is_value_type any_ex m.locals in
        let sb = st_passes n any_ex m.body in
        both (decls_pass is_value_type (is_plain F) (map (opened_decl g (B depth)) m.locals)) (st_passes n (is_plain F) (supposing (map O axioms) (opened_st g (B depth) m.body))) (decls_scalar ds m.locals (each_all (λ d. All (IsFormula (sig_in p ds)) d.wheres) m.locals t.locals) (and_left dl sb j)) (supposing_scalar n (map O axioms) (opened_st g (B depth) m.body) a (st_scalar n t.procedure ds [] [] m.body t.body (and_right dl sb j)))

    impls_scalar : (n : ℕ) (axioms : List Ex) (ms : List Impl) → list_all (is_plain F) (map O axioms) ≡ true → Each (IsTypedImpl p) ms → list_all (impl_passes n is_value_type any_ex) ms ≡ true → list_all (impl_passes n is_value_type (is_plain F)) (map (opened_impl g (B depth) axioms) ms) ≡ true
    impls_scalar n axioms [] a t j = refl
    impls_scalar n axioms (m ∷ ms) a t j =
        both (impl_passes n is_value_type (is_plain F) (opened_impl g (B depth) axioms m)) (list_all (impl_passes n is_value_type (is_plain F)) (map (opened_impl g (B depth) axioms) ms)) (impl_scalar n axioms m a t.0 (and_left (impl_passes n is_value_type any_ex m) (list_all (impl_passes n is_value_type any_ex) ms) j)) (impls_scalar n axioms ms a t.1 (and_right (impl_passes n is_value_type any_ex m) (list_all (impl_passes n is_value_type any_ex) ms) j))

    constants_scalar : (cs : List Const) → list_all const_judged cs ≡ true → decls_pass is_value_type (is_plain F) (map global_for cs) ≡ true
    constants_scalar [] j = refl
    constants_scalar (c ∷ cs) j =
        let one = and_left (const_judged c) (list_all const_judged cs) j in
        both (is_value_type c.ty && true) (decls_pass is_value_type (is_plain F) (map global_for cs)) (both (is_value_type c.ty) true one refl) (constants_scalar cs (and_right (const_judged c) (list_all const_judged cs) j))

list_all_both : {A : Type 0} (f : A → Bool) (xs ys : List A) → list_all f xs ≡ true → list_all f ys ≡ true → list_all f (xs ++ ys) ≡ true
list_all_both f [] ys h k = k
list_all_both f (x ∷ xs) ys h k =
    both (f x) (list_all f (xs ++ ys)) (and_left (f x) (list_all f xs) h) (list_all_both f xs ys (and_right (f x) (list_all f xs) h) k)

module _ (p : Prog) (judged : is_judged p ≡ true) where
  abbrev Globals : Bool
  Globals = decls_pass is_value_type any_ex p.globals

  abbrev Constants : Bool
  Constants = list_all const_judged p.constants

  abbrev Functions : Bool
  Functions = list_all fun_judged p.functions

  abbrev Procs : Bool
  Procs = list_all (proc_passes p.candidates is_value_type any_ex) p.procedures

  abbrev Impls : Bool
  Impls = list_all (impl_passes p.candidates is_value_type any_ex) p.implementations

  pub globals_judged : Globals ≡ true
  globals_judged = and_left Globals (Constants && (Functions && (Procs && Impls))) judged

  rest1 : (Constants && (Functions && (Procs && Impls))) ≡ true
  rest1 = and_right Globals (Constants && (Functions && (Procs && Impls))) judged

  pub constants_judged : Constants ≡ true
  constants_judged = and_left Constants (Functions && (Procs && Impls)) rest1

  rest2 : (Functions && (Procs && Impls)) ≡ true
  rest2 = and_right Constants (Functions && (Procs && Impls)) rest1

  pub functions_judged : Functions ≡ true
  functions_judged = and_left Functions (Procs && Impls) rest2

  pub procs_judged : Procs ≡ true
  procs_judged = and_left Procs Impls (and_right Functions (Procs && Impls) rest2)

  pub impls_judged : Impls ≡ true
  impls_judged = and_right Procs Impls (and_right Functions (Procs && Impls) rest2)

functions_pass : (fs : List Fun) → list_all fun_judged fs ≡ true → list_all (fun_passes is_value_type) (map bodiless fs) ≡ true
functions_pass [] j = refl
functions_pass (f ∷ fs) j =
    let ps = list_all is_value_type f.params in
    let result = is_value_type f.result in
    let here = and_left (fun_judged f) (list_all fun_judged fs) j in
    both (ps && (result && true)) (list_all (fun_passes is_value_type) (map bodiless fs)) (both ps (result && true) (and_left ps result here) (both result true (and_right ps result here) refl))
    (functions_pass fs (and_right (fun_judged f) (list_all fun_judged fs) j))

pub over_plain : (depth : ℕ) (p : Prog) (typed : IsTyped p) (chains : HasShortChains depth p) → is_judged p ≡ true → is_over_plain p.functions (opened_program depth p) ≡ true
over_plain depth p typed chains j =
    let funs = functions_judged p j in
    let o = opened_program depth p in
    let g = length p.globals in
    let b = bodies_of depth p in
    let decls = decl_passes is_value_type (is_plain p.functions) in
    let functions = list_all (fun_passes is_value_type) o.functions in
    let procs = list_all (proc_passes p.candidates is_value_type (is_plain p.functions)) o.procedures in
    let impls = list_all (impl_passes p.candidates is_value_type (is_plain p.functions)) o.implementations in
    let c = chains.chain in
    let k = chains.falls in
    let high = chains.deep in
    both (list_all decls o.globals) (functions && (procs && impls)) (list_all_both decls (map (opened_decl g b) p.globals) (map global_for p.constants) (decls_scalar p typed c k depth high [] p.globals (each_all (λ d. All (IsFormula (sig_in p [])) d.wheres) p.globals typed.globals) (globals_judged p j)) (constants_scalar p typed c k depth high p.constants (constants_judged p j))) (both functions (procs && impls) (functions_pass p.functions funs) (both procs impls (procs_scalar p typed c k depth high p.candidates p.procedures (each_all (IsTypedProc p) p.procedures typed.procedures) (procs_judged p j)) (impls_scalar p typed c k depth high p.candidates (claims p) p.implementations (axioms_scalar p typed c k depth high (claims p) (claims_typed p typed.axioms)) (each_all (IsTypedImpl p) p.implementations typed.implementations) (impls_judged p j))))
