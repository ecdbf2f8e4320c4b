-- A program without faults of names and types keeps the rules of types.
use Rattle.std.proofs.Common.{◌≡◌, ℕ, suc, Bool, true, false, ◌&&◌, if◌then◌else◌, List, [], ◌∷◌, ◌++◌, length, map, Option, Some, None, slice_get, slice_index_or, All, refl, sym, ap, ◌∙◌, subst}
use Rattle.std.proofs.lemmas.List.Elements.{All-nil, All-cons}
use Rattle.std.specs.Option.{option_map}
use Rattle.std.proofs.lemmas.Option.{slice_get-map}
use Rattle.bg_base.specs.declared.pos.Pos.{Pos}
use Rattle.bg_ast.specs.Values as v
use Rattle.bg_ast.specs.Resolved as r
use Rattle.bg_ast.specs.Meaning as m
use Rattle.bg_sense.specs.Types.{types_of}
use Rattle.bg_sense.specs.Typed.{Around, sig_around, labels_of}
use Rattle.bg_kinds.specs.Faults.{Fault, is_none}
use Rattle.bg_kinds.specs.Kinds.{Kind, kind_in, start_of, index_fault, type_faults, indices_faults, types_faults}
use Rattle.bg_typing.specs.Sides.{Scope, Shape, are_typed, matched_faults}
use Rattle.bg_typing.specs.Exprs.{sides_of, faults_of, judge_all}
use Rattle.bg_typing.specs.Stmts.{clauses_faults, guard_faults, targets, kinds_of, sides_faults, assign_faults, st_faults, sts_faults, arms_faults}
use Rattle.bg_types.specs.Programs.{declared_kinds, procedure_shape, written_faults, declared_faults, synonym_faults, synonyms_faults, consts_faults, shape_faults, functions_faults, two_lists_faults, procedures_faults, frame_faults, implementations_faults, frame_kinds, scope_in, with_frame, without_globals, bodies_faults, specifications_faults, declared_sides, matching_faults, implementation_faults, impls_faults, types_part, bodies_part}
use Rattle.bg_types.specs.Verdicts.{IsWellTyped}
use Rattle.bg_typing.specs.Stmts as st
use Rattle.bg_typed.specs.Naming.{Matches}
use Rattle.bg_typed.specs.Bodies.{AreNamedSides, IsNamedStatement, AreNamedStatements, AreNamedArms}
use Rattle.bg_typed.specs.Programs.{IsNamedImplementation, IsNamedProgram, around_in}
use Rattle.bg_typed.specs.Rules.{IsIndex, HasIndices, HaveIndices, AreIndices, count, IsEven, AreEven, AreEvenArms, DeclaredWell, SynonymWell, KeepsImplementation, KeepsTypes}
use Rattle.bg_typed.specs.Rules as w
use Rattle.bg_typed.proofs.Bits.{never, split_none, matched_none}
use Rattle.bg_typed.proofs.Unfolded.{kind_means, named_is}
use Rattle.bg_typed.proofs.Declared.{frame_is, declared_are, matched_same}
use Rattle.bg_typed.proofs.Declarations.{all_at, each_at}
use Rattle.bg_typed.proofs.Assigned.{targets_have}
use Rattle.bg_typed.proofs.Typings.{have_exs}
use Rattle.bg_typed.proofs.Fitting.{HasTypes, has_types, matches_frame}
use Rattle.bg_typed.proofs.Typed.{program_typed}

-- ---- index types

index_at : (p : Pos) (t : v.Ty) → is_none (index_fault p (Some t)) ≡ true → IsIndex t
index_at p v.IntTy h = tt
index_at p (v.UserTy k) h = tt
index_at p v.BoolTy h = never h
index_at p (v.MapTy ks t) h = never h

module _ (named : ℕ → Kind) (n : ℕ → v.Ty) (means : (k : ℕ) → named k ≡ Some (n k)) where
  mutual
    has_indices : (t : r.Ty) → is_none (type_faults named t) ≡ true → HasIndices n t
    has_indices (r.IntType p) h = tt
    has_indices (r.BoolType p) h = tt
    has_indices (r.DeclaredType p k) h = tt
    has_indices (r.InParens p t) h = has_indices t h
    has_indices (r.MapType is t) h =
        let parts = split_none (indices_faults named is) (type_faults named t) h in
        (have_indices is parts.0, has_indices t parts.1)

    have_indices : (is : r.Indices) → is_none (indices_faults named is) ≡ true → HaveIndices n is
    have_indices r.NoIndex h = tt
    have_indices (r.Index p ts is) h =
        let parts = split_none (types_faults named ts) (indices_faults named is) h in
        (are_indices ts parts.0, have_indices is parts.1)

    are_indices : (ts : r.Tys) → is_none (types_faults named ts) ≡ true → AreIndices n ts
    are_indices r.NoType h = tt
    are_indices (r.OneType t ts) h =
        let own = index_fault (start_of t) (kind_in named t) in
        let parts = split_none (type_faults named t) (own ++ types_faults named ts) h in
        let inner = split_none own (types_faults named ts) parts.1 in
        let kind = kind_means named n t (λ j c. means j) parts.0 in
        (has_indices t parts.0, index_at (start_of t) (m.type_in n t) (sym (ap (λ (k : Kind). is_none (index_fault (start_of t) k)) kind) ∙ inner.0), are_indices ts inner.1)

  all_declared : (ds : List r.Declared) → is_none (declared_faults named ds) ≡ true → DeclaredWell n ds
  all_declared [] h = All-nil (λ c. HasIndices n c.ty)
  all_declared (c ∷ ds) h =
      let parts = split_none (type_faults named c.ty) (declared_faults named ds) h in
      All-cons (λ z. HasIndices n z.ty) c ds (has_indices c.ty parts.0) (all_declared ds parts.1)

  one_synonym : (o : Option r.Ty) → is_none (synonym_faults named o) ≡ true → SynonymWell n o
  one_synonym None h = tt
  one_synonym (Some t) h = has_indices t h

  all_synonyms : (ds : List r.TypeName) → is_none (synonyms_faults named ds) ≡ true → All (λ c. SynonymWell n c.synonym) ds
  all_synonyms [] h = All-nil (λ c. SynonymWell n c.synonym)
  all_synonyms (c ∷ ds) h =
      let parts = split_none (synonym_faults named c.synonym) (synonyms_faults named ds) h in
      All-cons (λ z. SynonymWell n z.synonym) c ds (one_synonym c.synonym parts.0) (all_synonyms ds parts.1)

  all_consts : (cs : List r.Const) → is_none (consts_faults named cs) ≡ true → All (λ c. HasIndices n c.ty) cs
  all_consts [] h = All-nil (λ c. HasIndices n c.ty)
  all_consts (c ∷ cs) h =
      let parts = split_none (type_faults named c.ty) (consts_faults named cs) h in
      All-cons (λ z. HasIndices n z.ty) c cs (has_indices c.ty parts.0) (all_consts cs parts.1)

  all_written : (ts : List r.Ty) → is_none (written_faults named ts) ≡ true → All (HasIndices n) ts
  all_written [] h = All-nil (HasIndices n)
  all_written (t ∷ ts) h =
      let parts = split_none (type_faults named t) (written_faults named ts) h in
      All-cons (HasIndices n) t ts (has_indices t parts.0) (all_written ts parts.1)

  all_functions : (fs : List r.Fun) → is_none (functions_faults named fs) ≡ true → All (λ f. All (HasIndices n) f.params × HasIndices n f.result) fs
  all_functions [] h = All-nil (λ f. All (HasIndices n) f.params × HasIndices n f.result)
  all_functions (f ∷ fs) h =
      let parts = split_none (shape_faults named f) (functions_faults named fs) h in
      let own = split_none (written_faults named f.params) (type_faults named f.result) parts.0 in
      All-cons (λ z. All (HasIndices n) z.params × HasIndices n z.result) f fs (all_written f.params own.0, has_indices f.result own.1) (all_functions fs parts.1)

  all_procedures : (qs : List r.Proc) → is_none (procedures_faults named qs) ≡ true → All (λ y. DeclaredWell n y.params × DeclaredWell n y.results) qs
  all_procedures [] h = All-nil (λ y. DeclaredWell n y.params × DeclaredWell n y.results)
  all_procedures (y ∷ qs) h =
      let parts = split_none (two_lists_faults named y.params y.results) (procedures_faults named qs) h in
      let own = split_none (declared_faults named y.params) (declared_faults named y.results) parts.0 in
      All-cons (λ z. DeclaredWell n z.params × DeclaredWell n z.results) y qs (all_declared y.params own.0, all_declared y.results own.1) (all_procedures qs parts.1)

decls_are : (n : ℕ → v.Ty) (ds : List r.Declared) → types_of (map (m.decl_of n) ds) ≡ w.types_of n ds
decls_are n [] = refl
decls_are n (c ∷ ds) = ap (λ (l : List v.Ty). m.type_in n c.ty ∷ l) (decls_are n ds)

some_all : (ts us : List v.Ty) → map Some ts ≡ map Some us → ts ≡ us
some_all [] [] e = refl
some_all [] (u ∷ us) e = absurd (let bad : ⊥ = cc in bad)
some_all (t ∷ ts) [] e = absurd (let bad : ⊥ = cc in bad)
some_all (t ∷ ts) (u ∷ us) e =
    let first : t ≡ u = cc in
    let rest : map Some ts ≡ map Some us = cc in
    ap (λ (y : v.Ty). y ∷ ts) first ∙ ap (λ (l : List v.Ty). u ∷ l) (some_all ts us rest)

-- ---- as many right sides as left ones

judged_long : (g : Scope) (es : r.Exs) → length (sides_of (judge_all g es)) ≡ count es
judged_long g r.NoMore = refl
judged_long g (r.More e es) = ap suc (judged_long g es)

targets_long : (g : Scope) (ts : List r.Target) → length (kinds_of (sides_of (targets g ts))) ≡ length ts
targets_long g [] = refl
targets_long g (t ∷ ts) = ap suc (targets_long g ts)

both_true : (a b : Bool) → a ≡ true → b ≡ true → (a && b) ≡ true
both_true a b e f = ap (λ (z : Bool). z && b) e ∙ f

if_true : (b : Bool) (fs : List Fault) → b ≡ true → is_none (if b then fs else []) ≡ true → is_none fs ≡ true
if_true true fs e h = h
if_true false fs e h = never e

module _ (g : Scope) (a : Around) (h : Matches g (sig_around a)) where
  even_sides : (p : Pos) (ts : List r.Target) (es : r.Exs) → AreNamedSides a ts es → is_none (assign_faults g p (targets g ts) (judge_all g es)) ≡ true → count es ≡ length ts
  even_sides p ts es i n =
      let one = split_none (faults_of (targets g ts)) (faults_of (judge_all g es) ++ sides_faults p (sides_of (targets g ts)) (sides_of (judge_all g es))) n in
      let two = split_none (faults_of (judge_all g es)) (sides_faults p (sides_of (targets g ts)) (sides_of (judge_all g es))) one.1 in
      let left = targets_have g a h ts i.targets one.0 in
      let right = have_exs g (sig_around a) h es i.values two.0 in
      let fits = if_true (are_typed (sides_of (targets g ts)) && are_typed (sides_of (judge_all g es))) (matched_faults p (kinds_of (sides_of (targets g ts))) (sides_of (judge_all g es))) (both_true (are_typed (sides_of (targets g ts))) (are_typed (sides_of (judge_all g es))) left right) two.1 in
      let long = (matched_none p (kinds_of (sides_of (targets g ts))) (sides_of (judge_all g es)) fits).0 in
      sym (judged_long g es) ∙ (long ∙ targets_long g ts)

  mutual
    even_st : (inside before : List ℕ) (b : r.St) → IsNamedStatement a inside before b → is_none (st_faults g b) ≡ true → IsEven b
    even_st inside before (r.Label k) i n = tt
    even_st inside before (r.Assert k) i n = tt
    even_st inside before (r.Assume e) i n = tt
    even_st inside before (r.Havoc xs) i n = tt
    even_st inside before (r.Assign p ts es) i n = even_sides p ts es i n
    even_st inside before (r.Invoke k) i n = tt
    even_st inside before (r.If k arms otherwise) i n =
        let parts = split_none (arms_faults g arms) (sts_faults g otherwise) n in
        even_arms inside before k arms otherwise (λ around j. even_sts around before otherwise j parts.1) i parts.0
    even_st inside before (r.While k p x is body) i n =
        let one = split_none (guard_faults g x) (clauses_faults g is ++ sts_faults g body) n in
        let two = split_none (clauses_faults g is) (sts_faults g body) one.1 in
        even_sts (k ∷ inside) before body i.2 two.1
    even_st inside before (r.Break k) i n = tt
    even_st inside before (r.Goto ls) i n = tt
    even_st inside before r.Return i n = tt

    even_sts : (inside before : List ℕ) (b : r.Sts) → AreNamedStatements a inside before b → is_none (sts_faults g b) ≡ true → AreEven b
    even_sts inside before r.NoSt i n = tt
    even_sts inside before (r.Then b c) i n =
        let parts = split_none (st_faults g b) (sts_faults g c) n in
        (even_st inside (labels_of (m.sts_of c) ++ before) b i.0 parts.0, even_sts inside before c i.1 parts.1)

    even_arms : (inside before : List ℕ) (k : ℕ) (arms : r.Arms) (other : r.Sts) → ((around : List ℕ) → AreNamedStatements a around before other → AreEven other) → AreNamedArms a inside before k arms (λ around. AreNamedStatements a around before other) → is_none (arms_faults g arms) ≡ true → AreEvenArms arms × AreEven other
    even_arms inside before k r.NoArm other f i n = (tt, f inside i)
    even_arms inside before k (r.Arm x body arms) other f i n =
        let one = split_none (guard_faults g x) (sts_faults g body ++ arms_faults g arms) n in
        let two = split_none (sts_faults g body) (arms_faults g arms) one.1 in
        let rest = even_arms (k ∷ inside) before (suc k) arms other f i.2 two.1 in
        ((even_sts (k ∷ inside) before body i.1 two.0, rest.0), rest.1)

-- ---- implementations

slice_get_map : {A B : Type 0} (f : A → B) (xs : List A) (i : ℕ) (y : A) → slice_get xs i ≡ Some y → slice_get (map f xs) i ≡ Some (f y)
slice_get_map f xs i y h = slice_get-map f xs i ∙ ap (option_map f) h

module _ (named : ℕ → Kind) (p : r.Program) (t : HasTypes named p) (means : (k : ℕ) → named k ≡ Some (m.named_of p.types k)) where
  abbrev n : ℕ → v.Ty
  n = m.named_of p.types

  abbrev scope : Scope
  scope = scope_in named p

  procedure_there : (j : ℕ) (q : r.Proc) → slice_get p.procedures j ≡ Some q → is_none (two_lists_faults named q.params q.results) ≡ true
  procedure_there j q is =
      all_at (λ (q : r.Proc). is_none (two_lists_faults named q.params q.results) ≡ true) p.procedures j q (λ k d h. each_at (procedures_faults named) (λ q. two_lists_faults named q.params q.results) (λ q qs. refl) p.procedures k d h t.procedures) is

  one_implementation : (k : r.Impl) → IsNamedImplementation p k → is_none (frame_faults named k.params k.results k.locals) ≡ true → is_none (implementation_faults named scope k) ≡ true → KeepsImplementation p k
  one_implementation k i h e =
      let q = i.procedure in
      let two = two_lists_faults named k.params k.results in
      let types = split_none two (declared_faults named k.locals) h in
      let given = split_none (declared_faults named k.params) (declared_faults named k.results) types.0 in
      let wanted = split_none (declared_faults named q.params) (declared_faults named q.results) (procedure_there k.procedure q i.is_there) in
      let frame = frame_kinds named k.params k.results k.locals in
      let parts = split_none (matching_faults named (slice_get scope.procedures k.procedure) k) (sts_faults (with_frame scope frame) k.body) e in
      let there : is_none (matching_faults named (Some (procedure_shape named q)) k) ≡ true = subst (λ (o : Option Shape). is_none (matching_faults named o k) ≡ true) (slice_get_map (procedure_shape named) p.procedures k.procedure q i.is_there) parts.0 in
      let matched = split_none (matched_faults k.name.pos (declared_kinds named q.params) (declared_sides named k.params)) (matched_faults k.name.pos (declared_kinds named q.results) (declared_sides named k.results)) there in
      let params = matched_same named n t.stands k.name.pos q.params k.params wanted.0 given.0 matched.0 in
      let results = matched_same named n t.stands k.name.pos q.results k.results wanted.1 given.1 matched.1 in
      let locals = declared_are named n t.stands k.locals types.1 in
      let about = around_in p q k in
      let whole = frame_is (map (m.decl_of n) q.params) (map (m.decl_of n) q.results) (map (m.decl_of n) k.locals) (declared_kinds named k.params) (declared_kinds named k.results) (declared_kinds named k.locals) params.kinds results.kinds locals in
      record {
        params = all_declared named n means k.params given.0;
        results = all_declared named n means k.results given.1;
        locals = all_declared named n means k.locals types.1;
        procedure = q;
        is_there = i.is_there;
        same_params = sym (decls_are n k.params) ∙ (some_all (types_of (map (m.decl_of n) k.params)) (types_of (map (m.decl_of n) q.params)) (sym (declared_are named n t.stands k.params given.0) ∙ params.kinds) ∙ decls_are n q.params);
        same_results = sym (decls_are n k.results) ∙ (some_all (types_of (map (m.decl_of n) k.results)) (types_of (map (m.decl_of n) q.results)) (sym (declared_are named n t.stands k.results given.1) ∙ results.kinds) ∙ decls_are n q.results);
        even = even_sts (with_frame scope frame) about (matches_frame named p t frame about.variables whole) [] [] k.body (i.body params.long results.long) parts.1;
      }

  all_implementations : All (IsNamedImplementation p) p.implementations → is_none (impls_faults named scope p.implementations) ≡ true → All (KeepsImplementation p) p.implementations
  all_implementations i e = λ k d h.
      one_implementation (slice_index_or p.implementations k d) (i k d h)
      (each_at (implementations_faults named) (λ k. frame_faults named k.params k.results k.locals) (λ k ks. refl) p.implementations k d h t.implementations)
      (each_at (impls_faults named scope) (implementation_faults named scope) (λ k ks. refl) p.implementations k d h e)

none_is : (fs : List Fault) → is_none fs ≡ true → fs ≡ []
none_is [] h = refl
none_is (f ∷ fs) h = never h

synonyms_first : (named : ℕ → Kind) (p : r.Program) → is_none (types_part named p) ≡ true → is_none (synonyms_faults named p.types) ≡ true
synonyms_first named p h = (split_none (synonyms_faults named p.types) _ h).0

pub well_kept : (p : r.Program) → IsWellTyped p → IsNamedProgram p → KeepsTypes p
well_kept p h i =
    let named = h.named in
    let n = m.named_of p.types in
    let t = has_types p h in
    let scope = scope_in named p in
    let implementations = impls_faults named scope p.implementations in
    let procedures = specifications_faults named scope p.procedures ++ implementations in
    let axioms = st.truths_faults (without_globals scope []) p.axioms ++ procedures in
    let whole = split_none (types_part named p) (bodies_part named scope p) (ap is_none h.none) in
    let a = split_none (bodies_faults named scope p.functions) axioms whole.1 in
    let b = split_none (st.truths_faults (without_globals scope []) p.axioms) procedures a.1 in
    let c = split_none (specifications_faults named scope p.procedures) implementations b.1 in
    let first = synonyms_first named p whole.0 in
    let means = λ (k : ℕ). named_is p.types named h.acyclic h.unfolded (none_is (synonyms_faults named p.types) first) k in
    record {
      acyclic = h.acyclic;
      synonyms = all_synonyms named n means p.types first;
      constants = all_consts named n means p.constants t.constants;
      globals = all_declared named n means p.globals t.globals;
      functions = all_functions named n means p.functions t.functions;
      procedures = all_procedures named n means p.procedures t.procedures;
      implementations = all_implementations named p t means i.implementations c.1;
      typed = program_typed p i h;
    }
