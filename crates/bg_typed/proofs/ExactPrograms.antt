-- A program that keeps the rules of types has no fault of types.
use Rattle.std.proofs.Common.{◌≡◌, ℕ, zero, suc, ◌⊎◌, inl, inr, List, [], ◌∷◌, ◌++◌, map, Option, Some, None, slice_get, All, refl, sym, ap, ◌∙◌, subst}
use Rattle.std.specs.Option.{option_map}
use Rattle.std.proofs.lemmas.Option.{slice_get-map}
use Rattle.bg_base.specs.declared.pos.Pos.{Pos}
use Rattle.bg_ast.specs.Values as v
use Rattle.bg_ast.specs.Syntax as x
use Rattle.bg_ast.specs.Resolved as r
use Rattle.bg_ast.specs.Meaning as m
use Rattle.bg_sense.specs.Variables.{type_in, decl_in}
use Rattle.bg_sense.specs.Types.{types_of}
use Rattle.bg_sense.specs.Typing.{Sig, sig_in, HasType}
use Rattle.bg_sense.specs.Typed.{IsLinear, IsFormula, HasNoOld, Around, around, sig_around, IsTypedStatement, IsTypedProc, IsTypedImpl}
use Rattle.bg_kinds.specs.Faults.{is_none}
use Rattle.bg_kinds.specs.Kinds.{Kind, type_faults}
use Rattle.bg_kinds.specs.Kinds as kinds
use Rattle.bg_typing.specs.Sides as d
use Rattle.bg_typing.specs.Sides.{Scope, Shape, Side, kind_at, variable_kind, matched_faults, pair_faults}
use Rattle.bg_typing.specs.Exprs.{judge}
use Rattle.bg_typing.specs.Stmts.{wanted_faults, truth_faults, truths_faults, clauses_faults, sts_faults}
use Rattle.bg_types.specs.Programs.{declared_kind, declared_kinds, function_shape, procedure_shape, written_faults, declared_faults, synonym_faults, synonyms_faults, consts_faults, shape_faults, functions_faults, two_lists_faults, procedures_faults, frame_faults, implementations_faults, frame_kinds, scope_in, with_frame, without_globals, body_faults, bodies_faults, specification_faults, specifications_faults, declared_sides, matching_faults, implementation_faults, impls_faults, types_part, bodies_part}
use Rattle.bg_types.specs.Verdicts.{IsWellTyped}
use Rattle.bg_typed.specs.Naming.{function_kinds, Matches}
use Rattle.bg_typed.specs.Bodies.{procedure_kinds, MatchesAround}
use Rattle.bg_typed.specs.Programs.{axiom_sig, body_sig, around_in}
use Rattle.bg_typed.specs.Covering.{Gives, GivesAround}
use Rattle.bg_typed.specs.Rules.{HasIndices, SynonymWell, DeclaredWell, KeepsImplementation, KeepsTypes}
use Rattle.bg_typed.specs.Rules as w
use Rattle.bg_typed.proofs.Unfolded.{kind_means}
use Rattle.bg_typed.proofs.Declarations.{all_at}
use Rattle.bg_typed.proofs.Declared.{frame_is, short_frame_is, written_are}
use Rattle.bg_typed.proofs.Fitting.{HasTypes, matches_frame, matches_axioms, matches_body, matches_around}
use Rattle.bg_typed.proofs.Exact.{both_none, no_want, kind_in, all_match, typed_fine}
use Rattle.bg_typed.proofs.ExactBodies.{all_head, all_tail, body_fine}
use Rattle.bg_typed.proofs.Kept.{kept_kind, kept_none, kept_unfolded}

-- ---- what matches gives

slice_get_map : {A B : Type 0} (f : A → B) (xs : List A) (i : ℕ) (y : A) → slice_get xs i ≡ Some y → slice_get (map f xs) i ≡ Some (f y)
slice_get_map f xs i y h = slice_get-map f xs i ∙ ap (option_map f) h

kind_there : (ts : List v.Ty) (ks : List Kind) (k : ℕ) (t : v.Ty) → ks ≡ map Some ts → slice_get ts k ≡ Some t → kind_at ks k ≡ Some t
kind_there ts ks k t e h = ap (λ (l : List Kind). kind_at l k) e ∙ ap d.or_none (slice_get_map Some ts k t h)

pub gives_by : (g : Scope) (s : Sig) → Matches g s → Gives g s
gives_by g s h =
    record {
      constants = λ k t e. kind_there s.constants g.constants k t h.constants e;
      globals = λ k t e. kind_there s.globals g.globals k t h.globals e;
      frame = λ k t e. kind_there s.frame g.frame k t h.frame e;
      functions = λ k f e. record {
        shape = function_kinds f;
        is_there = ap (λ (l : List Shape). slice_get l k) h.functions ∙ slice_get_map function_kinds s.functions k f e;
        params = refl;
        results = refl;
      };
    }

decl_kind : (ds : List x.Decl) (ks : List Kind) (k : ℕ) → ks ≡ map Some (types_of ds) → (kind_at ks k ≡ Some (type_in (slice_get ds k))) ⊎ (kind_at ks k ≡ None)
decl_kind ds ks k e = by (at ds k)
  where
    at : (es : List x.Decl) (j : ℕ) → (kind_at (map Some (types_of es)) j ≡ Some (type_in (slice_get es j))) ⊎ (kind_at (map Some (types_of es)) j ≡ None)
    at [] j = inr refl
    at (c ∷ es) zero = inl refl
    at (c ∷ es) (suc j) = at es j

    by : (kind_at (map Some (types_of ds)) k ≡ Some (type_in (slice_get ds k))) ⊎ (kind_at (map Some (types_of ds)) k ≡ None) → (kind_at ks k ≡ Some (type_in (slice_get ds k))) ⊎ (kind_at ks k ≡ None)
    by (inl h) = inl (ap (λ (l : List Kind). kind_at l k) e ∙ h)
    by (inr h) = inr (ap (λ (l : List Kind). kind_at l k) e ∙ h)

variable_in : (g : Scope) (a : Around) → MatchesAround g a → (y : x.Var) → (variable_kind g y ≡ Some (type_in (decl_in a.program a.variables y))) ⊎ (variable_kind g y ≡ None)
variable_in g a h (x.Global k) = decl_kind a.program.globals g.globals k h.names.globals
variable_in g a h (x.Local k) = decl_kind a.variables g.frame k h.names.frame

around_by : (g : Scope) (a : Around) → MatchesAround g a → GivesAround g a
around_by g a h =
    record {
      names = gives_by g (sig_around a) h.names;
      variables = variable_in g a h;
      procedures = λ k y e. record {
        shape = procedure_kinds y;
        is_there = ap (λ (l : List Shape). slice_get l k) h.procedures ∙ slice_get_map procedure_kinds a.program.procedures k y e;
        params = refl;
        results = refl;
      };
    }

-- ---- formulas

formula_none : (g : Scope) (s : Sig) (e : r.Ex) → Gives g s → IsFormula s (m.ex_of e) → truth_faults g e ≡ []
formula_none g s e gives h =
    let t = typed_fine g s e v.BoolTy gives h.0 h.1 in
    both_none (judge g e).faults (pair_faults (Some v.BoolTy) (judge g e).side) t.0 (no_want v.BoolTy (judge g e).side t.1)

wanted_none : (g : Scope) (s : Sig) (e : r.Ex) (t : v.Ty) (k : Kind) → k ≡ Some t → Gives g s → HasType (m.ex_of e) s t → IsLinear (m.ex_of e) → wanted_faults g k e ≡ []
wanted_none g s e t k q gives h l =
    let w = typed_fine g s e t gives h l in
    ap (λ (z : Kind). wanted_faults g z e) q
    ∙ both_none (judge g e).faults (pair_faults (Some t) (judge g e).side) w.0 (no_want t (judge g e).side w.1)

truths_none : (g : Scope) (s : Sig) (es : List r.Ex) → Gives g s → All (λ e. IsFormula s e × HasNoOld e) (map m.ex_of es) → truths_faults g es ≡ []
truths_none g s [] gives h = refl
truths_none g s (e ∷ es) gives h =
    both_none
    (truth_faults g e)
    (truths_faults g es)
    (formula_none g s e gives (all_head (λ z. IsFormula s z × HasNoOld z) (m.ex_of e) (map m.ex_of es) h).0)
    (truths_none g s es gives (all_tail (λ z. IsFormula s z × HasNoOld z) (m.ex_of e) (map m.ex_of es) h))

plain_none : (g : Scope) (s : Sig) (ks : List r.Clause) → Gives g s → All (λ k. IsFormula s k.says × HasNoOld k.says) (map m.clause_of ks) → clauses_faults g ks ≡ []
plain_none g s [] gives h = refl
plain_none g s (k ∷ ks) gives h =
    both_none
    (truth_faults g k.says)
    (clauses_faults g ks)
    (formula_none g s k.says gives (all_head (λ z. IsFormula s z.says × HasNoOld z.says) (m.clause_of k) (map m.clause_of ks) h).0)
    (plain_none g s ks gives (all_tail (λ z. IsFormula s z.says × HasNoOld z.says) (m.clause_of k) (map m.clause_of ks) h))

said_none : (g : Scope) (s : Sig) (ks : List r.Clause) → Gives g s → All (λ k. IsFormula s k.says) (map m.clause_of ks) → clauses_faults g ks ≡ []
said_none g s [] gives h = refl
said_none g s (k ∷ ks) gives h =
    both_none
    (truth_faults g k.says)
    (clauses_faults g ks)
    (formula_none g s k.says gives (all_head (λ z. IsFormula s z.says) (m.clause_of k) (map m.clause_of ks) h))
    (said_none g s ks gives (all_tail (λ z. IsFormula s z.says) (m.clause_of k) (map m.clause_of ks) h))

-- ---- written types of declarations

module _ (n : ℕ → v.Ty) where
  abbrev named : ℕ → Kind
  named k = Some (n k)

  declared_none : (ds : List r.Declared) → DeclaredWell n ds → declared_faults named ds ≡ []
  declared_none [] h = refl
  declared_none (c ∷ ds) h =
      both_none (type_faults named c.ty) (declared_faults named ds) (kept_none n c.ty (all_head (λ z. HasIndices n z.ty) c ds h)) (declared_none ds (all_tail (λ z. HasIndices n z.ty) c ds h))

  declared_kinds_are : (ds : List r.Declared) → DeclaredWell n ds → declared_kinds named ds ≡ map Some (w.types_of n ds)
  declared_kinds_are [] h = refl
  declared_kinds_are (c ∷ ds) h =
      ap (λ (k : Kind). k ∷ declared_kinds named ds) (kept_kind n c.ty (all_head (λ z. HasIndices n z.ty) c ds h))
      ∙ ap (λ (l : List Kind). Some (m.type_in n c.ty) ∷ l) (declared_kinds_are ds (all_tail (λ z. HasIndices n z.ty) c ds h))

  decls_are : (ds : List r.Declared) → types_of (map (m.decl_of n) ds) ≡ w.types_of n ds
  decls_are [] = refl
  decls_are (c ∷ ds) = ap (λ (l : List v.Ty). m.type_in n c.ty ∷ l) (decls_are ds)

  sides_are : (ds : List r.Declared) → map kind_in (declared_sides named ds) ≡ declared_kinds named ds
  sides_are [] = refl
  sides_are (c ∷ ds) = ap (λ (l : List Kind). declared_kind named c ∷ l) (sides_are ds)

  synonym_none : (o : Option r.Ty) → SynonymWell n o → synonym_faults named o ≡ []
  synonym_none None h = refl
  synonym_none (Some t) h = kept_none n t h

  synonyms_none : (ds : List r.TypeName) → All (λ c. SynonymWell n c.synonym) ds → synonyms_faults named ds ≡ []
  synonyms_none [] h = refl
  synonyms_none (c ∷ ds) h =
      both_none (synonym_faults named c.synonym) (synonyms_faults named ds) (synonym_none c.synonym (all_head (λ z. SynonymWell n z.synonym) c ds h)) (synonyms_none ds (all_tail (λ z. SynonymWell n z.synonym) c ds h))

  consts_none : (cs : List r.Const) → All (λ c. HasIndices n c.ty) cs → consts_faults named cs ≡ []
  consts_none [] h = refl
  consts_none (c ∷ cs) h =
      both_none (type_faults named c.ty) (consts_faults named cs) (kept_none n c.ty (all_head (λ z. HasIndices n z.ty) c cs h)) (consts_none cs (all_tail (λ z. HasIndices n z.ty) c cs h))

  written_none : (ts : List r.Ty) → All (HasIndices n) ts → written_faults named ts ≡ []
  written_none [] h = refl
  written_none (t ∷ ts) h =
      both_none (type_faults named t) (written_faults named ts) (kept_none n t (all_head (HasIndices n) t ts h)) (written_none ts (all_tail (HasIndices n) t ts h))

  functions_none : (fs : List r.Fun) → All (λ f. All (HasIndices n) f.params × HasIndices n f.result) fs → functions_faults named fs ≡ []
  functions_none [] h = refl
  functions_none (f ∷ fs) h =
      let own = all_head (λ z. All (HasIndices n) z.params × HasIndices n z.result) f fs h in
      both_none
      (shape_faults named f)
      (functions_faults named fs)
      (both_none (written_faults named f.params) (type_faults named f.result) (written_none f.params own.0) (kept_none n f.result own.1))
      (functions_none fs (all_tail (λ z. All (HasIndices n) z.params × HasIndices n z.result) f fs h))

  procedures_none : (qs : List r.Proc) → All (λ y. DeclaredWell n y.params × DeclaredWell n y.results) qs → procedures_faults named qs ≡ []
  procedures_none [] h = refl
  procedures_none (y ∷ qs) h =
      let own = all_head (λ z. DeclaredWell n z.params × DeclaredWell n z.results) y qs h in
      both_none
      (two_lists_faults named y.params y.results)
      (procedures_faults named qs)
      (both_none (declared_faults named y.params) (declared_faults named y.results) (declared_none y.params own.0) (declared_none y.results own.1))
      (procedures_none qs (all_tail (λ z. DeclaredWell n z.params × DeclaredWell n z.results) y qs h))

implementations_none : (p : r.Program) (ms : List r.Impl) → All (KeepsImplementation p) ms → implementations_faults (λ k. Some (m.named_of p.types k)) ms ≡ []
implementations_none p [] h = refl
implementations_none p (k ∷ ms) h =
    let n = m.named_of p.types in
    let named = λ (j : ℕ). Some (n j) in
    let own = all_head (KeepsImplementation p) k ms h in
    both_none
    (frame_faults named k.params k.results k.locals)
    (implementations_faults named ms)
    (both_none (two_lists_faults named k.params k.results) (declared_faults named k.locals) (both_none (declared_faults named k.params) (declared_faults named k.results) (declared_none n k.params own.params) (declared_none n k.results own.results)) (declared_none n k.locals own.locals))
    (implementations_none p ms (all_tail (KeepsImplementation p) k ms h))

-- ---- programs

has_types : (p : r.Program) → KeepsTypes p → HasTypes (λ k. Some (m.named_of p.types k)) p
has_types p h =
    let n = m.named_of p.types in
    record {
      stands = λ t e. kind_means (λ k. Some (n k)) n t (λ j c. refl) e;
      constants = ap is_none (consts_none n p.constants h.constants);
      globals = ap is_none (declared_none n p.globals h.globals);
      functions = ap is_none (functions_none n p.functions h.functions);
      procedures = ap is_none (procedures_none n p.procedures h.procedures);
      implementations = ap is_none (implementations_none p p.implementations h.implementations);
    }

some_proc : (a b : x.Proc) → Some a ≡ Some b → a ≡ b
some_proc a b e = cc

module _ (p : r.Program) (h : KeepsTypes p) where
  abbrev n : ℕ → v.Ty
  n = m.named_of p.types

  abbrev names : ℕ → Kind
  names k = Some (m.named_of p.types k)

  abbrev scope : Scope
  scope = scope_in (λ k. Some (m.named_of p.types k)) p

  abbrev program : x.Prog
  program = m.meaning_of p

  -- ---- functions
  one_body : (f : r.Fun) → All (HasIndices n) f.params × HasIndices n f.result → ((e : x.Ex) → (m.fun_of n f).body ≡ Some e → HasType e (body_sig program (m.fun_of n f)) (m.fun_of n f).result × IsLinear e) → body_faults scope (function_shape names f) f.body ≡ []
  one_body f t b = by f.body refl
    where
      by : (o : Option r.Ex) → f.body ≡ o → body_faults (scope_in (λ k. Some (m.named_of p.types k)) p) (function_shape (λ k. Some (m.named_of p.types k)) f) o ≡ []
      by None e = refl
      by (Some c) e =
          let named = λ (k : ℕ). Some (m.named_of p.types k) in
          let typed = b (m.ex_of c) (ap m.body_of e) in
          let params = written_are named (m.named_of p.types) (has_types p h).stands f.params (ap is_none (written_none (m.named_of p.types) f.params t.0)) in
          let g = without_globals (scope_in named p) (function_shape named f).params in
          wanted_none g (body_sig (m.meaning_of p) (m.fun_of (m.named_of p.types) f)) c (m.type_in (m.named_of p.types) f.result) (kinds.kind_in named f.result) (kept_kind (m.named_of p.types) f.result t.1) (gives_by g (body_sig (m.meaning_of p) (m.fun_of (m.named_of p.types) f)) (matches_body named p (has_types p h) (function_shape named f).params (m.fun_of (m.named_of p.types) f) params)) typed.0 typed.1

  bodies_none : (fs : List r.Fun) → All (λ f. All (HasIndices n) f.params × HasIndices n f.result) fs → ((k : ℕ) (fn : x.Fun) (e : x.Ex) → slice_get (map (m.fun_of n) fs) k ≡ Some fn → fn.body ≡ Some e → HasType e (body_sig program fn) fn.result × IsLinear e) → bodies_faults names scope fs ≡ []
  bodies_none [] t b = refl
  bodies_none (f ∷ fs) t b =
      both_none
      (body_faults scope (function_shape names f) f.body)
      (bodies_faults names scope fs)
      (one_body f (all_head (λ z. All (HasIndices n) z.params × HasIndices n z.result) f fs t) (λ e q. b 0 (m.fun_of n f) e refl q))
      (bodies_none fs (all_tail (λ z. All (HasIndices n) z.params × HasIndices n z.result) f fs t) (λ k fn e i q. b (suc k) fn e i q))

  -- ---- procedures
  one_procedure : (y : r.Proc) → DeclaredWell n y.params × DeclaredWell n y.results → IsTypedProc program (m.proc_of n y) → specification_faults names scope y ≡ []
  one_procedure y t i =
      let kinds = declared_kinds_are n y.params t.0 ∙ ap (map Some) (sym (decls_are n y.params)) in
      let more = declared_kinds_are n y.results t.1 ∙ ap (map Some) (sym (decls_are n y.results)) in
      let before = with_frame scope (declared_kinds names y.params) in
      let behind = with_frame scope (frame_kinds names y.params y.results []) in
      let frame = short_frame_is (map (m.decl_of n) y.params) (map (m.decl_of n) y.results) (declared_kinds names y.params) (declared_kinds names y.results) kinds more in
      both_none
      (clauses_faults before y.requires_)
      (clauses_faults behind y.ensures_)
      (plain_none before (sig_in program (map (m.decl_of n) y.params)) y.requires_ (gives_by before (sig_in program (map (m.decl_of n) y.params)) (matches_frame names p (has_types p h) (declared_kinds names y.params) (map (m.decl_of n) y.params) kinds)) i.requires_)
      (said_none behind (sig_in program (map (m.decl_of n) y.params ++ map (m.decl_of n) y.results)) y.ensures_ (gives_by behind (sig_in program (map (m.decl_of n) y.params ++ map (m.decl_of n) y.results)) (matches_frame names p (has_types p h) (frame_kinds names y.params y.results []) (map (m.decl_of n) y.params ++ map (m.decl_of n) y.results) frame)) i.ensures_)

  specifications_none : (qs : List r.Proc) → All (λ y. DeclaredWell n y.params × DeclaredWell n y.results) qs → All (IsTypedProc program) (map (m.proc_of n) qs) → specifications_faults names scope qs ≡ []
  specifications_none [] t i = refl
  specifications_none (y ∷ qs) t i =
      both_none
      (specification_faults names scope y)
      (specifications_faults names scope qs)
      (one_procedure y (all_head (λ z. DeclaredWell n z.params × DeclaredWell n z.results) y qs t) (all_head (IsTypedProc program) (m.proc_of n y) (map (m.proc_of n) qs) i))
      (specifications_none qs (all_tail (λ z. DeclaredWell n z.params × DeclaredWell n z.results) y qs t) (all_tail (IsTypedProc program) (m.proc_of n y) (map (m.proc_of n) qs) i))

  -- ---- implementations
  procedure_well : (j : ℕ) (y : r.Proc) → slice_get p.procedures j ≡ Some y → DeclaredWell n y.params × DeclaredWell n y.results
  procedure_well j y e = all_at (λ (z : r.Proc). DeclaredWell n z.params × DeclaredWell n z.results) p.procedures j y h.procedures e

  list_matches : (o : Pos) (ms qs : List r.Declared) → DeclaredWell n ms → DeclaredWell n qs → w.types_of n ms ≡ w.types_of n qs → matched_faults o (declared_kinds names qs) (declared_sides names ms) ≡ []
  list_matches o ms qs a b e =
      ap (λ (l : List Kind). matched_faults o l (declared_sides names ms)) (declared_kinds_are n qs b)
      ∙ all_match o (w.types_of n qs) (declared_sides names ms) (sides_are n ms ∙ (declared_kinds_are n ms a ∙ ap (map Some) e))

  one_implementation : (k : r.Impl) → KeepsImplementation p k → IsTypedImpl program (m.impl_of n k) → implementation_faults names scope k ≡ []
  one_implementation k a i =
      let y = a.procedure in
      let well = procedure_well k.procedure y a.is_there in
      let there : slice_get program.procedures k.procedure ≡ Some (m.proc_of n y) = slice_get_map (m.proc_of n) p.procedures k.procedure y a.is_there in
      let same : i.procedure ≡ m.proc_of n y = some_proc i.procedure (m.proc_of n y) (sym i.is_there ∙ there) in
      let shape : slice_get scope.procedures k.procedure ≡ Some (procedure_shape names y) = slice_get_map (procedure_shape names) p.procedures k.procedure y a.is_there in
      let matching =
      both_none
      (matched_faults k.name.pos (declared_kinds names y.params) (declared_sides names k.params))
      (matched_faults k.name.pos (declared_kinds names y.results) (declared_sides names k.results))
      (list_matches k.name.pos k.params y.params a.params well.0 a.same_params)
      (list_matches k.name.pos k.results y.results a.results well.1 a.same_results) in
      let first = declared_kinds_are n k.params a.params ∙ (ap (map Some) a.same_params ∙ ap (map Some) (sym (decls_are n y.params))) in
      let second = declared_kinds_are n k.results a.results ∙ (ap (map Some) a.same_results ∙ ap (map Some) (sym (decls_are n y.results))) in
      let third = declared_kinds_are n k.locals a.locals ∙ ap (map Some) (sym (decls_are n k.locals)) in
      let frame = frame_kinds names k.params k.results k.locals in
      let whole = frame_is (map (m.decl_of n) y.params) (map (m.decl_of n) y.results) (map (m.decl_of n) k.locals) (declared_kinds names k.params) (declared_kinds names k.results) (declared_kinds names k.locals) first second third in
      let about = around_in p y k in
      let g = with_frame scope frame in
      let gives = around_by g about (matches_around names p (has_types p h) frame about refl (matches_frame names p (has_types p h) frame about.variables whole)) in
      let body : IsTypedStatement about [] [] (m.sts_of k.body) = subst (λ (z : x.Proc). IsTypedStatement (around program z (m.impl_of n k)) [] [] (m.sts_of k.body)) same i.body in
      both_none
      (matching_faults names (slice_get scope.procedures k.procedure) k)
      (sts_faults g k.body)
      (ap (λ (o : Option Shape). matching_faults names o k) shape ∙ matching)
      (body_fine g about k.body gives body a.even)

  impls_none : (ms : List r.Impl) → All (KeepsImplementation p) ms → All (IsTypedImpl program) (map (m.impl_of n) ms) → impls_faults names scope ms ≡ []
  impls_none [] a i = refl
  impls_none (k ∷ ms) a i =
      both_none
      (implementation_faults names scope k)
      (impls_faults names scope ms)
      (one_implementation k (all_head (KeepsImplementation p) k ms a) (all_head (IsTypedImpl program) (m.impl_of n k) (map (m.impl_of n) ms) i))
      (impls_none ms (all_tail (KeepsImplementation p) k ms a) (all_tail (IsTypedImpl program) (m.impl_of n k) (map (m.impl_of n) ms) i))

  no_types : types_part names p ≡ []
  no_types =
      both_none (synonyms_faults names p.types) _ (synonyms_none n p.types h.synonyms)
      (both_none (consts_faults names p.constants) _ (consts_none n p.constants h.constants)
      (both_none (declared_faults names p.globals) _ (declared_none n p.globals h.globals)
      (both_none (functions_faults names p.functions) _ (functions_none n p.functions h.functions)
      (both_none (procedures_faults names p.procedures) (implementations_faults names p.implementations) (procedures_none n p.procedures h.procedures) (implementations_none p p.implementations h.implementations)))))

  no_bodies : bodies_part names scope p ≡ []
  no_bodies =
      both_none (bodies_faults names scope p.functions) _ (bodies_none p.functions h.functions (λ k fn e i q. (h.typed.bodies k fn e i q, (h.typed.plain_bodies k fn e i q).0)))
      (both_none (truths_faults (without_globals scope []) p.axioms) _ (truths_none (without_globals scope []) (axiom_sig program) p.axioms (gives_by (without_globals scope []) (axiom_sig program) (matches_axioms names p (has_types p h))) h.typed.axioms)
      (both_none (specifications_faults names scope p.procedures) (impls_faults names scope p.implementations) (specifications_none p.procedures h.procedures h.typed.procedures) (impls_none p.implementations h.implementations h.typed.implementations)))

pub kept_well : (p : r.Program) → KeepsTypes p → IsWellTyped p
kept_well p h =
    record {
      named = λ k. Some (m.named_of p.types k);
      acyclic = h.acyclic;
      unfolded = kept_unfolded p.types h.acyclic h.synonyms;
      none = both_none (types_part (λ k. Some (m.named_of p.types k)) p) (bodies_part (λ k. Some (m.named_of p.types k)) (scope_in (λ k. Some (m.named_of p.types k)) p) p) (no_types p h) (no_bodies p h);
    }
