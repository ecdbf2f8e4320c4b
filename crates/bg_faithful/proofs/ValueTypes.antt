-- Types of which each map has an index, and what a program over values declares.
use Rattle.std.proofs.Common.{◌≡◌, ℕ, zero, suc, Bool, true, List, [], ◌∷◌, ◌++◌, map, Option, Some, refl, subst}
use Rattle.std.specs.Prelude.{slice_get}
use Rattle.std.specs.List.{list_all}
use Rattle.bg_ast.specs.Values.{Ty, IntTy, BoolTy, UserTy, MapTy}
use Rattle.bg_ast.specs.Syntax.{Var, Global, Local, Clause, Decl, Proc, Prog}
use Rattle.bg_sense.specs.Types.{types_of}
use Rattle.bg_sense.specs.Variables.{type_in}
use Rattle.bg_sense.proofs.Bools.{and_left, and_right}
use Rattle.bg_passive.specs.Incarnations.{ty_of}
use Rattle.bg_fits.specs.Valued.{is_declared, is_empty, clause_passes, decl_passes, decls_pass, proc_passes, is_value_type, any_ex}

abbrev pub IsValueType : Ty → Type 0
IsValueType t = is_value_type t ≡ true

abbrev pub AreValueTypes : List Ty → Type 0
AreValueTypes [] = Unit {0}
AreValueTypes (t ∷ ts) = IsValueType t × AreValueTypes ts

-- `int` or `bool`
abbrev pub IsBasic : Ty → Type 0
IsBasic IntTy = Unit {0}
IsBasic BoolTy = Unit {0}
IsBasic (UserTy u) = ⊥
IsBasic (MapTy ks t) = ⊥

abbrev pub AreBasic : List Ty → Type 0
AreBasic [] = Unit {0}
AreBasic (t ∷ ts) = IsBasic t × AreBasic ts

pub types_append : (ts us : List Ty) → AreValueTypes ts → AreValueTypes us → AreValueTypes (ts ++ us)
types_append [] us h k = k
types_append (t ∷ ts) us h k = (h.0, types_append ts us h.1 k)

pub types_map : (f : Var → Ty) → ((x : Var) → IsValueType (f x)) → (xs : List Var) → AreValueTypes (map f xs)
types_map f h [] = tt
types_map f h (x ∷ xs) = (h x, types_map f h xs)

pub decls_valued : (ds : List Decl) → decls_pass is_value_type any_ex ds ≡ true → AreValueTypes (types_of ds)
decls_valued [] h = tt
decls_valued (d ∷ ds) h =
    let here = and_left (decl_passes is_value_type any_ex d) (decls_pass is_value_type any_ex ds) h in
    (and_left (is_value_type d.ty) (list_all any_ex d.wheres) here, decls_valued ds (and_right (decl_passes is_value_type any_ex d) (decls_pass is_value_type any_ex ds) h))

-- a declaration that isn't there counts as one of a number
decl_valued : (ds : List Decl) (x : ℕ) → AreValueTypes (types_of ds) → IsValueType (type_in (slice_get ds x))
decl_valued [] x h = refl
decl_valued (d ∷ ds) zero h = h.0
decl_valued (d ∷ ds) (suc x) h = decl_valued ds x h.1

pub vars_valued : (p : Prog) (ds : List Decl) → AreValueTypes (types_of p.globals) → AreValueTypes (types_of ds) → (x : Var) → IsValueType (ty_of p ds x)
vars_valued p ds g h (Global x) = decl_valued p.globals x g
vars_valued p ds g h (Local x) = decl_valued ds x h

-- ---- clauses that candidates guard

-- there is no candidate, or it is one of the first n
abbrev pub IsDeclared : ℕ → Option ℕ → Type 0
IsDeclared n b = is_declared n b ≡ true

-- each candidate that guards one of these clauses is one of the first n
abbrev pub FitClauses : ℕ → List Clause → Type 0
FitClauses n [] = Unit {0}
FitClauses n (k ∷ ks) = IsDeclared n k.candidate × FitClauses n ks

module _ (n : ℕ) where
  pub fit_clause : (k : Clause) → clause_passes n any_ex k ≡ true → IsDeclared n k.candidate
  fit_clause k h = and_left (is_declared n k.candidate) (any_ex k.says) h

  pub fit_clauses : (ks : List Clause) → list_all (clause_passes n any_ex) ks ≡ true → FitClauses n ks
  fit_clauses [] h = tt
  fit_clauses (k ∷ ks) h =
      (fit_clause k (and_left (clause_passes n any_ex k) (list_all (clause_passes n any_ex) ks) h), fit_clauses ks (and_right (clause_passes n any_ex k) (list_all (clause_passes n any_ex) ks) h))

-- ---- procedures

-- parameters and results are of such types, and each candidate that guards a clause of the specification is one of the first n
pub record ValueProc (n : ℕ) (q : Proc) : Type 0 where
  pub params : AreValueTypes (types_of q.params)
  pub results : AreValueTypes (types_of q.results)
  pub requires_ : FitClauses n q.requires_
  pub ensures_ : FitClauses n q.ensures_

pub value_proc : (n : ℕ) (q : Proc) → proc_passes n is_value_type any_ex q ≡ true → ValueProc n q
value_proc n q h =
    let h1 = and_right (decls_pass is_value_type any_ex q.params) _ h in
    let h2 = and_right (decls_pass is_value_type any_ex q.results) _ h1 in
    record {
      params = decls_valued q.params (and_left (decls_pass is_value_type any_ex q.params) _ h);
      results = decls_valued q.results (and_left (decls_pass is_value_type any_ex q.results) _ h1);
      requires_ = fit_clauses n q.requires_ (and_left (list_all (clause_passes n any_ex) q.requires_) _ h2);
      ensures_ = fit_clauses n q.ensures_ (and_right (list_all (clause_passes n any_ex) q.requires_) _ h2);
    }

-- each of a list passes
pub passes_at : {A : Type 0} (f : A → Bool) (xs : List A) (k : ℕ) (x : A) → list_all f xs ≡ true → slice_get xs k ≡ Some x → f x ≡ true
passes_at f [] k x h e = absurd (let bad : ⊥ = cc in bad)
passes_at f (y ∷ ys) zero x h e = let same : y ≡ x = cc in subst (λ z. f z ≡ true) same (and_left (f y) (list_all f ys) h)
passes_at f (y ∷ ys) (suc k) x h e = passes_at f ys k x (and_right (f y) (list_all f ys) h) e

pub none_there : {A : Type 0} (xs : List A) → is_empty xs ≡ true → xs ≡ []
none_there [] e = refl
none_there (x ∷ xs) e = absurd (let bad : ⊥ = cc in bad)
