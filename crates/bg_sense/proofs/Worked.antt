-- Worked programs keep the rules of types and of names.
use Rattle.std.proofs.Common.{◌≡◌, ℕ, ◌<◌, true, false, ◌++◌, List, [], ◌∷◌, length, map, Some, refl, sym, ap, ◌∙◌, subst, arith, inl, inr}
use Rattle.std.specs.Prelude.{◌==◌, slice_get, All, Contains}
use Rattle.std.proofs.lemmas.List.Elements.{All-nil, All-cons}
use Rattle.std.proofs.lemmas.Bool.{eq-eqb}
use Rattle.bg_ast.specs.Values.{IntTy}
use Rattle.bg_ast.specs.Syntax.{Global, Local, Ex, Clause, Decl, Fun, Proc, Impl, Skip, Prog}
use Rattle.bg_sense.specs.Typing.{Sig, sig_in}
use Rattle.bg_sense.specs.Typed.{IsFormula, HasNoOld, AreTypedDecls, Around, MayChange, sig_around, around, IsTyped, IsTypedProc, IsTypedImpl}
use Rattle.bg_sense.specs.Resolved.{AreDifferent, Rise, IsResolved, HasCandidate, clauses_in, clauses_of, labels_in}
use Rattle.bg_sense.specs.Recursion.{HasNoRecursion}
use Rattle.bg_sense.specs.Examples.{int_var, count, forgetful}
use Rattle.bg_sense.proofs.Members.{In, in_at, member}

nothing_in : {A : Type 0} (x : A) → Contains [] x → ⊥
nothing_in x c = let l = c.1 in absurd (omega arith)

no_decls : (g : Sig) → AreTypedDecls g []
no_decls g = All-nil (λ (d : Decl). All (IsFormula g) d.wheres)

an_int : (g : Sig) → AreTypedDecls g (int_var ∷ [])
an_int g =
    All-cons (λ (d : Decl). All (IsFormula g) d.wheres) int_var [] (All-nil (IsFormula g)) (no_decls g)

abbrev Each : {A : Type 0} → (A → Type 0) → List A → Type 0
Each P [] = Unit {0}
Each P (x ∷ xs) = P x × Each P xs

each : {A : Type 0} (P : A → Type 0) (xs : List A) → Each P xs → All P xs
each P [] h = All-nil P
each P (x ∷ xs) h = All-cons P x xs h.0 (each P xs h.1)

-- what holds of each is what holds of each member
of_each : {A : Type 0} (P : A → Type 0) (xs : List A) → Each P xs → (x : A) → In xs x → P x
of_each P [] h x i = absurd i
of_each P (y ∷ xs) h x (inl e) = subst P e h.0
of_each P (y ∷ xs) h x (inr i) = of_each P xs h.1 x i

abbrev first_proc : List Proc → Proc
first_proc [] = record { params = []; results = []; modifies = []; requires_ = []; ensures_ = [] }
first_proc (q ∷ qs) = q

abbrev first_impl : List Impl → Impl
first_impl [] = record { procedure = 0; locals = []; body = Skip }
first_impl (m ∷ ms) = m

abbrev impl_of : Prog → Impl
impl_of p = first_impl p.implementations

-- a clause of a procedure, as it is seen with these declarations
abbrev Says : Prog → List Decl → Clause → Type 0
Says p ds k = IsFormula (sig_in p ds) k.says

abbrev Before : Prog → List Decl → Clause → Type 0
Before p ds k = IsFormula (sig_in p ds) k.says × HasNoOld k.says

abbrev counts : Proc
counts = first_proc count.procedures

abbrev in_count : Around
in_count = around count counts (impl_of count)

count_proc : IsTypedProc count counts
count_proc =
    record {
      params = an_int (sig_in count counts.params);
      results = an_int (sig_in count (counts.params ++ counts.results));
      requires_ = each (Before count counts.params) counts.requires_ ((((refl, refl, refl), (tt, tt, tt)), (tt, tt)), tt);
      ensures_ = each (Says count (counts.params ++ counts.results)) counts.ensures_ (((refl, (IntTy, refl, refl)), (tt, tt, tt)), tt);
    }

count_impl : IsTypedImpl count (impl_of count)
count_impl =
    record {
      procedure = counts;
      is_there = refl;
      locals = no_decls (sig_around in_count);
      body = (
        ((nothing_in (Local 1), tt), each (MayChange in_count) (Local 1 ∷ []) ((omega arith, omega arith), tt), (refl, refl), (tt, tt)),
        (
          (
            ((refl, refl, refl), (tt, tt, tt)),
            each (Says count in_count.variables) (clauses_in (impl_of count).body) (((refl, refl, refl), (tt, tt, tt)), (((refl, refl, refl), (tt, tt, tt)), (((refl, refl, refl), (tt, tt, tt)), tt))),
            (
              ((nothing_in (Local 1), tt), each (MayChange in_count) (Local 1 ∷ []) ((omega arith, omega arith), tt), ((refl, refl, refl), refl), ((tt, tt, tt), tt)),
              tt,
            ),
          ),
          tt,
        ),
      );
    }

pub count_typed : IsTyped count
count_typed =
    record {
      globals = no_decls (sig_in count []);
      axioms = All-nil (λ (e : Ex). IsFormula (sig_in (record count { globals = [] }) []) e × HasNoOld e);
      bodies = λ f fn e a b. absurd (let bad : ⊥ = cc in bad);
      plain_bodies = λ f fn e a b. absurd (let bad : ⊥ = cc in bad);
      procedures = each (IsTypedProc count) count.procedures (count_proc, tt);
      implementations = each (IsTypedImpl count) count.implementations (count_impl, tt);
    }

-- numbers that differ by their tests
abbrev Unlike : ℕ → List ℕ → Type 0
Unlike n [] = Unit {0}
Unlike n (m ∷ ms) = ((m == n) ≡ false) × Unlike n ms

unlike : (n : ℕ) (ms : List ℕ) → Unlike n ms → Contains ms n → ⊥
unlike n ms h c = off ms h (member ms n c)
  where
    off : (ms : List ℕ) → Unlike n ms → In ms n → ⊥
    off [] h i = i
    off (m ∷ ms) h (inl e) = let yes : (m == n) ≡ true = eq-eqb m n e in let no = h.0 in let bad : ⊥ = cc in bad
    off (m ∷ ms) h (inr i) = off ms h.1 i

abbrev AllUnlike : List ℕ → Type 0
AllUnlike [] = Unit {0}
AllUnlike (n ∷ ns) = Unlike n ns × AllUnlike ns

all_unlike : (ns : List ℕ) → AllUnlike ns → AreDifferent ns
all_unlike [] h = tt
all_unlike (n ∷ ns) h = (unlike n ns h.0, all_unlike ns h.1)

candidates_fit : (p : Prog) → Each (λ (k : Clause). HasCandidate p.candidates k.candidate k) (clauses_of p) → (k : Clause) → Contains (clauses_of p) k → HasCandidate p.candidates k.candidate k
candidates_fit p h k c =
    of_each (λ (k : Clause). HasCandidate p.candidates k.candidate k) (clauses_of p) h k (member (clauses_of p) k c)

modifies_rise : (p : Prog) → Each (λ (q : Proc). Rise 0 (length p.globals) q.modifies) p.procedures → (k : ℕ) (q : Proc) → slice_get p.procedures k ≡ Some q → Rise 0 (length p.globals) q.modifies
modifies_rise p h k q e =
    of_each (λ (q : Proc). Rise 0 (length p.globals) q.modifies) p.procedures h q (in_at p.procedures k q e)

pub count_resolved : IsResolved count
count_resolved =
    record {
      implemented = each (λ (m : Impl). m.procedure < length count.procedures) count.implementations (omega arith, tt);
      called = All-nil (λ (k : ℕ). k < length count.procedures);
      clauses = all_unlike (map (λ k. k.id) (clauses_of count)) ((refl, (refl, (refl, (refl, tt)))), ((refl, (refl, (refl, tt))), ((refl, (refl, tt)), ((refl, tt), (tt, tt)))));
      calls = tt;
      branches = (nothing_in 0, tt);
      labels = each (λ (m : Impl). AreDifferent (labels_in m.body)) count.implementations (tt, tt);
      modifies = modifies_rise count (tt, tt);
      candidates = candidates_fit count (tt, (tt, ((omega arith, refl), ((omega arith, refl), ((omega arith, refl), tt)))));
    }

pub no_functions : (p : Prog) → p.functions ≡ [] → HasNoRecursion p
no_functions p e =
    record {
      rank = λ f. f;
      is_place = λ f fn a. absurd (empty f fn (ap (λ fs. slice_get fs f) (sym e) ∙ a));
      falls = λ f fn x a b. absurd (empty f fn (ap (λ fs. slice_get fs f) (sym e) ∙ a));
    }
  where
    empty : (f : ℕ) (fn : Fun) → slice_get [] f ≡ Some fn → ⊥
    empty f fn a = let bad : ⊥ = cc in bad

abbrev bumps : Proc
bumps = record { params = []; results = []; modifies = 0 ∷ []; requires_ = []; ensures_ = [] }

forgetful_proc : IsTypedProc forgetful bumps
forgetful_proc =
    record {
      params = no_decls (sig_in forgetful []);
      results = no_decls (sig_in forgetful []);
      requires_ = All-nil (Before forgetful []);
      ensures_ = All-nil (Says forgetful []);
    }

abbrev in_caller : Around
in_caller = around forgetful bumps (impl_of forgetful)

forgetful_impl : IsTypedImpl forgetful (impl_of forgetful)
forgetful_impl =
    record {
      procedure = bumps;
      is_there = refl;
      locals = an_int (sig_around in_caller);
      body = (
        ((nothing_in (Local 0), tt), each (MayChange in_caller) (Local 0 ∷ []) ((omega arith, omega arith), tt), (refl, refl), (tt, tt)),
        (
          (
            ((refl, refl, refl), (tt, tt, tt)),
            All-nil (Says forgetful in_caller.variables),
            (
              (bumps, (refl, (refl, (tt, (refl, (tt, (All-nil (MayChange in_caller), each (MayChange in_caller) (Global 0 ∷ []) ((0, omega arith, refl), tt)))))))),
              (
                ((nothing_in (Local 0), tt), each (MayChange in_caller) (Local 0 ∷ []) ((omega arith, omega arith), tt), ((refl, refl, refl), refl), ((tt, tt, tt), tt)),
                tt,
              ),
            ),
          ),
          ((refl, ((refl, (IntTy, refl, refl)), (tt, tt, tt))), tt),
        ),
      );
    }

pub forgetful_typed : IsTyped forgetful
forgetful_typed =
    record {
      globals = an_int (sig_in forgetful []);
      axioms = All-nil (λ (e : Ex). IsFormula (sig_in (record forgetful { globals = [] }) []) e × HasNoOld e);
      bodies = λ f fn e a b. absurd (let bad : ⊥ = cc in bad);
      plain_bodies = λ f fn e a b. absurd (let bad : ⊥ = cc in bad);
      procedures = each (IsTypedProc forgetful) forgetful.procedures (forgetful_proc, (forgetful_proc, tt));
      implementations = each (IsTypedImpl forgetful) forgetful.implementations (forgetful_impl, tt);
    }

pub forgetful_resolved : IsResolved forgetful
forgetful_resolved =
    record {
      implemented = each (λ (m : Impl). m.procedure < length forgetful.procedures) forgetful.implementations (omega arith, tt);
      called = each (λ (k : ℕ). k < length forgetful.procedures) (0 ∷ []) (omega arith, tt);
      clauses = (nothing_in 0, tt);
      calls = (nothing_in 1, tt);
      branches = (nothing_in 0, tt);
      labels = each (λ (m : Impl). AreDifferent (labels_in m.body)) forgetful.implementations (tt, tt);
      modifies = modifies_rise forgetful ((omega arith, omega arith, tt), ((omega arith, omega arith, tt), tt));
      candidates = candidates_fit forgetful (tt, tt);
    }
