-- A program over values stays one: guesses change no types, and their candidates are the program's.
use Rattle.std.proofs.Common.{◌≡◌, ℕ, suc, ◌+◌, Bool, true, ◌&&◌, List, [], ◌∷◌, ◌++◌, map, length, Option, Some, None, refl, arith, inl, inr}
use Rattle.std.proofs.lemmas.Bool.Decides.{nat_tests}
use Rattle.std.specs.Prelude.{All, Contains, get_or}
use Rattle.std.specs.List.{list_all}
use Rattle.std.proofs.lemmas.List.Elements.{All-nil, All-cons, All-head, All-tail}
use Rattle.bg_text.specs.Types.{All as Each}
use Rattle.bg_ast.specs.Values.{Ty}
use Rattle.bg_ast.specs.Resolved as r
use Rattle.bg_ast.specs.Syntax as s
use Rattle.bg_ast.specs.Meaning.{proc_of, impl_of, named_of, meaning_of}
use Rattle.bg_sense.specs.Resolved.{clauses_in, specified, in_bodies, clauses_of, HasCandidate, IsResolved}
use Rattle.bg_sense.proofs.Members.{In, contained}
use Rattle.bg_sense.proofs.Bools.{and_left, and_right, both}
use Rattle.bg_fits.specs.Valued.{is_declared, is_empty, exs_pass, fun_passes, clause_passes, guard_passes, st_passes, decls_pass, proc_passes, impl_passes, is_value_type, any_ex, is_over_values}
use Rattle.bg_guess.specs.Guessed.{Survey, survey_of, impl_count, add_at, next_proc, loop_counts, loop_starts, above_all, guessed_procs, guessed_impls, guessed}
use Rattle.bg_guess.proofs.ResolvedWhole.{resolved}

-- the candidate of a clause is there
abbrev pub Declared : ℕ → s.Clause → Type 0
Declared n k = is_declared n k.candidate ≡ true

pub all_left : {A : Type 0} (P : A → Type 0) (xs ys : List A) → All P (xs ++ ys) → All P xs
all_left P [] ys h = All-nil P
all_left P (x ∷ xs) ys h = All-cons P x xs (All-head P x (xs ++ ys) h) (all_left P xs ys (All-tail P x (xs ++ ys) h))

pub all_right : {A : Type 0} (P : A → Type 0) (xs ys : List A) → All P (xs ++ ys) → All P ys
all_right P [] ys h = h
all_right P (x ∷ xs) ys h = all_right P xs ys (All-tail P x (xs ++ ys) h)

there : (n : ℕ) (o : Option ℕ) (k : s.Clause) → HasCandidate n o k → is_declared n o ≡ true
there n None k h = refl
there n (Some b) k h = let lt = h.0 in grind (arith, nat_tests)

pub all_declared : (n : ℕ) (ks : List s.Clause) → ((k : s.Clause) → Contains ks k → HasCandidate n k.candidate k) → All (Declared n) ks
all_declared n ks h = each ks (λ k i. h k (contained ks k i))
  where
    each : (ls : List s.Clause) → ((k : s.Clause) → In ls k → HasCandidate n k.candidate k) → All (Declared n) ls
    each [] g = All-nil (Declared n)
    each (k ∷ ls) g = All-cons (Declared n) k ls (there n k.candidate k (g k (inl refl))) (each ls (λ j i. g j (inr i)))

-- ---- what passes where the candidates of clauses are there

abbrev passes_in : ℕ → s.Clause → Bool
passes_in n = clause_passes n any_ex

clauses_pass : (n : ℕ) (ks : List s.Clause) → All (Declared n) ks → list_all (passes_in n) ks ≡ true
clauses_pass n [] d = refl
clauses_pass n (k ∷ ks) d =
    both (passes_in n k) (list_all (passes_in n) ks) (both (is_declared n k.candidate) true (All-head (Declared n) k ks d) refl) (clauses_pass n ks (All-tail (Declared n) k ks d))

values_pass : (es : s.Exs) → exs_pass any_ex es ≡ true
values_pass s.NoMore = refl
values_pass (s.More e es) = values_pass es

test_passes : (g : s.Guard) → guard_passes any_ex g ≡ true
test_passes s.Star = refl
test_passes (s.Test e) = refl

abbrev st_in : ℕ → s.St → Bool
st_in n = st_passes n any_ex

st_pass : (n : ℕ) (a : s.St) → All (Declared n) (clauses_in a) → st_in n a ≡ true
st_pass n s.Skip d = refl
st_pass n (s.Then a b) d =
    both (st_in n a) (st_in n b) (st_pass n a (all_left (Declared n) (clauses_in a) (clauses_in b) d)) (st_pass n b (all_right (Declared n) (clauses_in a) (clauses_in b) d))
st_pass n (s.Label l) d = refl
st_pass n (s.Assert k) d = both (is_declared n k.candidate) true (All-head (Declared n) k [] d) refl
st_pass n (s.Assume e) d = refl
st_pass n (s.Havoc xs) d = refl
st_pass n (s.Assign xs es) d = values_pass es
st_pass n (s.Invoke k) d = values_pass k.args
st_pass n (s.If j g a b) d =
    both (guard_passes any_ex g) (st_in n a && st_in n b) (test_passes g)
    (both (st_in n a) (st_in n b) (st_pass n a (all_left (Declared n) (clauses_in a) (clauses_in b) d)) (st_pass n b (all_right (Declared n) (clauses_in a) (clauses_in b) d)))
st_pass n (s.While j g ks a) d =
    both (guard_passes any_ex g) (list_all (passes_in n) ks && st_in n a) (test_passes g)
    (both (list_all (passes_in n) ks) (st_in n a) (clauses_pass n ks (all_left (Declared n) ks (clauses_in a) d)) (st_pass n a (all_right (Declared n) ks (clauses_in a) d)))
st_pass n (s.Break k) d = refl
st_pass n (s.Goto ls) d = refl
st_pass n s.Return d = refl

-- ---- procedures and implementations

abbrev decls_in : List s.Decl → Bool
decls_in = decls_pass is_value_type any_ex

-- each map among the types of a procedure's variables, and of an implementation's, has an index
abbrev pub ProcTyped : s.Proc → Type 0
ProcTyped q = (decls_in q.params ≡ true) × (decls_in q.results ≡ true)

abbrev pub ImplTyped : s.Impl → Type 0
ImplTyped m = decls_in m.locals ≡ true

abbrev proc_in : ℕ → s.Proc → Bool
proc_in n = proc_passes n is_value_type any_ex

abbrev impl_in : ℕ → s.Impl → Bool
impl_in n = impl_passes n is_value_type any_ex

procs_pass : (n : ℕ) (qs : List s.Proc) → Each ProcTyped qs → All (Declared n) (specified qs) → list_all (proc_in n) qs ≡ true
procs_pass n [] h d = refl
procs_pass n (q ∷ qs) h d =
    let rs = list_all (passes_in n) q.requires_ in
    let es = list_all (passes_in n) q.ensures_ in
    let behind = all_right (Declared n) q.requires_ (q.ensures_ ++ specified qs) d in
    both (proc_in n q) (list_all (proc_in n) qs)
    (both (decls_in q.params) (decls_in q.results && (rs && es)) h.0.0
    (both (decls_in q.results) (rs && es) h.0.1
    (both rs es (clauses_pass n q.requires_ (all_left (Declared n) q.requires_ (q.ensures_ ++ specified qs) d)) (clauses_pass n q.ensures_ (all_left (Declared n) q.ensures_ (specified qs) behind)))))
    (procs_pass n qs h.1 (all_right (Declared n) q.ensures_ (specified qs) behind))

impls_pass : (n : ℕ) (ms : List s.Impl) → Each ImplTyped ms → All (Declared n) (in_bodies clauses_in ms) → list_all (impl_in n) ms ≡ true
impls_pass n [] h d = refl
impls_pass n (m ∷ ms) h d =
    both (impl_in n m) (list_all (impl_in n) ms) (both (decls_in m.locals) (st_in n m.body) h.0 (st_pass n m.body (all_left (Declared n) (clauses_in m.body) (in_bodies clauses_in ms) d)))
    (impls_pass n ms h.1 (all_right (Declared n) (clauses_in m.body) (in_bodies clauses_in ms) d))

-- where a program's names are resolved, its procedures and implementations pass by their types
pub resolved_procs : (p : s.Prog) → IsResolved p → Each ProcTyped p.procedures → list_all (proc_in p.candidates) p.procedures ≡ true
resolved_procs p h t =
    procs_pass p.candidates p.procedures t (all_left (Declared p.candidates) (specified p.procedures) (in_bodies clauses_in p.implementations) (all_declared p.candidates (clauses_of p) h.candidates))

pub resolved_impls : (p : s.Prog) → IsResolved p → Each ImplTyped p.implementations → list_all (impl_in p.candidates) p.implementations ≡ true
resolved_impls p h t =
    impls_pass p.candidates p.implementations t (all_right (Declared p.candidates) (specified p.procedures) (in_bodies clauses_in p.implementations) (all_declared p.candidates (clauses_of p) h.candidates))

procs_typed : (n : ℕ) (qs : List s.Proc) → list_all (proc_in n) qs ≡ true → Each ProcTyped qs
procs_typed n [] h = tt
procs_typed n (q ∷ qs) h =
    let clauses = list_all (passes_in n) q.requires_ && list_all (passes_in n) q.ensures_ in
    let here = and_left (proc_in n q) (list_all (proc_in n) qs) h in (
      (and_left (decls_in q.params) (decls_in q.results && clauses) here, and_left (decls_in q.results) clauses (and_right (decls_in q.params) (decls_in q.results && clauses) here)),
      procs_typed n qs (and_right (proc_in n q) (list_all (proc_in n) qs) h),
    )

impls_typed : (n : ℕ) (ms : List s.Impl) → list_all (impl_in n) ms ≡ true → Each ImplTyped ms
impls_typed n [] h = tt
impls_typed n (m ∷ ms) h =
    (and_left (decls_in m.locals) (st_in n m.body) (and_left (impl_in n m) (list_all (impl_in n) ms) h), impls_typed n ms (and_right (impl_in n m) (list_all (impl_in n) ms) h))

-- ---- guesses change no types

pub procs_guessed : (named : ℕ → Ty) (v : Survey) (loops : List ℕ) (above b k : ℕ) (qs : List r.Proc) → Each ProcTyped (map (proc_of named) qs) → Each ProcTyped (map (proc_of named) (guessed_procs v loops above b k qs))
procs_guessed named v loops above b k [] h = tt
procs_guessed named v loops above b k (q ∷ qs) h =
    (h.0, procs_guessed named v loops above (next_proc v loops b k q) (suc k) qs h.1)

pub impls_guessed : (named : ℕ → Ty) (v : Survey) (qs : List r.Proc) (above : ℕ) (ns : List ℕ) (ms : List r.Impl) → Each ImplTyped (map (impl_of named) ms) → Each ImplTyped (map (impl_of named) (guessed_impls v qs above ns ms))
impls_guessed named v qs above ns [] h = tt
impls_guessed named v qs above ns (m ∷ ms) h =
    (h.0, impls_guessed named v qs above (add_at m.procedure (impl_count v qs m) ns) ms h.1)

pub over_values : (p : r.Program) → IsResolved (meaning_of p) → is_over_values (meaning_of p) ≡ true → is_over_values (meaning_of (guessed p)) ≡ true
over_values p c h =
    let named = named_of p.types in
    let v = survey_of p in
    let loops = loop_counts v p.procedures p.implementations in
    let above = above_all p.procedures p.implementations in
    let old = meaning_of p in
    let new = meaning_of (guessed p) in
    let is = resolved p c in
    let funs = list_all (fun_passes is_value_type) old.functions in
    let procs = list_all (proc_in old.candidates) old.procedures in
    let impls = list_all (impl_in old.candidates) old.implementations in
    let procs' = list_all (proc_in new.candidates) new.procedures in
    let impls' = list_all (impl_in new.candidates) new.implementations in
    let one = and_right (decls_in old.globals) (is_empty old.constants && (funs && (is_empty old.axioms && (procs && impls)))) h in
    let two = and_right (is_empty old.constants) (funs && (is_empty old.axioms && (procs && impls))) one in
    let three = and_right funs (is_empty old.axioms && (procs && impls)) two in
    let four = and_right (is_empty old.axioms) (procs && impls) three in
    let typed = procs_guessed named v loops above (length p.candidates) 0 p.procedures (procs_typed old.candidates old.procedures (and_left procs impls four)) in
    let bodies = impls_guessed named v p.procedures above (loop_starts v loops (length p.candidates) 0 p.procedures) p.implementations (impls_typed old.candidates old.implementations (and_right procs impls four)) in
    both (decls_in old.globals) (is_empty old.constants && (funs && (is_empty old.axioms && (procs' && impls'))))
    (and_left (decls_in old.globals) (is_empty old.constants && (funs && (is_empty old.axioms && (procs && impls)))) h)
    (both (is_empty old.constants) (funs && (is_empty old.axioms && (procs' && impls'))) (and_left (is_empty old.constants) (funs && (is_empty old.axioms && (procs && impls))) one)
    (both funs (is_empty old.axioms && (procs' && impls')) (and_left funs (is_empty old.axioms && (procs && impls)) two)
    (both (is_empty old.axioms) (procs' && impls') (and_left (is_empty old.axioms) (procs && impls) three)
    (both procs' impls' (resolved_procs new is typed) (resolved_impls new is bodies)))))
