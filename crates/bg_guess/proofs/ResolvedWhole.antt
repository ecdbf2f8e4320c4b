-- A resolved program with its guesses is resolved.
use Rattle.std.proofs.Common.{◌≡◌, ℕ, zero, suc, ◌+◌, ◌<◌, List, [], ◌∷◌, ◌++◌, map, length, Option, Some, None, refl, ap, sym, subst, arith, inl, inr, ⊎_elim}
use Rattle.std.specs.Prelude.{All, slice_get, get_or, Contains}
use Rattle.std.proofs.lemmas.List.{length-map, length-append}
use Rattle.std.proofs.lemmas.List.Elements.{All-nil, All-cons, All-head, All-tail, All-contains}
use Rattle.bg_ast.specs.Values.{Ty}
use Rattle.bg_ast.specs.Resolved as r
use Rattle.bg_ast.specs.Syntax as s
use Rattle.bg_ast.specs.Meaning.{proc_of, impl_of, named_of, sts_of, meaning_of}
use Rattle.bg_sense.specs.Resolved.{AreDifferent, Rise, calls_in, called_in, branches_in, labels_in, in_bodies, clauses_in, specified, clauses_of, HasCandidate, IsResolved}
use Rattle.bg_sense.proofs.Members.{In, contained, member}
use Rattle.bg_guess.specs.Guessed.{Survey, survey_of, invariant, impl_count, add_at, next_proc, loop_starts, loop_counts, above_all, guessed_proc, guessed_procs, guessed_body, guessed_impl, guessed_impls, guess_name, guess_names, guess_count, guessed}
use Rattle.bg_guess.proofs.Parts.{Alike, alike_sts}
use Rattle.bg_guess.proofs.Times.{within, within_most, place, stands, different, once}
use Rattle.bg_guess.proofs.Rows.{one_row}
use Rattle.bg_guess.proofs.Totals.{numbered, numbered_append, procs_numbered, impls_numbered, none_above}
use Rattle.bg_guess.proofs.Fresh.{Is, IsGuess, clauses_are}

procs_long : (named : ℕ → Ty) (v : Survey) (loops : List ℕ) (above b k : ℕ) (qs : List r.Proc) → length (map (proc_of named) (guessed_procs v loops above b k qs)) ≡ length (map (proc_of named) qs)
procs_long named v loops above b k [] = refl
procs_long named v loops above b k (q ∷ qs) = ap suc (procs_long named v loops above (next_proc v loops b k q) (suc k) qs)

pub starts_long : (v : Survey) (loops : List ℕ) (b k : ℕ) (qs : List r.Proc) → length (loop_starts v loops b k qs) ≡ length qs
starts_long v loops b k [] = refl
starts_long v loops b k (q ∷ qs) = ap suc (starts_long v loops (next_proc v loops b k q) (suc k) qs)

pub names_long : (n : ℕ) → length (guess_names n) ≡ n
names_long zero = refl
names_long (suc n) = let h = names_long n in let k = length-append (guess_names n) (guess_name (suc n) ∷ []) in omega (arith, h, k)

-- what a procedure modifies is what it modified
modifies_kept : (named : ℕ → Ty) (v : Survey) (loops : List ℕ) (above b k : ℕ) (qs : List r.Proc) (j : ℕ) (q : s.Proc) → slice_get (map (proc_of named) (guessed_procs v loops above b k qs)) j ≡ Some q →
    (o : s.Proc) × ((slice_get (map (proc_of named) qs) j ≡ Some o) × (o.modifies ≡ q.modifies))
modifies_kept named v loops above b k [] j q h = absurd (let bad : ⊥ = cc in bad)
modifies_kept named v loops above b k (o ∷ qs) zero q h =
    (proc_of named o, (refl, let e : proc_of named (guessed_proc v above b k o) ≡ q = cc in ap (λ (z : s.Proc). z.modifies) e))
modifies_kept named v loops above b k (o ∷ qs) (suc j) q h = modifies_kept named v loops above (next_proc v loops b k o) (suc k) qs j q h

body_alike : (v : Survey) (above b : ℕ) (m : r.Impl) (o : Option r.Proc) → Alike (sts_of (guessed_body v above b m o)) (sts_of m.body)
body_alike v above b m None = (refl, refl, refl, refl, refl)
body_alike v above b m (Some q) = alike_sts above (invariant v q m) b m.body

joined : {A : Type 0} (xs ys zs ws : List A) → xs ≡ ys → zs ≡ ws → xs ++ zs ≡ ys ++ ws
joined xs ys zs ws h k = rw (h, k) refl

-- what bodies have in common with those without guesses
bodies_alike : (named : ℕ → Ty) (v : Survey) (qs : List r.Proc) (above : ℕ) (ns : List ℕ) (ms : List r.Impl) →
    (in_bodies called_in (map (impl_of named) (guessed_impls v qs above ns ms)) ≡ in_bodies called_in (map (impl_of named) ms))
    × (in_bodies calls_in (map (impl_of named) (guessed_impls v qs above ns ms)) ≡ in_bodies calls_in (map (impl_of named) ms))
    × (in_bodies branches_in (map (impl_of named) (guessed_impls v qs above ns ms)) ≡ in_bodies branches_in (map (impl_of named) ms))
bodies_alike named v qs above ns [] = (refl, refl, refl)
bodies_alike named v qs above ns (m ∷ ms) =
    let one = body_alike v above (get_or ns m.procedure 0) m (slice_get qs m.procedure) in
    let rest = bodies_alike named v qs above (add_at m.procedure (impl_count v qs m) ns) ms in
    (joined _ _ _ _ one.1 rest.0, joined _ _ _ _ one.0 rest.1, joined _ _ _ _ one.2 rest.2)

-- what holds of the procedure and the labels of each implementation
impls_hold : (P : ℕ → List ℕ → Type 0) (named : ℕ → Ty) (v : Survey) (qs : List r.Proc) (above : ℕ) (ns : List ℕ) (ms : List r.Impl) →
    All (λ (m : s.Impl). P m.procedure (labels_in m.body)) (map (impl_of named) ms) → All (λ (m : s.Impl). P m.procedure (labels_in m.body)) (map (impl_of named) (guessed_impls v qs above ns ms))
impls_hold P named v qs above ns [] h = All-nil (λ (m : s.Impl). P m.procedure (labels_in m.body))
impls_hold P named v qs above ns (m ∷ ms) h =
    let Q = λ (k : s.Impl). P k.procedure (labels_in k.body) in
    let b = get_or ns m.procedure 0 in
    let later = add_at m.procedure (impl_count v qs m) ns in
    let same = body_alike v above b m (slice_get qs m.procedure) in
    All-cons Q (impl_of named (guessed_impl v qs above b m)) (map (impl_of named) (guessed_impls v qs above later ms))
    (subst (P m.procedure) (sym same.3) (All-head Q (impl_of named m) (map (impl_of named) ms) h))
    (impls_hold P named v qs above later ms (All-tail Q (impl_of named m) (map (impl_of named) ms) h))

pub unmapped : (P : ℕ → Type 0) (named : ℕ → Ty) (ms : List r.Impl) → All (λ (m : s.Impl). P m.procedure) (map (impl_of named) ms) → All (λ (m : r.Impl). P m.procedure) ms
unmapped P named [] h = All-nil (λ (m : r.Impl). P m.procedure)
unmapped P named (m ∷ ms) h =
    All-cons (λ (k : r.Impl). P k.procedure) m ms (All-head (λ (k : s.Impl). P k.procedure) (impl_of named m) (map (impl_of named) ms) h)
    (unmapped P named ms (All-tail (λ (k : s.Impl). P k.procedure) (impl_of named m) (map (impl_of named) ms) h))

-- the numbers of the clauses are those that there were, and a row above them
whole_numbered : (p : r.Program) → IsResolved (meaning_of p) → (x : ℕ) →
    numbered x (clauses_of (meaning_of (guessed p))) ≡ numbered x (clauses_of (meaning_of p)) + within (above_all p.procedures p.implementations + length p.candidates) (guess_count p) x
whole_numbered p h x =
    let named = named_of p.types in
    let v = survey_of p in
    let qs = p.procedures in
    let ms = p.implementations in
    let above = above_all qs ms in
    let b = length p.candidates in
    let loops = loop_counts v qs ms in
    let starts = loop_starts v loops b 0 qs in
    let fit = subst (λ n. All (λ (m : r.Impl). m.procedure < n) ms) (length-map qs (proc_of named)) (unmapped (λ k. k < length (meaning_of p).procedures) named ms h.implemented) in
    let row = one_row v above x b qs ms loops starts refl refl (starts_long v loops b 0 qs) fit in
    let procs = procs_numbered x named v loops above b 0 qs in
    let impls = impls_numbered x named v qs above starts ms in
    let old = numbered_append x (specified (map (proc_of named) qs)) (in_bodies clauses_in (map (impl_of named) ms)) in
    let new = numbered_append x (specified (map (proc_of named) (guessed_procs v loops above b 0 qs))) (in_bodies clauses_in (map (impl_of named) (guessed_impls v qs above starts ms))) in
    omega (arith, row, procs, impls, old, new)

numbers_apart : (p : r.Program) → IsResolved (meaning_of p) → AreDifferent (map (λ (k : s.Clause). k.id) (clauses_of (meaning_of (guessed p))))
numbers_apart p h =
    different (map (λ (k : s.Clause). k.id) (clauses_of (meaning_of (guessed p))))
    (λ x.
    let a = above_all p.procedures p.implementations + length p.candidates in
    let whole = whole_numbered p h x in
    let old = once (map (λ (k : s.Clause). k.id) (clauses_of (meaning_of p))) h.clauses x in
    let new = within_most a (guess_count p) x in
    ⊎_elim (λ e. let in' = e.1 in let none = none_above x (named_of p.types) p.procedures p.implementations (omega (arith, in')) in omega (arith, whole, none, new))
    (λ e. let out = e.0 in omega (arith, whole, old, out)) (place a (guess_count p) x))

id_in : (ks : List s.Clause) (k : s.Clause) → In ks k → In (map (λ (z : s.Clause). z.id) ks) k.id
id_in [] k i = absurd i
id_in (z ∷ ks) k (inl e) = inl (ap (λ (y : s.Clause). y.id) e)
id_in (z ∷ ks) k (inr i) = inr (id_in ks k i)

candidates_there : (p : r.Program) → IsResolved (meaning_of p) → (k : s.Clause) → Contains (clauses_of (meaning_of (guessed p))) k → HasCandidate (meaning_of (guessed p)).candidates k.candidate k
candidates_there p h k c =
    ⊎_elim (λ i. wider k.candidate k (h.candidates k (contained (clauses_of (meaning_of p)) k i))) new (All-contains (Is above (clauses_of (meaning_of p))) (clauses_of (meaning_of (guessed p))) k all c)
  where
    above : ℕ
    above = above_all p.procedures p.implementations

    many : (meaning_of (guessed p)).candidates ≡ length p.candidates + guess_count p
    many = let a = length-append p.candidates (guess_names (guess_count p)) in let b = names_long (guess_count p) in omega (arith, a, b)

    all : All (Is above (clauses_of (meaning_of p))) (clauses_of (meaning_of (guessed p)))
    all =
        let v = survey_of p in
        let loops = loop_counts v p.procedures p.implementations in
        clauses_are (named_of p.types) v loops (loop_starts v loops (length p.candidates) 0 p.procedures) above (length p.candidates) p.procedures p.implementations

    wider : (o : Option ℕ) (z : s.Clause) → HasCandidate (meaning_of p).candidates o z → HasCandidate (meaning_of (guessed p)).candidates o z
    wider None z i = tt
    wider (Some b) z i = let lt = i.0 in (omega (arith, lt, many), i.1)

    new : IsGuess above k → HasCandidate (meaning_of (guessed p)).candidates k.candidate k
    new g =
        let b = g.0 in
        let is = g.1.0 in
        let here = stands k.id (map (λ (z : s.Clause). z.id) (clauses_of (meaning_of (guessed p)))) (id_in (clauses_of (meaning_of (guessed p))) k (member (clauses_of (meaning_of (guessed p))) k c)) in
        let whole = whole_numbered p h k.id in
        let none = none_above k.id (named_of p.types) p.procedures p.implementations (omega (arith, is)) in
        let row = place (above + length p.candidates) (guess_count p) k.id in
        let lt : b < (meaning_of (guessed p)).candidates = omega (arith, is, here, whole, none, row, many) in
        subst (λ o. HasCandidate (meaning_of (guessed p)).candidates o k) (sym g.1.1.0) (lt, g.1.1.1)

pub resolved : (p : r.Program) → IsResolved (meaning_of p) → IsResolved (meaning_of (guessed p))
resolved p h =
    let named = named_of p.types in
    let v = survey_of p in
    let qs = p.procedures in
    let ms = p.implementations in
    let above = above_all qs ms in
    let b = length p.candidates in
    let loops = loop_counts v qs ms in
    let starts = loop_starts v loops b 0 qs in
    let long = procs_long named v loops above b 0 qs in
    let same = bodies_alike named v qs above starts ms in
    let n = length (meaning_of p).procedures in
    record {
      implemented =
          subst (λ k. All (λ (m : s.Impl). m.procedure < k) (meaning_of (guessed p)).implementations) (sym long) (impls_hold (λ k ls. k < n) named v qs above starts ms h.implemented);
      called =
          subst (λ k. All (λ j. j < k) (in_bodies called_in (meaning_of (guessed p)).implementations)) (sym long) (subst (All (λ j. j < n)) (sym same.0) h.called);
      clauses = numbers_apart p h;
      calls = subst AreDifferent (sym same.1) h.calls;
      branches = subst AreDifferent (sym same.2) h.branches;
      labels = impls_hold (λ k ls. AreDifferent ls) named v qs above starts ms h.labels;
      modifies = λ k q e.
          let o = modifies_kept named v loops above b 0 qs k q e in
          subst (Rise 0 (length (meaning_of p).globals)) o.1.1 (h.modifies k o.0 o.1.0);
      candidates = candidates_there p h;
    }
