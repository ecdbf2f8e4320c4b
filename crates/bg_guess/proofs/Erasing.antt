-- Without its guesses a program is what it was.
use Rattle.std.proofs.Common.{◌≡◌, ℕ, suc, ◌+◌, ◌<◌, ◌≤◌, false, List, [], ◌∷◌, ◌++◌, map, take, length, Option, Some, None, refl, ap, ◌∙◌, sym, subst, arith}
use Rattle.std.proofs.lemmas.Bool.Decides.{nat_tests}
use Rattle.std.specs.Prelude.{All, slice_get, get_or, nat_lt, filter}
use Rattle.std.proofs.lemmas.List.{append-nil, length-map, length-set}
use Rattle.std.proofs.lemmas.List.Elements.{All-nil, All-cons, All-head, All-tail, All-set, All-get_or, filter-append}
use Rattle.bg_base.specs.declared.pos.Pos.{Pos}
use Rattle.bg_text.specs.Trees.{Id}
use Rattle.bg_ast.specs.Values.{Ty}
use Rattle.bg_ast.specs.Resolved as r
use Rattle.bg_ast.specs.Syntax as s
use Rattle.bg_ast.specs.Meaning.{clause_of, proc_of, impl_of, named_of, st_of, sts_of, arms_of, meaning_of}
use Rattle.bg_sense.specs.Resolved.{clauses_in, specified, in_bodies, clauses_of, IsResolved}
use Rattle.bg_guess.specs.declared.claim.Claim.{Claim}
use Rattle.bg_guess.specs.Claims.{Subjects, claims, nothing}
use Rattle.bg_guess.specs.Loops.{size, guesses, st_guesses, sts_guesses, arms_guesses, guessed_st, guessed_sts, guessed_arms}
use Rattle.bg_guess.specs.Guessed.{Survey, survey_of, required, ensured, invariant, proc_count, impl_count, add_at, next_proc, loop_counts, loop_starts, above_all, guessed_proc, guessed_procs, guessed_body, guessed_impl, guessed_impls, guess_count, guess_names, guessed}
use Rattle.bg_guess.specs.Erased.{is_own, erased_st, erased_sts, erased_arms, erased_proc, erased_impl, erased}
use Rattle.bg_guess.proofs.ResolvedWhole.{starts_long}
use Rattle.bg_guess.proofs.Passing.{Declared, all_left, all_right, all_declared}

own_kept : (n : ℕ) (ks : List r.Clause) → All (Declared n) (map clause_of ks) → filter (is_own n) ks ≡ ks
own_kept n [] h = refl
own_kept n (k ∷ ks) h = rw (All-head (Declared n) (clause_of k) (map clause_of ks) h) (ap (λ ls. k ∷ ls) (own_kept n ks (All-tail (Declared n) (clause_of k) (map clause_of ks) h)))

guesses_left : (n above : ℕ) (p : Pos) (b : ℕ) (cs : List Claim) → n ≤ b → filter (is_own n) (guesses above p b cs) ≡ []
guesses_left n above p b [] lt = refl
guesses_left n above p b (c ∷ cs) lt =
    let no : nat_lt b n ≡ false = grind (arith, nat_tests) in
    rw (no) (guesses_left n above p (suc b) cs (omega (arith, lt)))

-- clauses, and guesses behind them
clauses_back : (n above : ℕ) (p : Pos) (b : ℕ) (l : Subjects) (ks : List r.Clause) → n ≤ b → All (Declared n) (map clause_of ks) → filter (is_own n) (ks ++ guesses above p b (claims l)) ≡ ks
clauses_back n above p b l ks lt h =
    filter-append (is_own n) ks (guesses above p b (claims l))
    ∙ (ap (λ ls. ls ++ filter (is_own n) (guesses above p b (claims l))) (own_kept n ks h)
    ∙ (ap (λ ls. ks ++ ls) (guesses_left n above p b (claims l) lt) ∙ append-nil ks))

mutual
  st_back : (n above : ℕ) (l : Subjects) (b : ℕ) (a : r.St) → n ≤ b → All (Declared n) (clauses_in (st_of a)) → erased_st n (guessed_st above l b a) ≡ a
  st_back n above l b (r.Label x) lt h = refl
  st_back n above l b (r.Assert k) lt h = refl
  st_back n above l b (r.Assume e) lt h = refl
  st_back n above l b (r.Havoc xs) lt h = refl
  st_back n above l b (r.Assign p ts es) lt h = refl
  st_back n above l b (r.Invoke k) lt h = refl
  st_back n above l b (r.If j arms otherwise) lt h =
      let c = b + arms_guesses (size l) arms in
      let one = arms_back n above l b j arms (sts_of otherwise) lt h in
      let two = sts_back n above l c otherwise (omega (arith, lt)) one.1 in
      ap (λ z. r.If j z (erased_sts n (guessed_sts above l c otherwise))) one.0 ∙ ap (r.If j arms) two
  st_back n above l b (r.While j p g is body) lt h =
      let c = b + size l in
      let one = clauses_back n above p b l is lt (all_left (Declared n) (map clause_of is) (clauses_in (sts_of body)) h) in
      let two = sts_back n above l c body (omega (arith, lt)) (all_right (Declared n) (map clause_of is) (clauses_in (sts_of body)) h) in
      ap (λ z. r.While j p g z (erased_sts n (guessed_sts above l c body))) one ∙ ap (r.While j p g is) two
  st_back n above l b (r.Break k) lt h = refl
  st_back n above l b (r.Goto ls) lt h = refl
  st_back n above l b r.Return lt h = refl

  sts_back : (n above : ℕ) (l : Subjects) (b : ℕ) (ss : r.Sts) → n ≤ b → All (Declared n) (clauses_in (sts_of ss)) → erased_sts n (guessed_sts above l b ss) ≡ ss
  sts_back n above l b r.NoSt lt h = refl
  sts_back n above l b (r.Then a rest) lt h =
      let c = b + st_guesses (size l) a in
      let one = st_back n above l b a lt (all_left (Declared n) (clauses_in (st_of a)) (clauses_in (sts_of rest)) h) in
      let two = sts_back n above l c rest (omega (arith, lt)) (all_right (Declared n) (clauses_in (st_of a)) (clauses_in (sts_of rest)) h) in
      ap (λ z. r.Then z (erased_sts n (guessed_sts above l c rest))) one ∙ ap (r.Then a) two

  arms_back : (n above : ℕ) (l : Subjects) (b j : ℕ) (arms : r.Arms) (o : s.St) → n ≤ b → All (Declared n) (clauses_in (arms_of j arms o)) →
      (erased_arms n (guessed_arms above l b arms) ≡ arms) × All (Declared n) (clauses_in o)
  arms_back n above l b j r.NoArm o lt h = (refl, h)
  arms_back n above l b j (r.Arm g body arms) o lt h =
      let c = b + sts_guesses (size l) body in
      let one = sts_back n above l b body lt (all_left (Declared n) (clauses_in (sts_of body)) (clauses_in (arms_of (suc j) arms o)) h) in
      let two = arms_back n above l c (suc j) arms o (omega (arith, lt)) (all_right (Declared n) (clauses_in (sts_of body)) (clauses_in (arms_of (suc j) arms o)) h) in
      (ap (λ z. r.Arm g z (erased_arms n (guessed_arms above l c arms))) one ∙ ap (r.Arm g body) two.0, two.1)

-- a procedure with other clauses
abbrev with_clauses : r.Proc → (rs es : List r.Clause) → r.Proc
with_clauses q rs es =
    record { pos = q.pos; name = q.name; params = q.params; results = q.results; modifies = q.modifies; requires_ = rs; ensures_ = es }

procs_back : (n : ℕ) (named : ℕ → Ty) (v : Survey) (loops : List ℕ) (above b k : ℕ) (qs : List r.Proc) → n ≤ b → All (Declared n) (specified (map (proc_of named) qs)) →
    map (erased_proc n) (guessed_procs v loops above b k qs) ≡ qs
procs_back n named v loops above b k [] lt h = refl
procs_back n named v loops above b k (q ∷ qs) lt h =
    let next = next_proc v loops b k q in
    let rs = map clause_of q.requires_ in
    let es = map clause_of q.ensures_ in
    let rest = specified (map (proc_of named) qs) in
    let later = all_right (Declared n) rs (es ++ rest) h in
    let c = required v k q in
    let d = ensured v k q in
    let one = clauses_back n above q.pos b c q.requires_ lt (all_left (Declared n) rs (es ++ rest) h) in
    let two = clauses_back n above q.pos (b + size c) d q.ensures_ (omega (arith, lt)) (all_left (Declared n) es rest later) in
    let here : erased_proc n (guessed_proc v above b k q) ≡ q
    = ap (λ z. with_clauses q z (filter (is_own n) (q.ensures_ ++ guesses above q.pos (b + size c) (claims d)))) one ∙ ap (λ z. with_clauses q q.requires_ z) two
    in
    ap (λ z. z ∷ map (erased_proc n) (guessed_procs v loops above next (suc k) qs)) here
    ∙ ap (λ z. q ∷ z) (procs_back n named v loops above next (suc k) qs (omega (arith, lt)) (all_right (Declared n) es rest later))

-- an implementation with another body
abbrev with_body : r.Impl → r.Sts → r.Impl
with_body m ss =
    record { pos = m.pos; name = m.name; procedure = m.procedure; params = m.params; results = m.results; locals = m.locals; body = ss }

-- nothing of a body is left out where its clauses have declared candidates
abbrev none : Subjects
none = nothing

mutual
  st_same : (above b : ℕ) (a : r.St) → guessed_st above none b a ≡ a
  st_same above b (r.Label x) = refl
  st_same above b (r.Assert k) = refl
  st_same above b (r.Assume e) = refl
  st_same above b (r.Havoc xs) = refl
  st_same above b (r.Assign p ts es) = refl
  st_same above b (r.Invoke k) = refl
  st_same above b (r.If j arms otherwise) =
      let c = b + arms_guesses (size none) arms in
      ap (λ z. r.If j z (guessed_sts above none c otherwise)) (arms_same above b arms) ∙ ap (r.If j arms) (sts_same above c otherwise)
  st_same above b (r.While j p g is body) =
      let c = b + size none in
      ap (λ z. r.While j p g z (guessed_sts above none c body)) (append-nil is) ∙ ap (r.While j p g is) (sts_same above c body)
  st_same above b (r.Break k) = refl
  st_same above b (r.Goto ls) = refl
  st_same above b r.Return = refl

  sts_same : (above b : ℕ) (ss : r.Sts) → guessed_sts above none b ss ≡ ss
  sts_same above b r.NoSt = refl
  sts_same above b (r.Then a rest) =
      let c = b + st_guesses (size none) a in
      ap (λ z. r.Then z (guessed_sts above none c rest)) (st_same above b a) ∙ ap (r.Then a) (sts_same above c rest)

  arms_same : (above b : ℕ) (arms : r.Arms) → guessed_arms above none b arms ≡ arms
  arms_same above b r.NoArm = refl
  arms_same above b (r.Arm g body arms) =
      let c = b + sts_guesses (size none) body in
      ap (λ z. r.Arm g z (guessed_arms above none c arms)) (sts_same above b body) ∙ ap (r.Arm g body) (arms_same above c arms)

body_back : (n : ℕ) (v : Survey) (above b : ℕ) (m : r.Impl) (o : Option r.Proc) → n ≤ b → All (Declared n) (clauses_in (sts_of m.body)) → erased_sts n (guessed_body v above b m o) ≡ m.body
body_back n v above b m None lt h = ap (erased_sts n) (sym (sts_same above b m.body)) ∙ sts_back n above none b m.body lt h
body_back n v above b m (Some q) lt h = sts_back n above (invariant v q m) b m.body lt h

impls_back : (n : ℕ) (named : ℕ → Ty) (v : Survey) (qs : List r.Proc) (above : ℕ) (ns : List ℕ) (ms : List r.Impl) → All (λ k. n ≤ k) ns → All (λ (m : s.Impl). m.procedure < length ns) (map (impl_of named) ms) →
    All (Declared n) (in_bodies clauses_in (map (impl_of named) ms)) → map (erased_impl n) (guessed_impls v qs above ns ms) ≡ ms
impls_back n named v qs above ns [] lt i h = refl
impls_back n named v qs above ns (m ∷ ms) lt i h =
    let I = λ (z : s.Impl). z.procedure < length ns in
    let p = m.procedure in
    let c = impl_count v qs m in
    let b = get_or ns p 0 in
    let later = add_at p c ns in
    let own = clauses_in (sts_of m.body) in
    let rest = in_bodies clauses_in (map (impl_of named) ms) in
    let inside = All-head I (impl_of named m) (map (impl_of named) ms) i in
    let least = All-get_or (λ k. n ≤ k) ns p 0 inside lt in
    let long = length-set ns p (b + c) in
    let here : erased_impl n (guessed_impl v qs above b m) ≡ m = ap (with_body m) (body_back n v above b m (slice_get qs p) least (all_left (Declared n) own rest h)) in
    ap (λ z. z ∷ map (erased_impl n) (guessed_impls v qs above later ms)) here
    ∙ ap (λ z. m ∷ z)
    (impls_back n named v qs above later ms (All-set (λ k. n ≤ k) ns p (b + c) (omega (arith, least)) lt)
    (subst (λ k. All (λ (z : s.Impl). z.procedure < k) (map (impl_of named) ms)) (sym long) (All-tail I (impl_of named m) (map (impl_of named) ms) i)) (all_right (Declared n) own rest h))

pub starts_above : (n : ℕ) (v : Survey) (loops : List ℕ) (b k : ℕ) (qs : List r.Proc) → n ≤ b → All (λ j. n ≤ j) (loop_starts v loops b k qs)
starts_above n v loops b k [] lt = All-nil (λ j. n ≤ j)
starts_above n v loops b k (q ∷ qs) lt =
    All-cons (λ j. n ≤ j) (b + proc_count v k q) (loop_starts v loops (next_proc v loops b k q) (suc k) qs) (omega (arith, lt)) (starts_above n v loops (next_proc v loops b k q) (suc k) qs (omega (arith, lt)))

first_taken : {A : Type 0} (xs ys : List A) → take (length xs) (xs ++ ys) ≡ xs
first_taken [] ys = refl
first_taken (x ∷ xs) ys = ap (λ zs. x ∷ zs) (first_taken xs ys)

-- a program with other candidates, procedures and implementations
abbrev with_parts : r.Program → List Id → List r.Proc → List r.Impl → r.Program
with_parts p cs qs ms =
    record { types = p.types; constants = p.constants; candidates = cs; globals = p.globals; functions = p.functions; axioms = p.axioms; procedures = qs; implementations = ms }

pub erased_guesses : (p : r.Program) → IsResolved (meaning_of p) → erased (length p.candidates) (guessed p) ≡ p
erased_guesses p h =
    let named = named_of p.types in
    let v = survey_of p in
    let qs = p.procedures in
    let ms = p.implementations in
    let n = length p.candidates in
    let loops = loop_counts v qs ms in
    let starts = loop_starts v loops n 0 qs in
    let above = above_all qs ms in
    let specs = specified (map (proc_of named) qs) in
    let bodies = in_bodies clauses_in (map (impl_of named) ms) in
    let d = all_declared n (clauses_of (meaning_of p)) h.candidates in
    let long : length (meaning_of p).procedures ≡ length starts = length-map qs (proc_of named) ∙ sym (starts_long v loops n 0 qs) in
    let fit = subst (λ k. All (λ (z : s.Impl). z.procedure < k) (map (impl_of named) ms)) long h.implemented in
    let one = first_taken p.candidates (guess_names (guess_count p)) in
    let two = procs_back n named v loops above n 0 qs (omega arith) (all_left (Declared n) specs bodies d) in
    let three = impls_back n named v qs above starts ms (starts_above n v loops n 0 qs (omega arith)) fit (all_right (Declared n) specs bodies d) in
    ap (λ z. with_parts p z (map (erased_proc n) (guessed p).procedures) (map (erased_impl n) (guessed p).implementations)) one
    ∙ (ap (λ z. with_parts p p.candidates z (map (erased_impl n) (guessed p).implementations)) two ∙ ap (λ z. with_parts p p.candidates p.procedures z) three)
