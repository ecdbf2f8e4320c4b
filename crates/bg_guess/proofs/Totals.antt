-- Which numbers the clauses of a program with its guesses have.
use Rattle.std.proofs.Common.{◌≡◌, ℕ, suc, ◌+◌, ◌≤◌, List, [], ◌∷◌, ◌++◌, map, length, max, Option, Some, None, refl, ap, ◌∙◌, sym, arith}
use Rattle.std.specs.Prelude.{slice_get, get_or}
use Rattle.std.proofs.lemmas.List.{map-append}
use Rattle.bg_base.specs.declared.pos.Pos.{Pos}
use Rattle.bg_ast.specs.Values.{Ty}
use Rattle.bg_ast.specs.Resolved as r
use Rattle.bg_ast.specs.Syntax as s
use Rattle.bg_ast.specs.Meaning.{clause_of, proc_of, impl_of, st_of, sts_of, arms_of}
use Rattle.bg_sense.specs.Resolved.{clauses_in, specified, in_bodies}
use Rattle.bg_guess.specs.declared.claim.Claim.{Claim}
use Rattle.bg_guess.specs.Claims.{Subjects, claims}
use Rattle.bg_guess.specs.Calls.{above, above_st, above_sts, above_arms, above_procs, above_impls}
use Rattle.bg_guess.specs.Loops.{size, guesses, st_guesses, sts_guesses, arms_guesses, guessed_st, guessed_sts, guessed_arms}
use Rattle.bg_guess.specs.Guessed.{Survey, required, ensured, invariant, count_of, impl_count, add_at, next_proc, guessed_procs, guessed_body, guessed_impls}
use Rattle.bg_guess.proofs.Times.{times, times_append, within, within_none, within_one, within_join, hit}
use Rattle.bg_guess.proofs.Rows.{procs_within, impls_within}

-- how often clauses have a number
abbrev pub numbered : ℕ → List s.Clause → ℕ
numbered x ks = times x (map (λ (k : s.Clause). k.id) ks)

pub numbered_append : (x : ℕ) (ks ls : List s.Clause) → numbered x (ks ++ ls) ≡ numbered x ks + numbered x ls
numbered_append x ks ls = ap (times x) (map-append (λ (k : s.Clause). k.id) ks ls) ∙ times_append x (map (λ (k : s.Clause). k.id) ks) (map (λ (k : s.Clause). k.id) ls)

no_more : (n m x : ℕ) → n ≡ n + within m 0 x
no_more n m x = let h = within_none m x in omega (arith, h)

guesses_numbered : (x base : ℕ) (p : Pos) (b : ℕ) (cs : List Claim) → numbered x (map clause_of (guesses base p b cs)) ≡ within (base + b) (length cs) x
guesses_numbered x base p b [] = sym (within_none (base + b) x)
guesses_numbered x base p b (c ∷ cs) =
    let rest = guesses_numbered x base p (suc b) cs in
    let one = within_one (base + b) x in
    let join : within (base + b) (1 + length cs) x ≡ within (base + b) 1 x + within (base + suc b) (length cs) x = within_join (base + b) (base + suc b) 1 (length cs) x (omega arith) in
    let long : suc (length cs) ≡ 1 + length cs = omega arith in
    let same = ap (λ n. within (base + b) n x) long in
    omega (arith, rest, one, join, same)

-- clauses, and guesses behind them
more_numbered : (x base : ℕ) (p : Pos) (b : ℕ) (l : Subjects) (ks : List r.Clause) → numbered x (map clause_of (ks ++ guesses base p b (claims l))) ≡ numbered x (map clause_of ks) + within (base + b) (size l) x
more_numbered x base p b l ks =
    let cut = ap (numbered x) (map-append clause_of ks (guesses base p b (claims l))) in
    let two = numbered_append x (map clause_of ks) (map clause_of (guesses base p b (claims l))) in
    let new = guesses_numbered x base p b (claims l) in
    omega (arith, cut, two, new)

mutual
  st_numbered : (x base : ℕ) (l : Subjects) (b : ℕ) (a : r.St) → numbered x (clauses_in (st_of (guessed_st base l b a))) ≡ numbered x (clauses_in (st_of a)) + within (base + b) (st_guesses (size l) a) x
  st_numbered x base l b (r.Label n) = no_more 0 (base + b) x
  st_numbered x base l b (r.Assert k) = no_more _ (base + b) x
  st_numbered x base l b (r.Assume e) = no_more 0 (base + b) x
  st_numbered x base l b (r.Havoc xs) = no_more 0 (base + b) x
  st_numbered x base l b (r.Assign p ts es) = no_more 0 (base + b) x
  st_numbered x base l b (r.Invoke k) = no_more 0 (base + b) x
  st_numbered x base l b (r.If n arms otherwise) =
      let c = arms_guesses (size l) arms in
      let d = sts_guesses (size l) otherwise in
      let last = sts_numbered x base l (b + c) otherwise in
      let rest = arms_numbered x base l b n arms (sts_of otherwise) (sts_of (guessed_sts base l (b + c) otherwise)) d last in
      rest
  st_numbered x base l b (r.While n p g is body) =
      let own = more_numbered x base p b l is in
      let rest = sts_numbered x base l (b + size l) body in
      let new = numbered_append x (map clause_of (is ++ guesses base p b (claims l))) (clauses_in (sts_of (guessed_sts base l (b + size l) body))) in
      let old = numbered_append x (map clause_of is) (clauses_in (sts_of body)) in
      let join = within_join (base + b) (base + (b + size l)) (size l) (sts_guesses (size l) body) x (omega arith) in
      omega (arith, own, rest, new, old, join)
  st_numbered x base l b (r.Break n) = no_more 0 (base + b) x
  st_numbered x base l b (r.Goto ls) = no_more 0 (base + b) x
  st_numbered x base l b r.Return = no_more 0 (base + b) x

  pub sts_numbered : (x base : ℕ) (l : Subjects) (b : ℕ) (ss : r.Sts) → numbered x (clauses_in (sts_of (guessed_sts base l b ss))) ≡ numbered x (clauses_in (sts_of ss)) + within (base + b) (sts_guesses (size l) ss) x
  sts_numbered x base l b r.NoSt = no_more 0 (base + b) x
  sts_numbered x base l b (r.Then a rest) =
      let c = st_guesses (size l) a in
      let one = st_numbered x base l b a in
      let two = sts_numbered x base l (b + c) rest in
      let new = numbered_append x (clauses_in (st_of (guessed_st base l b a))) (clauses_in (sts_of (guessed_sts base l (b + c) rest))) in
      let old = numbered_append x (clauses_in (st_of a)) (clauses_in (sts_of rest)) in
      let join = within_join (base + b) (base + (b + c)) c (sts_guesses (size l) rest) x (omega arith) in
      omega (arith, one, two, new, old, join)

  arms_numbered : (x base : ℕ) (l : Subjects) (b n : ℕ) (arms : r.Arms) (o o' : s.St) (d : ℕ) →
      numbered x (clauses_in o') ≡ numbered x (clauses_in o) + within (base + (b + arms_guesses (size l) arms)) d x →
      numbered x (clauses_in (arms_of n (guessed_arms base l b arms) o')) ≡ numbered x (clauses_in (arms_of n arms o)) + within (base + b) (arms_guesses (size l) arms + d) x
  arms_numbered x base l b n r.NoArm o o' d h =
      let first : base + (b + 0) ≡ base + b = omega arith in
      let second : 0 + d ≡ d = omega arith in
      let one = ap (λ k. within k d x) first in
      let two = ap (λ k. within (base + b) k x) second in
      omega (arith, h, one, two)
  arms_numbered x base l b n (r.Arm g body arms) o o' d h =
      let c = sts_guesses (size l) body in
      let e = arms_guesses (size l) arms in
      let at : base + (b + (c + e)) ≡ base + (b + c + e) = omega arith in
      let moved = ap (λ k. within k d x) at in
      let one = sts_numbered x base l b body in
      let two = arms_numbered x base l (b + c) (suc n) arms o o' d (omega (arith, h, moved)) in
      let new = numbered_append x (clauses_in (sts_of (guessed_sts base l b body))) (clauses_in (arms_of (suc n) (guessed_arms base l (b + c) arms) o')) in
      let old = numbered_append x (clauses_in (sts_of body)) (clauses_in (arms_of (suc n) arms o)) in
      let join = within_join (base + b) (base + (b + c)) c (e + d) x (omega arith) in
      let sum : c + e + d ≡ c + (e + d) = omega arith in
      let same = ap (λ k. within (base + b) k x) sum in
      omega (arith, one, two, new, old, join, same)

pub procs_numbered : (x : ℕ) (named : ℕ → Ty) (v : Survey) (loops : List ℕ) (base b k : ℕ) (qs : List r.Proc) →
    numbered x (specified (map (proc_of named) (guessed_procs v loops base b k qs))) ≡ numbered x (specified (map (proc_of named) qs)) + procs_within v loops base b k qs x
procs_numbered x named v loops base b k [] = refl
procs_numbered x named v loops base b k (q ∷ qs) =
    let c = required v k q in
    let d = ensured v k q in
    let next = next_proc v loops b k q in
    let rest = procs_numbered x named v loops base next (suc k) qs in
    let one = more_numbered x base q.pos b c q.requires_ in
    let two = more_numbered x base q.pos (b + size c) d q.ensures_ in
    let old = specified (map (proc_of named) qs) in
    let new = specified (map (proc_of named) (guessed_procs v loops base next (suc k) qs)) in
    let rs = map clause_of q.requires_ in
    let es = map clause_of q.ensures_ in
    let rs' = map clause_of (q.requires_ ++ guesses base q.pos b (claims c)) in
    let es' = map clause_of (q.ensures_ ++ guesses base q.pos (b + size c) (claims d)) in
    let a1 = numbered_append x rs (es ++ old) in
    let a2 = numbered_append x es old in
    let b1 = numbered_append x rs' (es' ++ new) in
    let b2 = numbered_append x es' new in
    let join = within_join (base + b) (base + (b + size c)) (size c) (size d) x (omega arith) in
    omega (arith, rest, one, two, a1, a2, b1, b2, join)

body_numbered : (x : ℕ) (v : Survey) (base b : ℕ) (m : r.Impl) (o : Option r.Proc) →
    numbered x (clauses_in (sts_of (guessed_body v base b m o))) ≡ numbered x (clauses_in (sts_of m.body)) + within (base + b) (count_of v m o) x
body_numbered x v base b m None = no_more _ (base + b) x
body_numbered x v base b m (Some q) = sts_numbered x base (invariant v q m) b m.body

pub impls_numbered : (x : ℕ) (named : ℕ → Ty) (v : Survey) (qs : List r.Proc) (base : ℕ) (ns : List ℕ) (ms : List r.Impl) →
    numbered x (in_bodies clauses_in (map (impl_of named) (guessed_impls v qs base ns ms))) ≡ numbered x (in_bodies clauses_in (map (impl_of named) ms)) + impls_within v qs base ns ms x
impls_numbered x named v qs base ns [] = refl
impls_numbered x named v qs base ns (m ∷ ms) =
    let b = get_or ns m.procedure 0 in
    let later = add_at m.procedure (impl_count v qs m) ns in
    let one = body_numbered x v base b m (slice_get qs m.procedure) in
    let rest = impls_numbered x named v qs base later ms in
    let old = numbered_append x (clauses_in (sts_of m.body)) (in_bodies clauses_in (map (impl_of named) ms)) in
    let new = numbered_append x (clauses_in (sts_of (guessed_body v base b m (slice_get qs m.procedure)))) (in_bodies clauses_in (map (impl_of named) (guessed_impls v qs base later ms))) in
    omega (arith, one, rest, old, new)

-- ---- no clause has a number above those of all clauses

not_above : (x n : ℕ) (ks : List r.Clause) → above n ks ≤ x → (n ≤ x) × (numbered x (map clause_of ks) ≡ 0)
not_above x n [] h = (h, refl)
not_above x n (k ∷ ks) h =
    let rest = not_above x (max n (suc k.id)) ks h in
    let most = rest.0 in
    let none = rest.1 in
    let one = hit k.id x in
    (omega (arith, most), omega (arith, most, none, one))

mutual
  st_not_above : (x n : ℕ) (a : r.St) → above_st n a ≤ x → (n ≤ x) × (numbered x (clauses_in (st_of a)) ≡ 0)
  st_not_above x n (r.Label l) h = (h, refl)
  st_not_above x n (r.Assert k) h = not_above x n (k ∷ []) h
  st_not_above x n (r.Assume e) h = (h, refl)
  st_not_above x n (r.Havoc xs) h = (h, refl)
  st_not_above x n (r.Assign p ts es) h = (h, refl)
  st_not_above x n (r.Invoke k) h = (h, refl)
  st_not_above x n (r.If j arms otherwise) h =
      let last = sts_not_above x (above_arms n arms) otherwise h in
      let rest = arms_not_above x n j arms (sts_of otherwise) last.0 in
      (rest.0, rest.1 ∙ last.1)
  st_not_above x n (r.While j p g is body) h =
      let last = sts_not_above x (above n is) body h in
      let own = not_above x n is last.0 in
      let both = numbered_append x (map clause_of is) (clauses_in (sts_of body)) in
      let a = own.1 in
      let b = last.1 in
      (own.0, omega (arith, a, b, both))
  st_not_above x n (r.Break k) h = (h, refl)
  st_not_above x n (r.Goto ls) h = (h, refl)
  st_not_above x n r.Return h = (h, refl)

  sts_not_above : (x n : ℕ) (ss : r.Sts) → above_sts n ss ≤ x → (n ≤ x) × (numbered x (clauses_in (sts_of ss)) ≡ 0)
  sts_not_above x n r.NoSt h = (h, refl)
  sts_not_above x n (r.Then a rest) h =
      let last = sts_not_above x (above_st n a) rest h in
      let own = st_not_above x n a last.0 in
      let both = numbered_append x (clauses_in (st_of a)) (clauses_in (sts_of rest)) in
      let c = own.1 in
      let b = last.1 in
      (own.0, omega (arith, c, b, both))

  arms_not_above : (x n j : ℕ) (arms : r.Arms) (o : s.St) → above_arms n arms ≤ x → (n ≤ x) × (numbered x (clauses_in (arms_of j arms o)) ≡ numbered x (clauses_in o))
  arms_not_above x n j r.NoArm o h = (h, refl)
  arms_not_above x n j (r.Arm g body arms) o h =
      let last = arms_not_above x (above_sts n body) (suc j) arms o h in
      let own = sts_not_above x n body last.0 in
      let both = numbered_append x (clauses_in (sts_of body)) (clauses_in (arms_of (suc j) arms o)) in
      let c = own.1 in
      let b = last.1 in
      (own.0, omega (arith, c, b, both))

procs_not_above : (x n : ℕ) (named : ℕ → Ty) (qs : List r.Proc) → above_procs n qs ≤ x → (n ≤ x) × (numbered x (specified (map (proc_of named) qs)) ≡ 0)
procs_not_above x n named [] h = (h, refl)
procs_not_above x n named (q ∷ qs) h =
    let last = procs_not_above x (above (above n q.requires_) q.ensures_) named qs h in
    let second = not_above x (above n q.requires_) q.ensures_ last.0 in
    let first = not_above x n q.requires_ second.0 in
    let rest = specified (map (proc_of named) qs) in
    let one = numbered_append x (map clause_of q.requires_) (map clause_of q.ensures_ ++ rest) in
    let two = numbered_append x (map clause_of q.ensures_) rest in
    let a = first.1 in
    let b = second.1 in
    let c = last.1 in
    (first.0, omega (arith, a, b, c, one, two))

impls_not_above : (x n : ℕ) (named : ℕ → Ty) (ms : List r.Impl) → above_impls n ms ≤ x → (n ≤ x) × (numbered x (in_bodies clauses_in (map (impl_of named) ms)) ≡ 0)
impls_not_above x n named [] h = (h, refl)
impls_not_above x n named (m ∷ ms) h =
    let last = impls_not_above x (above_sts n m.body) named ms h in
    let own = sts_not_above x n m.body last.0 in
    let both = numbered_append x (clauses_in (sts_of m.body)) (in_bodies clauses_in (map (impl_of named) ms)) in
    let a = own.1 in
    let b = last.1 in
    (own.0, omega (arith, a, b, both))

pub none_above : (x : ℕ) (named : ℕ → Ty) (qs : List r.Proc) (ms : List r.Impl) → above_impls (above_procs 0 qs) ms ≤ x →
    numbered x (specified (map (proc_of named) qs) ++ in_bodies clauses_in (map (impl_of named) ms)) ≡ 0
none_above x named qs ms h =
    let bodies = impls_not_above x (above_procs 0 qs) named ms h in
    let specs = procs_not_above x 0 named qs bodies.0 in
    let both = numbered_append x (specified (map (proc_of named) qs)) (in_bodies clauses_in (map (impl_of named) ms)) in
    let a = bodies.1 in
    let b = specs.1 in
    omega (arith, a, b, both)
