-- Each clause of a program with its guesses is one that it had, or a guess.
use Rattle.std.proofs.Common.{◌≡◌, ℕ, suc, ◌+◌, List, [], ◌∷◌, ◌++◌, map, Option, Some, None, refl, sym, subst, false, inl, inr, ⊎_elim}
use Rattle.std.specs.Prelude.{All, ◌⊎◌, slice_get, get_or}
use Rattle.std.proofs.lemmas.List.{map-append, append-nil}
use Rattle.std.proofs.lemmas.List.Elements.{All-nil, All-cons, All-append, All-weaker}
use Rattle.bg_base.specs.declared.pos.Pos.{Pos}
use Rattle.bg_ast.specs.Values.{Ty}
use Rattle.bg_ast.specs.Resolved as r
use Rattle.bg_ast.specs.Syntax as s
use Rattle.bg_ast.specs.Meaning.{clause_of, proc_of, impl_of, st_of, sts_of, arms_of}
use Rattle.bg_sense.specs.Resolved.{clauses_in, specified, in_bodies}
use Rattle.bg_sense.proofs.Members.{In, in_left, in_right}
use Rattle.bg_guess.specs.declared.claim.Claim.{Claim}
use Rattle.bg_guess.specs.Claims.{Subjects, claims}
use Rattle.bg_guess.specs.Loops.{size, guess, guesses, st_guesses, sts_guesses, arms_guesses, guessed_st, guessed_sts, guessed_arms}
use Rattle.bg_guess.specs.Guessed.{Survey, required, ensured, invariant, impl_count, add_at, next_proc, guessed_procs, guessed_body, guessed_impls}

-- the clause of a guess, above a number
abbrev pub IsGuess : ℕ → s.Clause → Type 0
IsGuess above k = (b : ℕ) × ((k.id ≡ above + b) × ((k.candidate ≡ Some b) × (k.is_free ≡ false)))

-- one of these, or a guess
abbrev pub Is : ℕ → List s.Clause → s.Clause → Type 0
Is above old k = In old k ⊎ IsGuess above k

each_left : (above : ℕ) (xs ys ks : List s.Clause) → All (Is above xs) ks → All (Is above (xs ++ ys)) ks
each_left above xs ys ks h = All-weaker (Is above xs) (Is above (xs ++ ys)) (λ k i. ⊎_elim (λ a. inl (in_left xs ys k a)) (λ b. inr b) i) ks h

each_right : (above : ℕ) (xs ys ks : List s.Clause) → All (Is above ys) ks → All (Is above (xs ++ ys)) ks
each_right above xs ys ks h = All-weaker (Is above ys) (Is above (xs ++ ys)) (λ k i. ⊎_elim (λ a. inl (in_right xs ys k a)) (λ b. inr b) i) ks h

-- two lists, each with its guesses
both : (above : ℕ) (xs ys ks ls : List s.Clause) → All (Is above xs) ks → All (Is above ys) ls → All (Is above (xs ++ ys)) (ks ++ ls)
both above xs ys ks ls h i = All-append (Is above (xs ++ ys)) ks ls (each_left above xs ys ks h) (each_right above xs ys ls i)

all_in : (xs : List s.Clause) → All (In xs) xs
all_in [] = All-nil (In [])
all_in (x ∷ xs) = All-cons (In (x ∷ xs)) x xs (inl refl) (All-weaker (In xs) (In (x ∷ xs)) (λ k i. inr i) xs (all_in xs))

kept : (above : ℕ) (xs : List s.Clause) → All (Is above xs) xs
kept above xs = All-weaker (In xs) (Is above xs) (λ k i. inl i) xs (all_in xs)

guesses_are : (above : ℕ) (p : Pos) (b : ℕ) (cs : List Claim) → All (Is above []) (map clause_of (guesses above p b cs))
guesses_are above p b [] = All-nil (Is above [])
guesses_are above p b (c ∷ cs) =
    All-cons (Is above []) (clause_of (guess above p b c)) (map clause_of (guesses above p (suc b) cs)) (inr (b, (refl, (refl, refl)))) (guesses_are above p (suc b) cs)

-- clauses, and guesses behind them
behind : (above : ℕ) (p : Pos) (b : ℕ) (l : Subjects) (ks : List r.Clause) → All (Is above (map clause_of ks)) (map clause_of (ks ++ guesses above p b (claims l)))
behind above p b l ks =
    let xs = map clause_of ks in
    let gs = map clause_of (guesses above p b (claims l)) in
    subst (λ ys. All (Is above ys) (map clause_of (ks ++ guesses above p b (claims l)))) (append-nil xs)
    (subst (All (Is above (xs ++ []))) (sym (map-append clause_of ks (guesses above p b (claims l)))) (both above xs [] xs gs (kept above xs) (guesses_are above p b (claims l))))

mutual
  st_are : (above : ℕ) (l : Subjects) (b : ℕ) (a : r.St) → All (Is above (clauses_in (st_of a))) (clauses_in (st_of (guessed_st above l b a)))
  st_are above l b (r.Label n) = All-nil (Is above [])
  st_are above l b (r.Assert k) = kept above (clause_of k ∷ [])
  st_are above l b (r.Assume e) = All-nil (Is above [])
  st_are above l b (r.Havoc xs) = All-nil (Is above [])
  st_are above l b (r.Assign p ts es) = All-nil (Is above [])
  st_are above l b (r.Invoke k) = All-nil (Is above [])
  st_are above l b (r.If n arms otherwise) = arms_are above l b n arms (sts_of otherwise) _ (sts_are above l (b + arms_guesses (size l) arms) otherwise)
  st_are above l b (r.While n p g is body) =
      both above (map clause_of is) (clauses_in (sts_of body)) (map clause_of (is ++ guesses above p b (claims l))) (clauses_in (sts_of (guessed_sts above l (b + size l) body))) (behind above p b l is)
      (sts_are above l (b + size l) body)
  st_are above l b (r.Break n) = All-nil (Is above [])
  st_are above l b (r.Goto ls) = All-nil (Is above [])
  st_are above l b r.Return = All-nil (Is above [])

  sts_are : (above : ℕ) (l : Subjects) (b : ℕ) (ss : r.Sts) → All (Is above (clauses_in (sts_of ss))) (clauses_in (sts_of (guessed_sts above l b ss)))
  sts_are above l b r.NoSt = All-nil (Is above [])
  sts_are above l b (r.Then a rest) =
      both above (clauses_in (st_of a)) (clauses_in (sts_of rest)) (clauses_in (st_of (guessed_st above l b a))) (clauses_in (sts_of (guessed_sts above l (b + st_guesses (size l) a) rest))) (st_are above l b a)
      (sts_are above l (b + st_guesses (size l) a) rest)

  arms_are : (above : ℕ) (l : Subjects) (b n : ℕ) (arms : r.Arms) (o o' : s.St) → All (Is above (clauses_in o)) (clauses_in o') →
      All (Is above (clauses_in (arms_of n arms o))) (clauses_in (arms_of n (guessed_arms above l b arms) o'))
  arms_are above l b n r.NoArm o o' h = h
  arms_are above l b n (r.Arm g body arms) o o' h =
      let c = sts_guesses (size l) body in
      both above (clauses_in (sts_of body)) (clauses_in (arms_of (suc n) arms o)) (clauses_in (sts_of (guessed_sts above l b body))) (clauses_in (arms_of (suc n) (guessed_arms above l (b + c) arms) o'))
      (sts_are above l b body) (arms_are above l (b + c) (suc n) arms o o' h)

procs_are : (named : ℕ → Ty) (v : Survey) (loops : List ℕ) (above b k : ℕ) (qs : List r.Proc) → All (Is above (specified (map (proc_of named) qs))) (specified (map (proc_of named) (guessed_procs v loops above b k qs)))
procs_are named v loops above b k [] = All-nil (Is above [])
procs_are named v loops above b k (q ∷ qs) =
    let next = next_proc v loops b k q in
    let c = required v k q in
    let old = specified (map (proc_of named) qs) in
    let new = specified (map (proc_of named) (guessed_procs v loops above next (suc k) qs)) in
    let rs = map clause_of (q.requires_ ++ guesses above q.pos b (claims c)) in
    let es = map clause_of (q.ensures_ ++ guesses above q.pos (b + size c) (claims (ensured v k q))) in
    both above (map clause_of q.requires_) (map clause_of q.ensures_ ++ old) rs (es ++ new) (behind above q.pos b c q.requires_)
    (both above (map clause_of q.ensures_) old es new (behind above q.pos (b + size c) (ensured v k q) q.ensures_) (procs_are named v loops above next (suc k) qs))

body_are : (v : Survey) (above b : ℕ) (m : r.Impl) (o : Option r.Proc) → All (Is above (clauses_in (sts_of m.body))) (clauses_in (sts_of (guessed_body v above b m o)))
body_are v above b m None = kept above (clauses_in (sts_of m.body))
body_are v above b m (Some q) = sts_are above (invariant v q m) b m.body

impls_are : (named : ℕ → Ty) (v : Survey) (qs : List r.Proc) (above : ℕ) (ns : List ℕ) (ms : List r.Impl) →
    All (Is above (in_bodies clauses_in (map (impl_of named) ms))) (in_bodies clauses_in (map (impl_of named) (guessed_impls v qs above ns ms)))
impls_are named v qs above ns [] = All-nil (Is above [])
impls_are named v qs above ns (m ∷ ms) =
    let b = get_or ns m.procedure 0 in
    let later = add_at m.procedure (impl_count v qs m) ns in
    both above (clauses_in (sts_of m.body)) (in_bodies clauses_in (map (impl_of named) ms)) (clauses_in (sts_of (guessed_body v above b m (slice_get qs m.procedure))))
    (in_bodies clauses_in (map (impl_of named) (guessed_impls v qs above later ms))) (body_are v above b m (slice_get qs m.procedure)) (impls_are named v qs above later ms)

pub clauses_are : (named : ℕ → Ty) (v : Survey) (loops starts : List ℕ) (above b : ℕ) (qs : List r.Proc) (ms : List r.Impl) →
    All (Is above (specified (map (proc_of named) qs) ++ in_bodies clauses_in (map (impl_of named) ms)))
    (specified (map (proc_of named) (guessed_procs v loops above b 0 qs)) ++ in_bodies clauses_in (map (impl_of named) (guessed_impls v qs above starts ms)))
clauses_are named v loops starts above b qs ms =
    both above (specified (map (proc_of named) qs)) (in_bodies clauses_in (map (impl_of named) ms)) (specified (map (proc_of named) (guessed_procs v loops above b 0 qs)))
    (in_bodies clauses_in (map (impl_of named) (guessed_impls v qs above starts ms))) (procs_are named v loops above b 0 qs) (impls_are named v qs above starts ms)
