-- In their order, the guesses of a program are guarded by one candidate after the other.
use Rattle.std.proofs.Common.{◌≡◌, ℕ, zero, suc, ◌+◌, ◌<◌, ◌≤◌, Bool, true, false, not, List, [], ◌∷◌, ◌++◌, map, length, replicate, Option, Some, if◌then◌else◌, refl, ap, ◌∙◌, sym, subst, arith}
use Rattle.std.proofs.lemmas.Bool.Decides.{nat_tests}
use Rattle.std.specs.Prelude.{All, ◌==◌, slice_get, get_or, nat_lt, filter}
use Rattle.std.proofs.lemmas.List.{map-append, length-map, length-set, length-replicate, get_or-set_same, get_or-set_other}
use Rattle.std.proofs.lemmas.List.Elements.{All-head, All-tail, All-set, All-get_or, filter-append}
use Rattle.bg_base.specs.declared.pos.Pos.{Pos}
use Rattle.bg_ast.specs.Values.{Ty}
use Rattle.bg_ast.specs.Resolved as r
use Rattle.bg_ast.specs.Syntax as s
use Rattle.bg_ast.specs.Meaning.{clause_of, proc_of, impl_of, named_of, st_of, sts_of, arms_of, meaning_of}
use Rattle.bg_sense.specs.Variables.{count_from}
use Rattle.bg_sense.specs.Resolved.{clauses_in, specified, in_bodies, clauses_of, IsResolved}
use Rattle.bg_guess.specs.declared.claim.Claim.{Claim}
use Rattle.bg_guess.specs.Claims.{Subjects, claims}
use Rattle.bg_guess.specs.Loops.{size, guesses, st_guesses, sts_guesses, arms_guesses, guessed_st, guessed_sts, guessed_arms}
use Rattle.bg_guess.specs.Guessed.{Survey, survey_of, required, ensured, invariant, proc_count, count_of, impl_count, add_at, with_loops, next_proc, loop_counts, loop_starts, above_all, guessed_procs, guessed_body, guessed_impl, guessed_impls, guess_count, guessed}
use Rattle.bg_guess.specs.Erased.{is_own}
use Rattle.bg_guess.specs.Order.{guards, st_guards, sts_guards, arms_guards, impls_guards, procs_guards, in_order}
use Rattle.bg_guess.proofs.Rows.{total, total_is, impls_sum, sum_empty, loops_long}
use Rattle.bg_guess.proofs.ResolvedWhole.{starts_long, unmapped}
use Rattle.bg_guess.proofs.Passing.{Declared, all_left, all_right, all_declared}
use Rattle.bg_guess.proofs.Erasing.{starts_above}

-- one candidate after the other
abbrev row : ℕ → ℕ → List (Option ℕ)
row b c = map Some (count_from b c)

row_join : (b m a c : ℕ) → m ≡ b + a → row b (a + c) ≡ row b a ++ row m c
row_join b m zero c e =
    let none : 0 + c ≡ c = omega arith in
    let same : b ≡ m = omega (arith, e) in
    ap (row b) none ∙ ap (λ z. row z c) same
row_join b m (suc a) c e =
    let more : suc a + c ≡ suc (a + c) = omega arith in
    ap (row b) more ∙ ap (λ z. Some b ∷ z) (row_join (suc b) m a c (omega (arith, e)))

joined : (xs ys zs ws : List (Option ℕ)) → xs ≡ ys → zs ≡ ws → xs ++ zs ≡ ys ++ ws
joined xs ys zs ws h k = rw (h, k) refl

guards_append : (n : ℕ) (ks ls : List r.Clause) → guards n (ks ++ ls) ≡ guards n ks ++ guards n ls
guards_append n ks ls =
    ap (map (λ (k : r.Clause). k.candidate)) (filter-append (λ k. not (is_own n k)) ks ls)
    ∙ map-append (λ (k : r.Clause). k.candidate) (filter (λ k. not (is_own n k)) ks) (filter (λ k. not (is_own n k)) ls)

own_none : (n : ℕ) (ks : List r.Clause) → All (Declared n) (map clause_of ks) → guards n ks ≡ []
own_none n [] h = refl
own_none n (k ∷ ks) h = rw (All-head (Declared n) (clause_of k) (map clause_of ks) h) (own_none n ks (All-tail (Declared n) (clause_of k) (map clause_of ks) h))

new_row : (n above : ℕ) (p : Pos) (b : ℕ) (cs : List Claim) → n ≤ b → guards n (guesses above p b cs) ≡ row b (length cs)
new_row n above p b [] lt = refl
new_row n above p b (c ∷ cs) lt =
    let no : nat_lt b n ≡ false = grind (arith, nat_tests) in
    rw (no) (ap (λ z. Some b ∷ z) (new_row n above p (suc b) cs (omega (arith, lt))))

-- clauses, and guesses behind them
clauses_row : (n above : ℕ) (p : Pos) (b : ℕ) (l : Subjects) (ks : List r.Clause) → n ≤ b → All (Declared n) (map clause_of ks) → guards n (ks ++ guesses above p b (claims l)) ≡ row b (size l)
clauses_row n above p b l ks lt h = guards_append n ks (guesses above p b (claims l)) ∙ joined _ _ _ _ (own_none n ks h) (new_row n above p b (claims l) lt)

mutual
  st_row : (n above : ℕ) (l : Subjects) (b : ℕ) (a : r.St) → n ≤ b → All (Declared n) (clauses_in (st_of a)) → st_guards n (guessed_st above l b a) ≡ row b (st_guesses (size l) a)
  st_row n above l b (r.Label x) lt h = refl
  st_row n above l b (r.Assert k) lt h = refl
  st_row n above l b (r.Assume e) lt h = refl
  st_row n above l b (r.Havoc xs) lt h = refl
  st_row n above l b (r.Assign p ts es) lt h = refl
  st_row n above l b (r.Invoke k) lt h = refl
  st_row n above l b (r.If j arms otherwise) lt h =
      let c = arms_guesses (size l) arms in
      let one = arms_row n above l b j arms (sts_of otherwise) lt h in
      let two = sts_row n above l (b + c) otherwise (omega (arith, lt)) one.1 in
      joined _ _ _ _ one.0 two ∙ sym (row_join b (b + c) c (sts_guesses (size l) otherwise) refl)
  st_row n above l b (r.While j p g is body) lt h =
      let one = clauses_row n above p b l is lt (all_left (Declared n) (map clause_of is) (clauses_in (sts_of body)) h) in
      let two = sts_row n above l (b + size l) body (omega (arith, lt)) (all_right (Declared n) (map clause_of is) (clauses_in (sts_of body)) h) in
      joined _ _ _ _ one two ∙ sym (row_join b (b + size l) (size l) (sts_guesses (size l) body) refl)
  st_row n above l b (r.Break k) lt h = refl
  st_row n above l b (r.Goto ls) lt h = refl
  st_row n above l b r.Return lt h = refl

  sts_row : (n above : ℕ) (l : Subjects) (b : ℕ) (ss : r.Sts) → n ≤ b → All (Declared n) (clauses_in (sts_of ss)) → sts_guards n (guessed_sts above l b ss) ≡ row b (sts_guesses (size l) ss)
  sts_row n above l b r.NoSt lt h = refl
  sts_row n above l b (r.Then a rest) lt h =
      let c = st_guesses (size l) a in
      let one = st_row n above l b a lt (all_left (Declared n) (clauses_in (st_of a)) (clauses_in (sts_of rest)) h) in
      let two = sts_row n above l (b + c) rest (omega (arith, lt)) (all_right (Declared n) (clauses_in (st_of a)) (clauses_in (sts_of rest)) h) in
      joined _ _ _ _ one two ∙ sym (row_join b (b + c) c (sts_guesses (size l) rest) refl)

  arms_row : (n above : ℕ) (l : Subjects) (b j : ℕ) (arms : r.Arms) (o : s.St) → n ≤ b → All (Declared n) (clauses_in (arms_of j arms o)) →
      (arms_guards n (guessed_arms above l b arms) ≡ row b (arms_guesses (size l) arms)) × All (Declared n) (clauses_in o)
  arms_row n above l b j r.NoArm o lt h = (refl, h)
  arms_row n above l b j (r.Arm g body arms) o lt h =
      let c = sts_guesses (size l) body in
      let rest = clauses_in (arms_of (suc j) arms o) in
      let one = sts_row n above l b body lt (all_left (Declared n) (clauses_in (sts_of body)) rest h) in
      let two = arms_row n above l (b + c) (suc j) arms o (omega (arith, lt)) (all_right (Declared n) (clauses_in (sts_of body)) rest h) in
      (joined _ _ _ _ one two.0 ∙ sym (row_join b (b + c) c (arms_guesses (size l) arms) refl), two.1)

-- ---- implementations

there : (qs : List r.Proc) (k : ℕ) → k < length qs → (q : r.Proc) × (slice_get qs k ≡ Some q)
there [] k lt = absurd (omega (arith, lt))
there (q ∷ qs) zero lt = (q, refl)
there (q ∷ qs) (suc k) lt = there qs k (omega (arith, lt))

body_row : (n : ℕ) (v : Survey) (qs : List r.Proc) (above b : ℕ) (m : r.Impl) → m.procedure < length qs → n ≤ b → All (Declared n) (clauses_in (sts_of m.body)) →
    sts_guards n (guessed_impl v qs above b m).body ≡ row b (impl_count v qs m)
body_row n v qs above b m inside lt h =
    let q = there qs m.procedure inside in
    let P = λ (o : Option r.Proc). sts_guards n (guessed_body v above b m o) ≡ row b (count_of v m o) in
    subst P (sym q.1) (sts_row n above (invariant v q.0 m) b m.body lt h)

-- how many guesses the loops of the implementations of procedure k have
abbrev loops_of : Survey → List r.Proc → ℕ → List r.Impl → ℕ
loops_of v qs k [] = 0
loops_of v qs k (m ∷ ms) = (if m.procedure == k then impl_count v qs m else 0) + loops_of v qs k ms

-- one place of a list is added to
at_place : (p c k : ℕ) (ns : List ℕ) → p < length ns → get_or (add_at p c ns) k 0 ≡ get_or ns k 0 + (if p == k then c else 0)
at_place p c k ns lt = by (p == k) refl
  where
    by : (b : Bool) → (p == k) ≡ b → get_or (add_at p c ns) k 0 ≡ get_or ns k 0 + (if p == k then c else 0)
    by true e =
        let same : p ≡ k = grind (arith, nat_tests) in
        rw (e) (sym (ap (λ z. get_or (add_at p c ns) z 0) same) ∙ (get_or-set_same ns p (get_or ns p 0 + c) 0 lt ∙ ap (λ z. get_or ns z 0 + c) same))
    by false e =
        let apart : k ≡ p → ⊥ = λ f. grind (arith, nat_tests) in
        let other = get_or-set_other ns p k (get_or ns p 0 + c) 0 apart in
        rw (e) (omega (arith, other))

loops_are : (v : Survey) (qs : List r.Proc) (k : ℕ) (cs : List ℕ) (ms : List r.Impl) → All (λ (m : r.Impl). m.procedure < length cs) ms → get_or (with_loops v qs ms cs) k 0 ≡ get_or cs k 0 + loops_of v qs k ms
loops_are v qs k cs [] h = omega arith
loops_are v qs k cs (m ∷ ms) h =
    let c = impl_count v qs m in
    let p = m.procedure in
    let same = length-set cs p (get_or cs p 0 + c) in
    let here = at_place p c k cs (All-head (λ (z : r.Impl). z.procedure < length cs) m ms h) in
    let rest = loops_are v qs k (add_at p c cs) ms (subst (λ n. All (λ (z : r.Impl). z.procedure < n) ms) (sym same) (All-tail (λ (z : r.Impl). z.procedure < length cs) m ms h)) in
    omega (arith, here, rest)

impls_row : (n k : ℕ) (named : ℕ → Ty) (v : Survey) (qs : List r.Proc) (above : ℕ) (ns : List ℕ) (ms : List r.Impl) → All (λ j. n ≤ j) ns → length ns ≡ length qs →
    All (λ (m : r.Impl). m.procedure < length qs) ms → All (Declared n) (in_bodies clauses_in (map (impl_of named) ms)) →
    impls_guards n k (guessed_impls v qs above ns ms) ≡ row (get_or ns k 0) (loops_of v qs k ms)
impls_row n k named v qs above ns [] lt long i h = refl
impls_row n k named v qs above ns (m ∷ ms) lt long i h =
    let I = λ (z : r.Impl). z.procedure < length qs in
    let p = m.procedure in
    let c = impl_count v qs m in
    let b = get_or ns p 0 in
    let own = clauses_in (sts_of m.body) in
    let rest = in_bodies clauses_in (map (impl_of named) ms) in
    let inside = All-head I m ms i in
    let in' : p < length ns = omega (arith, inside, long) in
    let least = All-get_or (λ j. n ≤ j) ns p 0 in' lt in
    let one = body_row n v qs above b m inside least (all_left (Declared n) own rest h) in
    let two =
    impls_row n k named v qs above (add_at p c ns) ms (All-set (λ j. n ≤ j) ns p (b + c) (omega (arith, least)) lt) (length-set ns p (b + c) ∙ long) (All-tail I m ms i) (all_right (Declared n) own rest h)
    in
    by (p == k) refl b c one (two ∙ ap (λ z. row z (loops_of v qs k ms)) (at_place p c k ns in'))
  where
    body : r.Sts
    body = (guessed_impl v qs above (get_or ns m.procedure 0) m).body

    later : List (Option ℕ)
    later = impls_guards n k (guessed_impls v qs above (add_at m.procedure (impl_count v qs m) ns) ms)

    by : (t : Bool) → (m.procedure == k) ≡ t → (b c : ℕ) → sts_guards n body ≡ row (get_or ns m.procedure 0) (impl_count v qs m) →
        later ≡ row (get_or ns k 0 + (if m.procedure == k then impl_count v qs m else 0)) (loops_of v qs k ms) →
        (if m.procedure == k then sts_guards n body else []) ++ later ≡ row (get_or ns k 0) ((if m.procedure == k then impl_count v qs m else 0) + loops_of v qs k ms)
    by true e b c one two =
        let same : m.procedure ≡ k = grind (arith, nat_tests) in
        let here = one ∙ ap (λ z. row (get_or ns z 0) (impl_count v qs m)) same in
        let next = rw (e) at two in
        rw (e) (joined _ _ _ _ here next ∙ sym (row_join (get_or ns k 0) (get_or ns k 0 + impl_count v qs m) (impl_count v qs m) (loops_of v qs k ms) refl))
    by false e b c one two =
        let next = rw (e) at two in
        let z1 : get_or ns k 0 + 0 ≡ get_or ns k 0 = omega arith in
        let z2 : loops_of v qs k ms ≡ 0 + loops_of v qs k ms = omega arith in
        rw (e) (next ∙ (ap (λ z. row z (loops_of v qs k ms)) z1 ∙ ap (row (get_or ns k 0)) z2))

-- ---- procedures

procs_row : (n : ℕ) (named : ℕ → Ty) (v : Survey) (loops starts : List ℕ) (above b k top : ℕ) (ms : List r.Impl) (qs : List r.Proc) (cs : List ℕ) → n ≤ b → length qs ≡ length cs → k + length qs ≡ top →
    ((j : ℕ) → get_or loops (k + j) 0 ≡ get_or cs j 0) → ((j : ℕ) → get_or starts (k + j) 0 ≡ get_or (loop_starts v loops b k qs) j 0) →
    ((j : ℕ) → j < top → impls_guards n j ms ≡ row (get_or starts j 0) (get_or loops j 0)) →
    All (Declared n) (specified (map (proc_of named) qs)) → procs_guards n ms k (guessed_procs v loops above b k qs) ≡ row b (total v k qs cs)
procs_row n named v loops starts above b k top ms [] cs lt e f h g i d = refl
procs_row n named v loops starts above b k top ms (q ∷ qs) [] lt e f h g i d = absurd (omega (arith, e))
procs_row n named v loops starts above b k top ms (q ∷ qs) (c ∷ cs) lt e f h g i d =
    let at : k + 0 ≡ k = omega arith in
    let here : get_or loops k 0 ≡ c = sym (ap (λ z. get_or loops z 0) at) ∙ h 0 in
    let begin : get_or starts k 0 ≡ b + proc_count v k q = sym (ap (λ z. get_or starts z 0) at) ∙ g 0 in
    let next = next_proc v loops b k q in
    let rs = map clause_of q.requires_ in
    let es = map clause_of q.ensures_ in
    let others = specified (map (proc_of named) qs) in
    let later = all_right (Declared n) rs (es ++ others) d in
    let x = size (required v k q) in
    let y = size (ensured v k q) in
    let t = total v (suc k) qs cs in
    let shift = λ (j : ℕ). let move : suc k + j ≡ k + suc j = omega arith in move in
    let one = clauses_row n above q.pos b (required v k q) q.requires_ lt (all_left (Declared n) rs (es ++ others) d) in
    let two = clauses_row n above q.pos (b + x) (ensured v k q) q.ensures_ (omega (arith, lt)) (all_left (Declared n) es others later) in
    let three = i k (omega (arith, f)) ∙ (ap (λ z. row z (get_or loops k 0)) begin ∙ ap (row (b + proc_count v k q)) here) in
    let four =
    procs_row n named v loops starts above next (suc k) top ms qs cs (omega (arith, lt)) (omega (arith, e)) (omega (arith, f)) (λ j. ap (λ z. get_or loops z 0) (shift j) ∙ h (suc j))
    (λ j. ap (λ z. get_or starts z 0) (shift j) ∙ g (suc j)) i (all_right (Declared n) es others later)
    in
    let j3 = row_join (b + proc_count v k q) next c t (omega (arith, here)) in
    let j2 = row_join (b + x) (b + proc_count v k q) y (c + t) (omega arith) in
    let j1 = row_join b (b + x) x (y + (c + t)) refl in
    let sum : x + (y + (c + t)) ≡ proc_count v k q + (c + t) = omega arith in
    joined _ _ _ _ one (joined _ _ _ _ two (joined _ _ _ _ three four ∙ sym j3) ∙ sym j2) ∙ (sym j1 ∙ ap (row b) sum)

abbrev none_yet : ℕ → List ℕ
none_yet n = replicate n 0

no_loops : (n k : ℕ) → get_or (none_yet n) k 0 ≡ 0
no_loops zero k = refl
no_loops (suc n) zero = refl
no_loops (suc n) (suc k) = no_loops n k

pub ordered : (p : r.Program) → IsResolved (meaning_of p) → in_order (length p.candidates) (guessed p) ≡ map Some (count_from (length p.candidates) (guess_count p))
ordered p h =
    let named = named_of p.types in
    let v = survey_of p in
    let qs = p.procedures in
    let ms = p.implementations in
    let n = length p.candidates in
    let zeros : List ℕ = replicate (length qs) 0 in
    let loops = loop_counts v qs ms in
    let starts = loop_starts v loops n 0 qs in
    let above = above_all qs ms in
    let specs = specified (map (proc_of named) qs) in
    let bodies = in_bodies clauses_in (map (impl_of named) ms) in
    let d = all_declared n (clauses_of (meaning_of p)) h.candidates in
    let many : length zeros ≡ length qs = length-replicate (length qs) 0 in
    let fit = subst (λ k. All (λ (m : r.Impl). m.procedure < k) ms) (length-map qs (proc_of named)) (unmapped (λ k. k < length (meaning_of p).procedures) named ms h.implemented) in
    let inside = subst (λ k. All (λ (m : r.Impl). m.procedure < k) ms) (sym many) fit in
    let long : length qs ≡ length loops = sym (loops_long v qs zeros ms ∙ many) in
    let each = λ (j : ℕ). impls_row n j named v qs above starts ms (starts_above n v loops n 0 qs (omega arith)) (starts_long v loops n 0 qs) fit (all_right (Declared n) specs bodies d) in
    let told = λ (j : ℕ). let a = loops_are v qs j zeros ms inside in let b = no_loops (length qs) j in let e : loops_of v qs j ms ≡ get_or loops j 0 = omega (arith, a, b) in e in
    let from = λ (j : ℕ). let z : 0 + j ≡ j = omega arith in z in
    let whole =
    procs_row n named v loops starts above n 0 (length qs) (guessed p).implementations qs loops (omega arith) long (omega arith) (λ j. ap (λ z. get_or loops z 0) (from j)) (λ j. ap (λ z. get_or starts z 0) (from j))
    (λ j lt. each j ∙ ap (row (get_or starts j 0)) (told j)) (all_left (Declared n) specs bodies d)
    in
    let count = total_is v 0 qs loops long in
    let added = impls_sum v qs zeros ms inside in
    let none = sum_empty (length qs) in
    let all : total v 0 qs loops ≡ guess_count p = omega (arith, count, added, none) in
    whole ∙ ap (row n) all
