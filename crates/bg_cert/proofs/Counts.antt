-- How often a path decides an atom, and the tallies that keep it.
use Rattle.std.proofs.Common.{◌≡◌, ℕ, zero, suc, ◌+◌, ◌<◌, ◌≤◌, ◌==◌, ◌||◌, Bool, true, false, cond, List, [], ◌∷◌, ◌++◌, set, length, get_or, replicate, ℤ, ◌↔◌, refl, sym, ap, ◌∙◌, arith}
use Rattle.std.specs.Prelude.{nat_lt}
use Rattle.std.proofs.lemmas.Bool.Decides.{nat_tests}
use Rattle.bg_formula.specs.Meaning.{same}
use Rattle.bg_cert.specs.declared.cert.Decision.{Decision}
use Rattle.bg_cert.specs.declared.cert.Decision.TheVariants.{Atom, AtMost}
use Rattle.bg_cert.specs.declared.tally.Tally.{Tally}
use Rattle.bg_cert.specs.Paths.{is_decision, decides}
use Rattle.bg_cert.proofs.Follow.{and_of}
use Rattle.bg_cert.specs.Counts.{times, tally_of, count_at, one_more, one_less}

-- an atom has a sign where it was given it some times
pub decides_times : (a : ℕ) (s : Bool) (ds : List Decision) → decides a s ds ≡ nat_lt 0 (times a s ds)
decides_times a s [] = refl
decides_times a s (d ∷ ds) = by_hit (is_decision a s d) (decides_times a s ds)
  where
    by_hit : (b : Bool) → decides a s ds ≡ nat_lt 0 (times a s ds) → (b || decides a s ds) ≡ nat_lt 0 (cond b (suc (times a s ds)) (times a s ds))
    by_hit true h = grind (arith, nat_tests)
    by_hit false h = h

behind : (b : Bool) (x y z : ℕ) → x ≡ y + z → cond b (suc x) x ≡ cond b (suc y) y + z
behind true x y z h = omega arith
behind false x y z h = h

last_alone : (b : Bool) → cond b 1 0 ≡ 0 + cond b 1 0
last_alone true = refl
last_alone false = refl

pub times_snoc : (a : ℕ) (s : Bool) (ds : List Decision) (d : Decision) → times a s (ds ++ (d ∷ [])) ≡ times a s ds + cond (is_decision a s d) 1 0
times_snoc a s [] d = last_alone (is_decision a s d)
times_snoc a s (e ∷ ds) d = behind (is_decision a s e) (times a s (ds ++ (d ∷ []))) (times a s ds) (cond (is_decision a s d) 1 0) (times_snoc a s ds d)

pub times_few : (a : ℕ) (s : Bool) (ds : List Decision) → times a s ds ≤ length ds
times_few a s [] = omega arith
times_few a s (d ∷ ds) = by_hit (is_decision a s d) (times_few a s ds)
  where
    by_hit : (b : Bool) → times a s ds ≤ length ds → cond b (suc (times a s ds)) (times a s ds) ≤ suc (length ds)
    by_hit true h = omega arith
    by_hit false h = omega arith

-- ---- tallies

pub count_none : (n a : ℕ) (s : Bool) → count_at (replicate n (record { yes = 0; no = 0 })) a s ≡ 0
count_none zero a s = refl
count_none (suc n) zero true = refl
count_none (suc n) zero false = refl
count_none (suc n) (suc a) s = count_none n a s

pub count_past : (ts : List Tally) (a : ℕ) (s : Bool) → length ts ≤ a → count_at ts a s ≡ 0
count_past [] a s h = refl
count_past (t ∷ ts) zero s h = absurd (omega arith)
count_past (t ∷ ts) (suc a) s h = count_past ts a s (omega arith)

pub counted_there : (ts : List Tally) (a : ℕ) (s : Bool) → 0 < count_at ts a s → a < length ts
counted_there [] a s h = absurd (omega arith)
counted_there (t ∷ ts) zero s h = omega arith
counted_there (t ∷ ts) (suc a) s h = let g = counted_there ts a s h in omega arith

pub count_here : (ts : List Tally) (a : ℕ) (s : Bool) (d : Tally) → a < length ts → count_at ts a s ≡ tally_of (get_or ts a d) s
count_here [] a s d h = absurd (omega arith)
count_here (t ∷ ts) zero s d h = refl
count_here (t ∷ ts) (suc a) s d h = count_here ts a s d (omega arith)

more_of : (t : Tally) (s r : Bool) → tally_of (one_more t s) r ≡ tally_of t r + cond (same r s) 1 0
more_of t true true = refl
more_of t true false = omega arith
more_of t false true = omega arith
more_of t false false = refl

less_of : (t : Tally) (s r : Bool) → 0 < tally_of t s → tally_of t r ≡ tally_of (one_less t s) r + cond (same r s) 1 0
less_of t true true h = omega arith
less_of t true false h = omega arith
less_of t false true h = omega arith
less_of t false false h = omega arith

zero_suc : (b : ℕ) → (zero == suc b) ≡ false
zero_suc b = grind (arith, nat_tests)

suc_zero : (b : ℕ) → (suc b == zero) ≡ false
suc_zero b = grind (arith, nat_tests)

suc_suc : (a b : ℕ) → (suc a == suc b) ≡ (a == b)
suc_suc a b = grind (arith, nat_tests)

-- one more decision of an atom
pub count_more : (ts : List Tally) (a : ℕ) (s : Bool) (d : Tally) → a < length ts → d ≡ get_or ts a d → (b : ℕ) (r : Bool) → count_at (set ts a (one_more d s)) b r ≡ count_at ts b r + cond (is_decision b r (Atom a s)) 1 0
count_more [] a s d h e b r = absurd (omega arith)
count_more (t ∷ ts) zero s d h e zero r = rw (← e) (more_of d s r)
count_more (t ∷ ts) zero s d h e (suc b) r = rw (suc_zero b) (omega arith)
count_more (t ∷ ts) (suc a) s d h e zero r = rw (zero_suc a) (omega arith)
count_more (t ∷ ts) (suc a) s d h e (suc b) r = rw (suc_suc b a) (count_more ts a s d (omega arith) e b r)

-- one less
pub count_less : (ts : List Tally) (a : ℕ) (s : Bool) (d : Tally) → a < length ts → d ≡ get_or ts a d → 0 < tally_of d s → (b : ℕ) (r : Bool) → count_at ts b r ≡ count_at (set ts a (one_less d s)) b r + cond (is_decision b r (Atom a s)) 1 0
count_less [] a s d h e z b r = absurd (omega arith)
count_less (t ∷ ts) zero s d h e z zero r = rw (← e) (less_of d s r z)
count_less (t ∷ ts) zero s d h e z (suc b) r = rw (suc_zero b) (omega arith)
count_less (t ∷ ts) (suc a) s d h e z zero r = rw (zero_suc a) (omega arith)
count_less (t ∷ ts) (suc a) s d h e z (suc b) r = rw (suc_suc b a) (count_less ts a s d (omega arith) e z b r)

-- ---- tallies that count a path

abbrev pub Counted : List Tally → List Decision → Type 0
Counted ts ds = (a : ℕ) (s : Bool) → count_at ts a s ≡ times a s ds

pub decides_there : (ts : List Tally) (ds : List Decision) (a : ℕ) (s : Bool) (d : Tally) → Counted ts ds → a < length ts → d ≡ get_or ts a d → nat_lt 0 (tally_of d s) ≡ decides a s ds
decides_there ts ds a s d k h e =
    ap (λ t. nat_lt 0 (tally_of t s)) e ∙ ap (nat_lt 0) (sym (count_here ts a s d h) ∙ k a s) ∙ sym (decides_times a s ds)

pub decides_past : (ts : List Tally) (ds : List Decision) (a : ℕ) (s : Bool) → Counted ts ds → length ts ≤ a → false ≡ decides a s ds
decides_past ts ds a s k h = ap (nat_lt 0) (sym (count_past ts a s h) ∙ k a s) ∙ sym (decides_times a s ds)

pub has_room : (ts : List Tally) (ds : List Decision) (a : ℕ) (s : Bool) (d : Tally) (n : ℕ) → Counted ts ds → a < length ts → d ≡ get_or ts a d → length ds < n → tally_of d s < n
has_room ts ds a s d n k h e l =
    let c : tally_of d s ≡ times a s ds = ap (λ t. tally_of t s) e ∙ sym (count_here ts a s d h) ∙ k a s in
    omega (arith, c, times_few a s ds)

pub counted_none : (n : ℕ) → Counted (replicate n (record { yes = 0; no = 0 })) []
counted_none n a s = count_none n a s

pub counted_more : (ts : List Tally) (ds : List Decision) (a : ℕ) (s : Bool) (d : Tally) → Counted ts ds → a < length ts → d ≡ get_or ts a d → Counted (set ts a (one_more d s)) (ds ++ (Atom a s ∷ []))
counted_more ts ds a s d k h e b r =
    count_more ts a s d h e b r ∙ ap (λ x. x + cond (is_decision b r (Atom a s)) 1 0) (k b r) ∙ sym (times_snoc b r ds (Atom a s))

-- a bound is of no atom
pub counted_bound : (ts : List Tally) (ds : List Decision) (x : ℕ) (n : ℤ) (s : Bool) → Counted ts ds ↔ Counted ts (ds ++ (AtMost x n s ∷ []))
counted_bound ts ds x n s =
    ((λ k b r. k b r ∙ sym (same_times b r)), (λ k b r. k b r ∙ same_times b r))
  where
    same_times : (b : ℕ) (r : Bool) → times b r (ds ++ (AtMost x n s ∷ [])) ≡ times b r ds
    same_times b r = times_snoc b r ds (AtMost x n s) ∙ omega arith

-- the last decision of an atom is counted
pub last_counted : (ts : List Tally) (ds : List Decision) (a : ℕ) (s : Bool) → Counted ts (ds ++ (Atom a s ∷ [])) → 0 < count_at ts a s
last_counted ts ds a s k =
    let hit : is_decision a s (Atom a s) ≡ true = and_of (a == a) (same s s) (grind (arith, nat_tests)) (itself s) in
    let t : times a s (ds ++ (Atom a s ∷ [])) ≡ times a s ds + cond true 1 0 = times_snoc a s ds (Atom a s) ∙ ap (λ b. times a s ds + cond b 1 0) hit in
    omega (arith, k a s, t)
  where
    itself : (b : Bool) → same b b ≡ true
    itself true = refl
    itself false = refl

pub last_there : (ts : List Tally) (ds : List Decision) (a : ℕ) (s : Bool) → Counted ts (ds ++ (Atom a s ∷ [])) → a < length ts
last_there ts ds a s k = counted_there ts a s (last_counted ts ds a s k)

pub last_tally : (ts : List Tally) (ds : List Decision) (a : ℕ) (s : Bool) (d : Tally) → Counted ts (ds ++ (Atom a s ∷ [])) → d ≡ get_or ts a d → 0 < tally_of d s
last_tally ts ds a s d k e =
    let c : count_at ts a s ≡ tally_of d s = count_here ts a s d (last_there ts ds a s k) ∙ ap (λ t. tally_of t s) (sym e) in
    let l = last_counted ts ds a s k in
    omega (arith, c, l)

pub counted_less : (ts : List Tally) (ds : List Decision) (a : ℕ) (s : Bool) (d : Tally) → Counted ts (ds ++ (Atom a s ∷ [])) → d ≡ get_or ts a d → Counted (set ts a (one_less d s)) ds
counted_less ts ds a s d k e b r =
    let l = count_less ts a s d (last_there ts ds a s k) e (last_tally ts ds a s d k e) b r in
    let t = times_snoc b r ds (Atom a s) in
    omega (arith, l, t, k b r)

-- ---- the same, as code changes them

pub counted_from : (n : ℕ) (ts : List Tally) (ds : List Decision) → ts ≡ replicate n (record { yes = 0; no = 0 }) → ds ≡ [] → Counted ts ds
counted_from n ts ds e z a s = rw (e, z) (count_none n a s)

pub more_kept : (ts : List Tally) (old new : List Decision) (a : ℕ) (s : Bool) (d m : Tally) → Counted ts old → a < length ts → d ≡ get_or ts a d → m ≡ one_more d s → new ≡ old ++ (Atom a s ∷ []) → Counted (set ts a m) new
more_kept ts old new a s d m k h e q p b r = rw (q, p) (counted_more ts old a s d k h e b r)

pub bound_kept : (ts : List Tally) (old new : List Decision) (x : ℕ) (n : ℤ) (s : Bool) → Counted ts old → new ≡ old ++ (AtMost x n s ∷ []) → Counted ts new
bound_kept ts old new x n s k p b r = rw p ((counted_bound ts old x n s).0 k b r)

pub less_kept : (ts : List Tally) (old new : List Decision) (a : ℕ) (s : Bool) (d m : Tally) → Counted ts old → old ≡ new ++ (Atom a s ∷ []) → d ≡ get_or ts a d → m ≡ one_less d s → Counted (set ts a m) new
less_kept ts old new a s d m k p e q b r =
    let g : Counted ts (new ++ (Atom a s ∷ [])) = (λ c t. rw (← p) (k c t)) in
    rw q (counted_less ts new a s d g e b r)

pub bound_gone : (ts : List Tally) (old new : List Decision) (x : ℕ) (n : ℤ) (s : Bool) → Counted ts old → old ≡ new ++ (AtMost x n s ∷ []) → Counted ts new
bound_gone ts old new x n s k p b r =
    let g : Counted ts (new ++ (AtMost x n s ∷ [])) = (λ c t. rw (← p) (k c t)) in
    (counted_bound ts new x n s).1 g b r

pub nothing_gone : (ts : List Tally) (old new : List Decision) → Counted ts old → new ≡ old → Counted ts new
nothing_gone ts old new k p b r = rw p (k b r)
