-- One turn of the loops over statements and arms, which are replaced in their places.
use Rattle.std.proofs.Common.{◌≡◌, ℕ, zero, suc, ◌+◌, ◌<◌, ◌≤◌, List, [], ◌∷◌, length, map, take, drop, slice_set, refl, ap, sym, ◌∙◌, arith}
use Rattle.std.specs.Prelude.{slice_index_or, get_or}
use Rattle.std.proofs.lemmas.List.{length-set, get_or-set_other}
use Rattle.bg_ast.specs.declared.resolved.Arm.{Arm}
use Rattle.bg_ast.specs.declared.resolved.Stmt.{Stmt}
use Rattle.bg_ast.specs.Resolved as r
use Rattle.bg_ast.specs.Views.{st_of, sts_in, arms_from, arm_view, guard_of}
use Rattle.bg_guess.specs.Claims.{Subjects}
use Rattle.bg_guess.specs.Loops.{size, st_guesses, sts_guesses, arms_guesses, guessed_st, guessed_sts, guessed_arms}
use Rattle.bg_guess.proofs.InFront.{in_front, arms_in_front}

pub sts_same : (above : ℕ) (s : Subjects) (xs : List Stmt) (i : ℕ) (a a' : Stmt) (b b' : ℕ) →
    i < length xs → a ≡ slice_index_or xs i a → st_of a' ≡ guessed_st above s b (st_of a) → b' ≡ b + st_guesses (size s) (st_of a) →
    in_front (map st_of (take (suc i) (slice_set xs i a'))) (guessed_sts above s b' (sts_in (drop (suc i) (slice_set xs i a'))))
    ≡ in_front (map st_of (take i xs)) (guessed_sts above s b (sts_in (drop i xs)))
sts_same above s [] i a a' b b' lt e f g = absurd (omega arith)
sts_same above s (x ∷ xs) zero a a' b b' lt e f g = rw (f, g, e) refl
sts_same above s (x ∷ xs) (suc i) a a' b b' lt e f g = ap (r.Then (st_of x)) (sts_same above s xs i a a' b b' (omega arith) e f g)

pub sts_count : (n : ℕ) (xs : List Stmt) (i : ℕ) (a a' : Stmt) (b b' : ℕ) →
    i < length xs → a ≡ slice_index_or xs i a → b' ≡ b + st_guesses n (st_of a) →
    b' + sts_guesses n (sts_in (drop (suc i) (slice_set xs i a'))) ≡ b + sts_guesses n (sts_in (drop i xs))
sts_count n [] i a a' b b' lt e g = absurd (omega arith)
sts_count n (x ∷ xs) zero a a' b b' lt e g = let h = ap (λ y. st_guesses n (st_of y)) e in omega (arith, g, h)
sts_count n (x ∷ xs) (suc i) a a' b b' lt e g = sts_count n xs i a a' b b' (omega arith) e g

pub arms_same : (above : ℕ) (s : Subjects) (xs : List Arm) (i : ℕ) (a a' : Arm) (b b' : ℕ) →
    i < length xs → a ≡ slice_index_or xs i a → guard_of a'.guard ≡ guard_of a.guard → sts_in a'.body.items ≡ guessed_sts above s b (sts_in a.body.items) →
    b' ≡ b + sts_guesses (size s) (sts_in a.body.items) →
    arms_in_front (map arm_view (take (suc i) (slice_set xs i a'))) (guessed_arms above s b' (arms_from (map arm_view (drop (suc i) (slice_set xs i a')))))
    ≡ arms_in_front (map arm_view (take i xs)) (guessed_arms above s b (arms_from (map arm_view (drop i xs))))
arms_same above s [] i a a' b b' lt e d f g = absurd (omega arith)
arms_same above s (x ∷ xs) zero a a' b b' lt e d f g = rw (d, f, g, e) refl
arms_same above s (x ∷ xs) (suc i) a a' b b' lt e d f g = ap (r.Arm (guard_of x.guard) (sts_in x.body.items)) (arms_same above s xs i a a' b b' (omega arith) e d f g)

pub arms_count : (n : ℕ) (xs : List Arm) (i : ℕ) (a a' : Arm) (b b' : ℕ) →
    i < length xs → a ≡ slice_index_or xs i a → b' ≡ b + sts_guesses n (sts_in a.body.items) →
    b' + arms_guesses n (arms_from (map arm_view (drop (suc i) (slice_set xs i a')))) ≡ b + arms_guesses n (arms_from (map arm_view (drop i xs)))
arms_count n [] i a a' b b' lt e g = absurd (omega arith)
arms_count n (x ∷ xs) zero a a' b b' lt e g = let h = ap (λ (y : Arm). sts_guesses n (sts_in y.body.items)) e in omega (arith, g, h)
arms_count n (x ∷ xs) (suc i) a a' b b' lt e g = arms_count n xs i a a' b b' (omega arith) e g

-- nothing is left behind the last
pub sts_done : (xs : List Stmt) (i : ℕ) (rest : r.Sts) → length xs < suc i → rest ≡ sts_in (drop i xs) → in_front (map st_of (take i xs)) rest ≡ sts_in xs
sts_done [] zero rest lt e = e
sts_done [] (suc i) rest lt e = e
sts_done (x ∷ xs) zero rest lt e = absurd (omega arith)
sts_done (x ∷ xs) (suc i) rest lt e = ap (r.Then (st_of x)) (sts_done xs i rest (omega arith) e)

pub sts_left : (xs : List Stmt) (i : ℕ) → length xs < suc i → sts_in (drop i xs) ≡ r.NoSt
sts_left [] zero lt = refl
sts_left [] (suc i) lt = refl
sts_left (x ∷ xs) zero lt = absurd (omega arith)
sts_left (x ∷ xs) (suc i) lt = sts_left xs i (omega arith)

pub arms_done : (xs : List Arm) (i : ℕ) (rest : r.Arms) → length xs < suc i → rest ≡ arms_from (map arm_view (drop i xs)) → arms_in_front (map arm_view (take i xs)) rest ≡ arms_from (map arm_view xs)
arms_done [] zero rest lt e = e
arms_done [] (suc i) rest lt e = e
arms_done (x ∷ xs) zero rest lt e = absurd (omega arith)
arms_done (x ∷ xs) (suc i) rest lt e = ap (r.Arm (guard_of x.guard) (sts_in x.body.items)) (arms_done xs i rest (omega arith) e)

pub arms_left : (xs : List Arm) (i : ℕ) → length xs < suc i → arms_from (map arm_view (drop i xs)) ≡ r.NoArm
arms_left [] zero lt = refl
arms_left [] (suc i) lt = refl
arms_left (x ∷ xs) zero lt = absurd (omega arith)
arms_left (x ∷ xs) (suc i) lt = arms_left xs i (omega arith)

-- the same, where the next place is written as a sum
pub sts_next : (above : ℕ) (s : Subjects) (xs : List Stmt) (i : ℕ) (a a' : Stmt) (b b' : ℕ) →
    i < length xs → a ≡ slice_index_or xs i a → st_of a' ≡ guessed_st above s b (st_of a) → b' ≡ b + st_guesses (size s) (st_of a) →
    (in_front (map st_of (take (i + 1) (slice_set xs i a'))) (guessed_sts above s b' (sts_in (drop (i + 1) (slice_set xs i a'))))
    ≡ in_front (map st_of (take i xs)) (guessed_sts above s b (sts_in (drop i xs))))
    × (b' + sts_guesses (size s) (sts_in (drop (i + 1) (slice_set xs i a'))) ≡ b + sts_guesses (size s) (sts_in (drop i xs)))
sts_next above s xs i a a' b b' lt e f g =
    let n : i + 1 ≡ suc i = omega arith in
    rw (n) (sts_same above s xs i a a' b b' lt e f g, sts_count (size s) xs i a a' b b' lt e g)

pub arms_next : (above : ℕ) (s : Subjects) (xs : List Arm) (i : ℕ) (a a' : Arm) (b b' : ℕ) →
    i < length xs → a ≡ slice_index_or xs i a → guard_of a'.guard ≡ guard_of a.guard → sts_in a'.body.items ≡ guessed_sts above s b (sts_in a.body.items) →
    b' ≡ b + sts_guesses (size s) (sts_in a.body.items) →
    (arms_in_front (map arm_view (take (i + 1) (slice_set xs i a'))) (guessed_arms above s b' (arms_from (map arm_view (drop (i + 1) (slice_set xs i a')))))
    ≡ arms_in_front (map arm_view (take i xs)) (guessed_arms above s b (arms_from (map arm_view (drop i xs)))))
    × (b' + arms_guesses (size s) (arms_from (map arm_view (drop (i + 1) (slice_set xs i a')))) ≡ b + arms_guesses (size s) (arms_from (map arm_view (drop i xs))))
arms_next above s xs i a a' b b' lt e d f g =
    let n : i + 1 ≡ suc i = omega arith in
    rw (n) (arms_same above s xs i a a' b b' lt e d f g, arms_count (size s) xs i a a' b b' lt e g)

-- what is behind a place stays
pub unvisited : {A : Type 0} (xs ys : List A) (i : ℕ) (a : A) → (length xs ≡ length ys) × ((k : ℕ) (d : A) → i ≤ k → get_or xs k d ≡ get_or ys k d) →
    (length (slice_set xs i a) ≡ length ys) × ((k : ℕ) (d : A) → i + 1 ≤ k → get_or (slice_set xs i a) k d ≡ get_or ys k d)
unvisited xs ys i a h =
    (length-set xs i a ∙ h.0, λ k d lt. get_or-set_other xs i k a d (omega arith) ∙ h.1 k d (omega arith))

-- all of it, once nothing is left
pub sts_end : (above : ℕ) (s : Subjects) (xs : List Stmt) (i b : ℕ) (whole : r.Sts) (n : ℕ) → length xs < suc i →
    in_front (map st_of (take i xs)) (guessed_sts above s b (sts_in (drop i xs))) ≡ whole →
    b + sts_guesses (size s) (sts_in (drop i xs)) ≡ n →
    (sts_in xs ≡ whole) × (b ≡ n)
sts_end above s xs i b whole n lt e f =
    let none = sts_left xs i lt in
    let count = ap (sts_guesses (size s)) none in
    (sym (sts_done xs i (guessed_sts above s b (sts_in (drop i xs))) lt (ap (guessed_sts above s b) none ∙ sym none)) ∙ e, omega (arith, f, count))

pub arms_end : (above : ℕ) (s : Subjects) (xs : List Arm) (i b : ℕ) (whole : r.Arms) (n : ℕ) → length xs < suc i →
    arms_in_front (map arm_view (take i xs)) (guessed_arms above s b (arms_from (map arm_view (drop i xs)))) ≡ whole →
    b + arms_guesses (size s) (arms_from (map arm_view (drop i xs))) ≡ n →
    (arms_from (map arm_view xs) ≡ whole) × (b ≡ n)
arms_end above s xs i b whole n lt e f =
    let none = arms_left xs i lt in
    let count = ap (arms_guesses (size s)) none in
    (sym (arms_done xs i (guessed_arms above s b (arms_from (map arm_view (drop i xs)))) lt (ap (guessed_arms above s b) none ∙ sym none)) ∙ e, omega (arith, f, count))
