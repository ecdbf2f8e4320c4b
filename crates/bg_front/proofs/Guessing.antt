-- A program with its guesses, where these are asked for, is what it was in all else.
use Rattle.std.proofs.Common.{◌≡◌, ◌+◌, ◌-◌, ◌^◌, ℕ, suc, min, Bool, true, false, List, [], ◌∷◌, length, refl, sym, ap, ◌∙◌, arith}
use Rattle.std.proofs.lemmas.List.{length-append}
use Rattle.bg_ast.specs.Resolved as r
use Rattle.bg_ast.specs.Meaning.{meaning_of}
use Rattle.bg_sense.specs.Typed.{IsTyped}
use Rattle.bg_sense.specs.Resolved.{IsResolved}
use Rattle.bg_sense.specs.Recursion.{HasNoRecursion}
use Rattle.bg_guess.proofs.ResolvedWhole.{names_long}
use Rattle.bg_guess.specs.Guessed.{Survey, guessed_impls, add_at, impl_count, above_all, loop_starts, loop_counts, survey_of, guess_names, guess_count, guessed}
use Rattle.bg_front.specs.Programs.{candidate_count, count_limit, too_many, with_guesses}

impls_long : (v : Survey) (qs : List r.Proc) (above : ℕ) (ns : List ℕ) (ms : List r.Impl) → length (guessed_impls v qs above ns ms) ≡ length ms
impls_long v qs above ns [] = refl
impls_long v qs above ns (m ∷ ms) = ap suc (impls_long v qs above (add_at m.procedure (impl_count v qs m) ns) ms)

pub implementations_long : (guess : Bool) (p : r.Program) → length (with_guesses guess p).implementations ≡ length p.implementations
implementations_long false p = refl
implementations_long true p =
    let v = survey_of p in
    impls_long v p.procedures (above_all p.procedures p.implementations) (loop_starts v (loop_counts v p.procedures p.implementations) (length p.candidates) 0 p.procedures) p.implementations

-- the guesses are counted
pub candidates_long : (p : r.Program) → length (guessed p).candidates ≡ length p.candidates + guess_count p
candidates_long p = length-append p.candidates (guess_names (guess_count p)) ∙ ap (λ n. length p.candidates + n) (names_long (guess_count p))

-- counted before they are made
pub counted_with : (guess : Bool) (p : r.Program) (d k n : ℕ) → guess ≡ true → d ≡ length p.candidates → k ≡ min (2 ^ 64 - 1) (guess_count p) → n ≡ min (d + k) (2 ^ 64 - 1) → n ≡ candidate_count (with_guesses guess p)
counted_with false p d k n h a b e = absurd (let bad : false ≡ true = h in cc)
counted_with true p d k n h a b e = let l = candidates_long p in omega (arith, a, b, e, l)

pub limit_with : (guess : Bool) (p : r.Program) (n m : ℕ) → n ≡ length p.implementations → m ≡ candidate_count (with_guesses guess p) → count_limit n m ≡ too_many (with_guesses guess p)
limit_with guess p n m e h =
    ap (λ k. count_limit k m) (e ∙ sym (implementations_long guess p)) ∙ ap (count_limit (length (with_guesses guess p).implementations)) h

pub typed_with : ((p : r.Program) → IsTyped (meaning_of p) → IsResolved (meaning_of p) → IsTyped (meaning_of (guessed p))) → (guess : Bool) (p : r.Program) → IsTyped (meaning_of p) → IsResolved (meaning_of p) → IsTyped (meaning_of (with_guesses guess p))
typed_with stay false p t h = t
typed_with stay true p t h = stay p t h

pub resolved_with : ((p : r.Program) → IsResolved (meaning_of p) → IsResolved (meaning_of (guessed p))) → (guess : Bool) (p : r.Program) → IsResolved (meaning_of p) → IsResolved (meaning_of (with_guesses guess p))
resolved_with stay false p h = h
resolved_with stay true p h = stay p h

pub no_recursion_with : (guess : Bool) (p : r.Program) → HasNoRecursion (meaning_of p) → HasNoRecursion (meaning_of (with_guesses guess p))
no_recursion_with false p h = h
no_recursion_with true p h = record { rank = h.rank; is_place = h.is_place; falls = h.falls }
