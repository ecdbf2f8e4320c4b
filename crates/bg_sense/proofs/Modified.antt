-- A procedure modifies the globals that its list names, in their order, where that is the order of declaration.
use Rattle.std.proofs.Common.{◌≡◌, ℕ, zero, suc, ◌+◌, ◌<◌, ◌≤◌, Bool, true, false, List, [], ◌∷◌, length, map, Some, refl, sym, ap, ◌∙◌, arith, ⊎_elim}
use Rattle.std.specs.Prelude.{◌||◌, if◌then◌else◌, ◌==◌, filter, slice_get}
use Rattle.std.proofs.lemmas.Bool.{eqb-true, eq-eqb}
use Rattle.bg_ast.specs.Syntax.{Var, Global, Proc, Prog}
use Rattle.bg_sense.specs.Variables.{is_among, count_from, modified}
use Rattle.bg_sense.specs.Resolved.{Rise, IsResolved}
use Rattle.bg_sense.proofs.Bools.{bool_cases}

none_kept : (xs : List Var) → filter (is_among []) xs ≡ []
none_kept [] = refl
none_kept (x ∷ xs) = none_kept xs

or_false : (a b : Bool) → a ≡ false → b ≡ false → (a || b) ≡ false
or_false true b e f = e
or_false false b e f = f

if_kept : (b : Bool) (x : Var) (xs ys : List Var) → b ≡ true → xs ≡ ys → (if b then x ∷ xs else xs) ≡ x ∷ ys
if_kept true x xs ys e f = ap (λ l. x ∷ l) f
if_kept false x xs ys e f = absurd (let bad : ⊥ = cc in bad)

if_dropped : (b : Bool) (x : Var) (xs ys : List Var) → b ≡ false → xs ≡ ys → (if b then x ∷ xs else xs) ≡ ys
if_dropped true x xs ys e f = absurd (let bad : ⊥ = cc in bad)
if_dropped false x xs ys e f = f

if_alike : (a b : Bool) (x : Var) (xs ys : List Var) → a ≡ b → xs ≡ ys → (if a then x ∷ xs else xs) ≡ (if b then x ∷ ys else ys)
if_alike true true x xs ys e f = ap (λ l. x ∷ l) f
if_alike true false x xs ys e f = absurd (let bad : ⊥ = cc in bad)
if_alike false true x xs ys e f = absurd (let bad : ⊥ = cc in bad)
if_alike false false x xs ys e f = f

numbers_apart : (x y : ℕ) → x < y → (x == y) ≡ false
numbers_apart x y h =
    ⊎_elim (λ e. absurd (let same = eqb-true x y e in omega arith)) (λ e. e) (bool_cases (x == y))

-- a number below all of a list is not one of it
not_among : (ms : List ℕ) (k low high : ℕ) → Rise low high ms → k < low → is_among (map Global ms) (Global k) ≡ false
not_among [] k low high h l = refl
not_among (m ∷ ms) k low high h l =
    or_false (m == k) (is_among (map Global ms) (Global k)) (turned m k (let a = h.0 in omega arith)) (not_among ms k (suc m) high h.2 (let a = h.0 in omega arith))
  where
    turned : (x y : ℕ) → y < x → (x == y) ≡ false
    turned x y lt =
        ⊎_elim (λ e. absurd (let same = eqb-true x y e in omega arith)) (λ e. e) (bool_cases (x == y))

-- the first number of a list is none of those counted from above it
head_gone : (ms : List ℕ) (x k n : ℕ) → x < k → filter (is_among (map Global (x ∷ ms))) (map Global (count_from k n)) ≡ filter (is_among (map Global ms)) (map Global (count_from k n))
head_gone ms x k zero h = refl
head_gone ms x k (suc n) h =
    if_alike
    (is_among (map Global (x ∷ ms)) (Global k))
    (is_among (map Global ms) (Global k))
    (Global k)
    _
    _
    (ap (λ b. b || is_among (map Global ms) (Global k)) (numbers_apart x k h))
    (head_gone ms x (suc k) n (omega arith))

as_counted : (ms : List ℕ) (k n high : ℕ) → high ≡ k + n → Rise k high ms → filter (is_among (map Global ms)) (map Global (count_from k n)) ≡ map Global ms
as_counted [] k n high e h = none_kept (map Global (count_from k n))
as_counted (m ∷ ms) k zero high e h = absurd (let a = h.0 in let b = h.1 in omega arith)
as_counted (m ∷ ms) k (suc n) high e h =
    on (m == k) refl (as_counted ms (suc k) n high (omega arith)) (as_counted (m ∷ ms) (suc k) n high (omega arith))
  where
    on : (b : Bool) → (m == k) ≡ b → (Rise (suc k) high ms → filter (is_among (map Global ms)) (map Global (count_from (suc k) n)) ≡ map Global ms) → (Rise (suc k) high (m ∷ ms) → filter (is_among (map Global (m ∷ ms))) (map Global (count_from (suc k) n)) ≡ map Global (m ∷ ms)) → filter (is_among (map Global (m ∷ ms))) (Global k ∷ map Global (count_from (suc k) n)) ≡ map Global (m ∷ ms)
    on true q one two =
        let same : m ≡ k = eqb-true m k q in
        if_kept (is_among (map Global (m ∷ ms)) (Global k)) (Global k) _ (map Global ms) (ap (λ b. b || is_among (map Global ms) (Global k)) q) (head_gone ms m (suc k) n (omega arith) ∙ one (Rattle.std.proofs.Common.subst (λ x. Rise (suc x) high ms) same h.2))
        ∙ ap (λ x. Global x ∷ map Global ms) (sym same)
    on false q one two =
        let less : k < m = (let a = h.0 in let apart : (m ≡ k → ⊥) = (λ s. (let yes' : (m == k) ≡ true = eq-eqb m k s in let bad : ⊥ = cc in bad)) in omega arith) in
        if_dropped (is_among (map Global (m ∷ ms)) (Global k)) (Global k) _ (map Global (m ∷ ms)) (not_among (m ∷ ms) k m high (omega arith, h.1, h.2) less) (two (omega arith, h.1, h.2))

pub as_listed : (p : Prog) (k : ℕ) (q : Proc) → IsResolved p → slice_get p.procedures k ≡ Some q → modified p q ≡ map Global q.modifies
as_listed p k q h e =
    as_counted q.modifies 0 (length p.globals) (length p.globals) (omega arith) (h.modifies k q e)
