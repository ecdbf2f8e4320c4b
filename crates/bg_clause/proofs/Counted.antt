-- Numbers counted on.
use Rattle.std.proofs.Common.{◌≡◌, ℕ, zero, suc, ◌+◌, ◌-◌, ◌≤◌, [], ◌∷◌, ◌++◌, map, ap, ◌∙◌, arith}
use Rattle.bg_sense.specs.Variables.{count_from}
use Rattle.bg_clause.proofs.Onward.{map_last}

count_last : (k n x : ℕ) → x ≡ k + n → count_from k (suc n) ≡ count_from k n ++ x ∷ []
count_last k zero x e = ap (λ y. y ∷ []) (let same : k ≡ x = omega (arith, e) in same)
count_last k (suc n) x e = ap (λ l. k ∷ l) (count_last (suc k) n x (omega (arith, e)))

-- one more, from zero on
pub counted_more : {A : Type 0} (f : ℕ → A) (x : ℕ) → map f (count_from 0 (x + 1)) ≡ map f (count_from 0 x) ++ f x ∷ []
counted_more f x =
    ap (λ n. map f (count_from 0 n)) (let next : x + 1 ≡ suc x = omega arith in next)
    ∙ ap (map f) (count_last 0 x x (omega arith))
    ∙ map_last f (count_from 0 x) x

-- one more, from k on
pub counted_on : {A : Type 0} (f : ℕ → A) (k x : ℕ) → k ≤ x → map f (count_from k (x + 1 - k)) ≡ map f (count_from k (x - k)) ++ f x ∷ []
counted_on f k x le =
    ap (λ n. map f (count_from k n)) (let next : x + 1 - k ≡ suc (x - k) = omega (arith, le) in next)
    ∙ ap (map f) (count_last k (x - k) x (omega (arith, le)))
    ∙ map_last f (count_from k (x - k)) x

pub ruleset count_rules = (counted_more, counted_on, map_last)
