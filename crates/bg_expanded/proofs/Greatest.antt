-- The greatest of lists.
use Rattle.std.proofs.Common.{◌≡◌, ℕ, zero, suc, ◌<◌, ◌≤◌, max, List, [], ◌∷◌, ◌++◌, map, length, get_or, take, Contains, refl, sym, ap, ◌∙◌, arith, add-one}
use mathlib.Core.Logic.{dite}
use native.Mathlib.Decide.{dec_lt}
use Rattle.std.proofs.lemmas.List.{take_more, take_all}
use Rattle.bg_expanded.specs.Chains.{greatest_below}
use Rattle.bg_expanded.specs.Ranked.{greatest_of}

pub greatest_append : (xs ys : List ℕ) → greatest_of (xs ++ ys) ≡ max (greatest_of xs) (greatest_of ys)
greatest_append [] ys = omega arith
greatest_append (x ∷ xs) ys = let h = greatest_append xs ys in omega arith

contains_head : (x : ℕ) (xs : List ℕ) → Contains (x ∷ xs) x
contains_head x xs = (0, omega arith, refl)

contains_tail : (x y : ℕ) (xs : List ℕ) → Contains xs y → Contains (x ∷ xs) y
contains_tail x y xs h = (suc h.0, omega (arith, h.1), h.2)

pub greatest_same : (f g : ℕ → ℕ) (xs : List ℕ) → ((x : ℕ) → Contains xs x → f x ≡ g x) → greatest_of (map f xs) ≡ greatest_of (map g xs)
greatest_same f g [] h = refl
greatest_same f g (x ∷ xs) h =
    let a = h x (contains_head x xs) in
    let b = greatest_same f g xs (λ y k. h y (contains_tail x y xs k)) in
    omega arith

pub greatest_within : (f : ℕ → ℕ) (most : ℕ) (xs : List ℕ) → ((x : ℕ) → f x ≤ most) → greatest_of (map f xs) ≤ most
greatest_within f most [] h = omega arith
greatest_within f most (x ∷ xs) h = let a = h x in let b = greatest_within f most xs h in omega arith

at_least : (f : ℕ → ℕ) (xs : List ℕ) (k x : ℕ) → k < length xs → get_or xs k x ≡ x → f x ≤ greatest_of (map f xs)
at_least f [] k x h e = absurd (omega arith)
at_least f (y ∷ xs) zero x h e = let same : f y ≡ f x = ap f e in omega arith
at_least f (y ∷ xs) (suc k) x h e = let l = at_least f xs k x (omega arith) e in omega arith

pub greatest_has : (f : ℕ → ℕ) (xs : List ℕ) (x : ℕ) → Contains xs x → f x ≤ greatest_of (map f xs)
greatest_has f xs x h = at_least f xs h.0 x h.1 h.2

pub below_within : (f : ℕ → ℕ) (most n : ℕ) → ((x : ℕ) → f x ≤ most) → greatest_below f n ≤ most
below_within f most zero h = omega arith
below_within f most (suc n) h = let a = h n in let b = below_within f most n h in omega arith

pub below_has : (f : ℕ → ℕ) (n x : ℕ) → x < n → f x ≤ greatest_below f n
below_has f zero x h = absurd (omega arith)
below_has f (suc n) x h =
    dite (dec_lt x n)
    (λ less. let a = below_has f n x less in omega arith)
    (λ not. let is : x ≡ n = omega arith in let same : f x ≡ f n = ap f is in omega arith)

-- a table of all numbers below its length
prefix : (f : ℕ → ℕ) (deep : List ℕ) (n : ℕ) → n ≤ length deep → ((x : ℕ) → x < length deep → get_or deep x 0 ≡ f x) → greatest_of (take n deep) ≡ greatest_below f n
prefix f deep zero h k = refl
prefix f deep (suc n) h k =
    let here : get_or deep n 0 ≡ f n = k n (omega arith) in
    let rest = prefix f deep n (omega arith) k in
    let last : greatest_of (get_or deep n 0 ∷ []) ≡ f n = omega arith in
    let both = greatest_append (take n deep) (get_or deep n 0 ∷ []) in
    let more : take (suc n) deep ≡ take n deep ++ get_or deep n 0 ∷ [] = rw (← add-one) (take_more deep n 0 (omega arith)) in
    ap greatest_of more ∙ (both ∙ omega arith)

pub greatest_table : (f : ℕ → ℕ) (deep : List ℕ) (n : ℕ) → length deep ≡ n → ((x : ℕ) → x < n → get_or deep x 0 ≡ f x) → greatest_of deep ≡ greatest_below f n
greatest_table f deep n e k =
    ap greatest_of (sym (take_all n deep (omega arith))) ∙ prefix f deep n (omega arith) (λ x h. k x (omega arith))
