-- The walk along the retained names.
use Rattle.std.proofs.Common.{◌≡◌, ℕ, zero, suc, ◌+◌, ◌<◌, ◌≤◌, Bool, true, false, List, [], ◌∷◌, ◌++◌, length, drop, map, get_or, refl, sym, ap, ◌∙◌, append_assoc, arith}
use Rattle.std.specs.Prelude.{if◌then◌else◌, Some}
use Rattle.std.specs.Str.{bytes_eq}
use denote.Bor.{Bor}
use Rattle.bg_text.specs.declared.expr.Name.{Name}
use Rattle.bg_text.specs.Trees.{Id}
use Rattle.bg_text.specs.Views.{id_of}
use Rattle.bg_accept.specs.Names.{marks, unplaced}
use Rattle.bg_accept.specs.Retained.{texts, begins}

-- ---- the next name

pub begins_there : (c : Id) (names : List (Bor (List ℕ))) (n : ℕ) (d : Bor (List ℕ)) → n < length names → begins c (drop n (texts names)) ≡ bytes_eq c.text (get_or names n d).now
begins_there c [] n d h = absurd (omega arith)
begins_there c (x ∷ xs) zero d h = refl
begins_there c (x ∷ xs) (suc n) d h = begins_there c xs n d (omega arith)

pub begins_none : (c : Id) (names : List (Bor (List ℕ))) (n : ℕ) → length names ≤ n → begins c (drop n (texts names)) ≡ false
begins_none c [] zero h = refl
begins_none c [] (suc n) h = refl
begins_none c (x ∷ xs) zero h = absurd (omega arith)
begins_none c (x ∷ xs) (suc n) h = begins_none c xs n (omega arith)

pub begins_within : (c : Id) (names : List (Bor (List ℕ))) (n : ℕ) → begins c (drop n (texts names)) ≡ true → n < length names
begins_within c [] zero h = absurd (let bad : ⊥ = cc in bad)
begins_within c [] (suc n) h = absurd (let bad : ⊥ = cc in bad)
begins_within c (x ∷ xs) zero h = omega arith
begins_within c (x ∷ xs) (suc n) h = let l = begins_within c xs n h in omega (arith, l)

-- ---- one candidate

rest : List (List ℕ) → List (List ℕ)
rest [] = []
rest (n ∷ ns) = ns

drop_nil : {A : Type 0} (n : ℕ) → drop {A = A} n [] ≡ []
drop_nil zero = refl
drop_nil (suc n) = refl

drop_more : (xs : List (Bor (List ℕ))) (n : ℕ) → drop (n + 1) (texts xs) ≡ rest (drop n (texts xs))
unfolding rest
drop_more [] n = drop_nil (n + 1) ∙ sym (ap rest (drop_nil n))
drop_more (x ∷ xs) zero = refl
drop_more (x ∷ xs) (suc n) =
    let s : suc n + 1 ≡ suc (n + 1) = omega arith in ap (λ k. drop k (texts (x ∷ xs))) s ∙ drop_more xs n

marks_yes : (made : List Bool) (c : Id) (cs : List Id) (ns : List (List ℕ)) → begins c ns ≡ true → (made ++ (true ∷ [])) ++ marks cs (rest ns) ≡ made ++ marks (c ∷ cs) ns
unfolding rest
marks_yes made c cs [] h = absurd (let bad : ⊥ = cc in bad)
marks_yes made c cs (n ∷ ns) h =
    append_assoc made (true ∷ []) (marks cs ns)
    ∙ ap (λ b. made ++ (if b then true ∷ marks cs ns else false ∷ marks cs (n ∷ ns))) (sym h)

unplaced_yes : (c : Id) (cs : List Id) (ns : List (List ℕ)) → begins c ns ≡ true → unplaced cs (rest ns) ≡ unplaced (c ∷ cs) ns
unfolding rest
unplaced_yes c cs [] h = absurd (let bad : ⊥ = cc in bad)
unplaced_yes c cs (n ∷ ns) h = ap (λ b. if b then unplaced cs ns else unplaced cs (n ∷ ns)) (sym h)

pub marked_yes : (made : List Bool) (c : Id) (cs : List Id) (xs : List (Bor (List ℕ))) (n : ℕ) → begins c (drop n (texts xs)) ≡ true → (made ++ (true ∷ [])) ++ marks cs (drop (n + 1) (texts xs)) ≡ made ++ marks (c ∷ cs) (drop n (texts xs))
marked_yes made c cs xs n h =
    ap (λ ns. (made ++ (true ∷ [])) ++ marks cs ns) (drop_more xs n) ∙ marks_yes made c cs (drop n (texts xs)) h

pub placed_yes : (c : Id) (cs : List Id) (xs : List (Bor (List ℕ))) (n : ℕ) → begins c (drop n (texts xs)) ≡ true → unplaced cs (drop (n + 1) (texts xs)) ≡ unplaced (c ∷ cs) (drop n (texts xs))
placed_yes c cs xs n h = ap (unplaced cs) (drop_more xs n) ∙ unplaced_yes c cs (drop n (texts xs)) h

-- ---- all candidates

pub rest_there : (names : List (Bor (List ℕ))) (n : ℕ) (d : Bor (List ℕ)) → n < length names → unplaced [] (drop n (texts names)) ≡ Some (get_or names n d).now
rest_there [] n d h = absurd (omega arith)
rest_there (x ∷ xs) zero d h = refl
rest_there (x ∷ xs) (suc n) d h = rest_there xs n d (omega arith)

pub candidates_gone : (cs : List Name) (n : ℕ) → length cs ≤ n → map id_of (drop n cs) ≡ []
candidates_gone [] zero h = refl
candidates_gone [] (suc n) h = refl
candidates_gone (c ∷ cs) zero h = absurd (omega arith)
candidates_gone (c ∷ cs) (suc n) h = candidates_gone cs n (omega arith)
