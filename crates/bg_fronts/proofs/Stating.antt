-- What is read of the items of a list.
use Rattle.std.proofs.Common.{◌≡◌, ℕ, zero, suc, ◌+◌, ◌<◌, List, [], ◌∷◌, ◌++◌, length, take, get_or, map, Some, refl, sym, ap, ◌∙◌, arith}
use Rattle.std.specs.Prelude.{slice_get}
use Rattle.std.proofs.lemmas.List.{map-append}
use Rattle.bg_base.proofs.Takes.{take_more}

item : {A : Type 0} (xs : List A) (i : ℕ) (x : A) → i < length xs → x ≡ get_or xs i x → slice_get xs i ≡ Some x
item [] i x h e = absurd (omega (arith, h))
item (y ∷ xs) zero x h e = ap (λ z. Some z) (sym e)
item (y ∷ xs) (suc i) x h e = item xs i x (omega (arith, h)) e

-- an item of a list is one alone, whatever stands in for what is past its end
pub same_or : {A : Type 0} (xs : List A) (i : ℕ) (d e : A) → i < length xs → get_or xs i d ≡ get_or xs i e
same_or [] i d e h = absurd (omega (arith, h))
same_or (y ∷ xs) zero d e h = refl
same_or (y ∷ xs) (suc i) d e h = same_or xs i d e (omega (arith, h))

-- what is read of the items so far and of one more
pub read_more : {A B : Type 0} (f : A → B) (xs : List A) (i : ℕ) (x : A) → i < length xs → x ≡ get_or xs i x → map f (take (i + 1) xs) ≡ map f (take i xs) ++ f x ∷ []
read_more f xs i x h e = ap (map f) (take_more xs i x (item xs i x h e)) ∙ map-append f (take i xs) (x ∷ [])
