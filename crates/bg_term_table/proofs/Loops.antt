-- Lists that are read item by item.
use Rattle.std.proofs.Common.{◌≡◌, ℕ, zero, suc, ◌+◌, ◌<◌, List, [], ◌∷◌, ◌++◌, Some, slice_get, get_or, length, take, drop, map, sym, ap, ◌∙◌, arith}
use Rattle.std.proofs.lemmas.List.{map-append, drop_more, take-append-drop}
use Rattle.bg_base.proofs.Takes.{take_more}

pub item : {A : Type 0} (xs : List A) (i : ℕ) (x : A) → i < length xs → x ≡ get_or xs i x → slice_get xs i ≡ Some x
item [] i x h e = absurd (omega (arith, h))
item (y ∷ xs) zero x h e = ap (λ z. Some z) (sym e)
item (y ∷ xs) (suc i) x h e = item xs i x (omega (arith, h)) e

-- what is read of the items so far and of one more
pub read_more : {A B : Type 0} (f : A → B) (xs : List A) (i : ℕ) (x : A) → i < length xs → x ≡ get_or xs i x → map f (take (i + 1) xs) ≡ map f (take i xs) ++ f x ∷ []
read_more f xs i x h e = ap (map f) (take_more xs i x (item xs i x h e)) ∙ map-append f (take i xs) (x ∷ [])

pub read_last : {A B : Type 0} (f : A → B) (now made : List A) (y : A) → now ≡ made ++ y ∷ [] → map f now ≡ map f made ++ f y ∷ []
read_last f now made y e = ap (map f) e ∙ map-append f made (y ∷ [])

-- what is read of the items so far, of one more, and of the others
pub split : {A B : Type 0} (f : A → B) (xs : List A) (i : ℕ) (x : A) → i < length xs → x ≡ get_or xs i x → map f xs ≡ map f (take i xs) ++ f x ∷ map f (drop (i + 1) xs)
split f xs i x h e =
    ap (map f) (sym (take-append-drop i xs))
    ∙ map-append f (take i xs) (drop i xs)
    ∙ ap (λ l. map f (take i xs) ++ map f l) (drop_more xs i x h ∙ ap (λ y. y ∷ drop (i + 1) xs) (sym e))
