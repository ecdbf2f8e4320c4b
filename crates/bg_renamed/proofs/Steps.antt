-- A list that is made item by item.
use Rattle.std.proofs.Common.{◌≡◌, ℕ, zero, suc, ◌+◌, List, [], ◌∷◌, ◌++◌, Some, slice_get, get_or, length, ◌<◌, arith, ap, map, take, sym, ◌∙◌}
use Rattle.std.proofs.lemmas.List.{map-append}
use Rattle.bg_base.proofs.Takes.{take_more}

item : {A : Type 0} (xs : List A) (i : ℕ) (x : A) → i < length xs → x ≡ get_or xs i x → slice_get xs i ≡ Some x
item [] i x h e = absurd (omega (arith, h))
item (y ∷ ys) zero x h e = ap (λ z. Some z) (sym e)
item (y ∷ ys) (suc i) x h e = item ys i x (omega (arith, h)) e

-- what is made of a list, with one more item
pub made_step : {A B C : Type 0} (f : B → C) (g : A → C) (made new : List B) (xs : List A) (i : ℕ) (x : A) (y : B) → i < length xs → x ≡ get_or xs i x → map f made ≡ map g (take i xs) → f y ≡ g x → new ≡ made ++ y ∷ [] → map f new ≡ map g (take (i + 1) xs)
made_step f g made new xs i x y h at known e is =
    ap (map f) is
    ∙ map-append f made (y ∷ [])
    ∙ rw (known, e) (sym (map-append g (take i xs) (x ∷ [])))
    ∙ ap (map g) (sym (take_more xs i x (item xs i x h at)))
