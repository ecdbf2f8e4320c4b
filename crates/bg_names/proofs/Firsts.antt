-- The first of faults in a row.
use Rattle.std.proofs.Common.{◌≡◌, ℕ, zero, suc, ◌+◌, List, [], ◌∷◌, ◌++◌, Option, Some, None, drop, flat_map, slice_get, get_or, length, ◌<◌, arith, ap, add-one, map, take, refl, sym, ◌∙◌}
use Rattle.std.proofs.lemmas.List.{map-append}
use Rattle.bg_base.proofs.Takes.{take_more}
use Rattle.bg_names.specs.Faults.{Fault, lesser, better}

pub better_append : (best : Option Fault) (xs ys : List Fault) → better best (xs ++ ys) ≡ better (better best xs) ys
better_append best [] ys = refl
better_append best (x ∷ xs) ys = better_append (lesser best x) xs ys

-- the faults of a list, from the next item on
after_step : {A : Type 0} (f : A → List Fault) (best : Option Fault) (xs : List A) (i : ℕ) (x : A) → slice_get xs i ≡ Some x → better best (flat_map f (drop i xs)) ≡ better (better best (f x)) (flat_map f (drop (suc i) xs))
after_step f best [] i x h = let bad : None ≡ Some x = h in cc
after_step f best (y ∷ ys) zero x h = let is : y ≡ x = cc in rw is (better_append best (f x) (flat_map f ys))
after_step f best (y ∷ ys) (suc i) x h = after_step f best ys i x h

item : {A : Type 0} (xs : List A) (i : ℕ) (x : A) → i < length xs → x ≡ get_or xs i x → slice_get xs i ≡ Some x
item [] i x h e = absurd (omega (arith, h))
item (y ∷ ys) zero x h e = ap (λ z. Some z) (sym e)
item (y ∷ ys) (suc i) x h e = item ys i x (omega (arith, h)) e

drop_here : {A : Type 0} (xs : List A) (i : ℕ) (x : A) → slice_get xs i ≡ Some x → drop i xs ≡ x ∷ drop (suc i) xs
drop_here [] i x h = let bad : None ≡ Some x = h in cc
drop_here (y ∷ ys) zero x h = let is : y ≡ x = cc in ap (λ z. z ∷ ys) is
drop_here (y ∷ ys) (suc i) x h = drop_here ys i x h

-- the rest of a list from an item on
pub drop_item : {A : Type 0} (xs : List A) (i : ℕ) (x : A) → i < length xs → x ≡ get_or xs i x → drop i xs ≡ x ∷ drop (i + 1) xs
drop_item xs i x h at = rw (add-one i) (drop_here xs i x (item xs i x h at))

pub better_step : {A : Type 0} (f : A → List Fault) (best new : Option Fault) (xs : List A) (i : ℕ) (x : A) (whole : Option Fault) → i < length xs → x ≡ get_or xs i x → better best (flat_map f (drop i xs)) ≡ whole → new ≡ better best (f x) → better new (flat_map f (drop (i + 1) xs)) ≡ whole
better_step f best new xs i x whole h at known e = rw (add-one i, e) (sym (after_step f best xs i x (item xs i x h at)) ∙ known)

-- what is made of a list, with one more item
pub made_step : {A B C : Type 0} (f : B → C) (g : A → C) (made new : List B) (xs : List A) (i : ℕ) (x : A) (y : B) → i < length xs → x ≡ get_or xs i x → map f made ≡ map g (take i xs) → f y ≡ g x → new ≡ made ++ y ∷ [] → map f new ≡ map g (take (i + 1) xs)
made_step f g made new xs i x y h at known e is =
    ap (map f) is
    ∙ map-append f made (y ∷ [])
    ∙ rw (known, e) (sym (map-append g (take i xs) (x ∷ [])))
    ∙ ap (map g) (sym (take_more xs i x (item xs i x h at)))

pub fuse_map : {A B C : Type 0} (f : B → C) (g : A → B) (xs : List A) → map f (map g xs) ≡ map (λ x. f (g x)) xs
fuse_map f g [] = refl
fuse_map f g (x ∷ xs) = ap (λ l. f (g x) ∷ l) (fuse_map f g xs)

pub fuse_flat : {A B C : Type 0} (f : B → List C) (g : A → B) (xs : List A) → flat_map f (map g xs) ≡ flat_map (λ x. f (g x)) xs
fuse_flat f g [] = refl
fuse_flat f g (x ∷ xs) = ap (λ l. f (g x) ++ l) (fuse_flat f g xs)

-- faults that are noted in two steps
pub after : (best b new : Option Fault) (xs ys : List Fault) → b ≡ better best xs → new ≡ better b ys → new ≡ better best (xs ++ ys)
after best b new xs ys h k = k ∙ ap (λ x. better x ys) h ∙ sym (better_append best xs ys)
