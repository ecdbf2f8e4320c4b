-- The last sign of a row is the innermost.
use Rattle.std.proofs.Common.{◌≡◌, ℕ, ◌+◌, ◌<◌, List, [], ◌∷◌, ◌++◌, take, length, get_or, Option, refl, sym, ap, append_assoc, append-nil}
use Rattle.std.proofs.lemmas.List.{take_more}
use Rattle.bg_text.specs.declared.expr.TreePrefix.{TreePrefix}
use Rattle.bg_kinds.specs.Faults.{Fault, Wants, first_of}
use Rattle.bg_typing.specs.Sides.{Side, signed, prefix_side, prefix_type, wanting}
use Rattle.bg_kinds.proofs.Firsts.{first_of_append}

abbrev own : TreePrefix → Side → List Fault
own x a = wanting (Wants (prefix_type x.sign)) a

last_side : (xs : List TreePrefix) (x : TreePrefix) (a : Side) → (signed (xs ++ x ∷ []) a).side ≡ (signed xs (prefix_side x a)).side
last_side [] x a = refl
last_side (y ∷ ys) x a = ap (prefix_side y) (last_side ys x a)

last_faults : (xs : List TreePrefix) (x : TreePrefix) (a : Side) → (signed (xs ++ x ∷ []) a).faults ≡ own x a ++ (signed xs (prefix_side x a)).faults
last_faults [] x a = sym (append-nil (own x a))
last_faults (y ∷ ys) x a = rw (last_faults ys x a, last_side ys x a) (append_assoc (own x a) _ _)

pub signed_side : (xs : List TreePrefix) (n j : ℕ) (x : TreePrefix) (a : Side) → n ≡ j + 1 → j < length xs → (signed (take n xs) a).side ≡ (signed (take j xs) (prefix_side (get_or xs j x) a)).side
signed_side xs n j x a e h = rw (e, take_more xs j x h) (last_side (take j xs) (get_or xs j x) a)

pub signed_best : (xs : List TreePrefix) (n j : ℕ) (x : TreePrefix) (a : Side) (best : Option Fault) → n ≡ j + 1 → j < length xs → first_of best (signed (take n xs) a).faults ≡ first_of (first_of best (own (get_or xs j x) a)) (signed (take j xs) (prefix_side (get_or xs j x) a)).faults
signed_best xs n j x a best e h =
    rw (e, take_more xs j x h, last_faults (take j xs) (get_or xs j x) a) (first_of_append best (own (get_or xs j x) a) _)
