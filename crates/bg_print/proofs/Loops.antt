-- One turn of a loop that writes the items of a list, and its end.
use Rattle.std.proofs.Common.{◌≡◌, ◌<◌, ◌≤◌, ◌+◌, ℕ, zero, suc, List, [], ◌∷◌, ◌++◌, drop, length, get_or, refl, sym, ap, ◌∙◌, append_assoc, append-nil, add-one, arith}

drop_from : {A : Type 0} (xs : List A) (i : ℕ) (x : A) → i < length xs → x ≡ get_or xs i x → drop i xs ≡ x ∷ drop (suc i) xs
drop_from [] i x h e = absurd (omega (arith, h))
drop_from (y ∷ ys) zero x h e = ap (λ z. z ∷ ys) (sym e)
drop_from (y ∷ ys) (suc i) x h e = drop_from ys i x (omega (arith, h)) e

-- the rest of a list from an item on
drop_item : {A : Type 0} (xs : List A) (i : ℕ) (x : A) → i < length xs → x ≡ get_or xs i x → drop i xs ≡ x ∷ drop (i + 1) xs
drop_item xs i x h e = drop_from xs i x h e ∙ ap (λ n. x ∷ drop n xs) (sym (add-one i))

drop_whole : {A : Type 0} (i : ℕ) (xs : List A) → length xs ≤ i → drop i xs ≡ []
drop_whole zero [] h = refl
drop_whole zero (x ∷ xs) h = absurd (omega (arith, h))
drop_whole (suc i) [] h = refl
drop_whole (suc i) (x ∷ xs) h = drop_whole i xs (omega (arith, h))

-- `before` and `behind` are the texts of what is left, with the item and without
pub one_more : {A : Type 0} (before behind : List A → List ℕ) (xs : List A) (i : ℕ) (x : A) (part out next whole : List ℕ) → ((ys : List A) → before (x ∷ ys) ≡ part ++ behind ys) → i < length xs → x ≡ get_or xs i x → next ≡ out ++ part → out ++ before (drop i xs) ≡ whole → next ++ behind (drop (i + 1) xs) ≡ whole
one_more before behind xs i x part out next whole is h at e known =
    let ys = drop (i + 1) xs in
    ap (λ l. l ++ behind ys) e
    ∙ append_assoc out part (behind ys)
    ∙ ap (λ l. out ++ l) (sym (is ys))
    ∙ ap (λ l. out ++ before l) (sym (drop_item xs i x h at))
    ∙ known

-- the same for an item that is written in two steps
pub two_more : {A : Type 0} (before behind : List A → List ℕ) (xs : List A) (i : ℕ) (x : A) (a b out mid next whole : List ℕ) → ((ys : List A) → before (x ∷ ys) ≡ a ++ (b ++ behind ys)) → i < length xs → x ≡ get_or xs i x → mid ≡ out ++ a → next ≡ mid ++ b → out ++ before (drop i xs) ≡ whole → next ++ behind (drop (i + 1) xs) ≡ whole
two_more before behind xs i x a b out mid next whole is h at e f known =
    one_more before behind xs i x (a ++ b) out next whole (λ ys. is ys ∙ sym (append_assoc a b (behind ys))) h at (f ∙ ap (λ l. l ++ b) e ∙ append_assoc out a b) known

pub none_left : {A : Type 0} (before : List A → List ℕ) (xs : List A) (i : ℕ) (out whole : List ℕ) → before [] ≡ [] → length xs ≤ i → out ++ before (drop i xs) ≡ whole → out ≡ whole
none_left before xs i out whole is h known =
    sym (append-nil out) ∙ ap (λ l. out ++ l) (sym is) ∙ ap (λ l. out ++ before l) (sym (drop_whole i xs h)) ∙ known
