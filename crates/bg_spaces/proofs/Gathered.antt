-- Lists that are gathered item by item.
use Rattle.std.proofs.Common.{◌≡◌, ℕ, ◌+◌, ◌<◌, ◌≤◌, List, [], ◌∷◌, ◌++◌, drop, get_or, length, sym, ap, ◌∙◌, append-nil, append_assoc}
use Rattle.std.proofs.lemmas.List.{drop_all}
use Rattle.bg_names.proofs.Firsts.{drop_item}

-- one item further
pub gathered_step : {A C : Type 0} (all : List A → List C) (one : A → List C) → ((x : A) (xs : List A) → all (x ∷ xs) ≡ one x ++ all xs) → (old new : List C) (xs : List A) (i : ℕ) (x : A) (whole : List C) → i < length xs → x ≡ get_or xs i x → old ++ all (drop i xs) ≡ whole → new ≡ old ++ one x → new ++ all (drop (i + 1) xs) ≡ whole
gathered_step all one cons old new xs i x whole h at known e =
    let rest = drop (i + 1) xs in
    ap (λ l. l ++ all rest) e
    ∙ append_assoc old (one x) (all rest)
    ∙ ap (λ l. old ++ l) (sym (cons x rest))
    ∙ ap (λ l. old ++ all l) (sym (drop_item xs i x h at))
    ∙ known

-- after the last item
pub gathered : {A C : Type 0} (all : List A → List C) → all [] ≡ [] → (old whole : List C) (xs : List A) (i : ℕ) → length xs ≤ i → old ++ all (drop i xs) ≡ whole → old ≡ whole
gathered all none old whole xs i h known =
    sym (append-nil old)
    ∙ ap (λ l. old ++ l) (sym none)
    ∙ ap (λ l. old ++ all l) (sym (drop_all i xs h))
    ∙ known
