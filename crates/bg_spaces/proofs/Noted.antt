-- Faults that are noted item by item.
use Rattle.std.proofs.Common.{◌≡◌, ℕ, ◌+◌, ◌<◌, List, map, flat_map, drop, get_or, length, Option, sym, ap, ◌∙◌}
use Rattle.bg_names.specs.Faults.{Fault, better}
use Rattle.bg_names.proofs.Firsts.{better_append, drop_item}

pub noted_step : {A B : Type 0} (f : B → List Fault) (v : A → B) (best new : Option Fault) (xs : List A) (i : ℕ) (x : A) (whole : Option Fault) → i < length xs → x ≡ get_or xs i x → better best (flat_map f (map v (drop i xs))) ≡ whole → new ≡ better best (f (v x)) → better new (flat_map f (map v (drop (i + 1) xs))) ≡ whole
noted_step f v best new xs i x whole h at known e =
    let rest = flat_map f (map v (drop (i + 1) xs)) in
    ap (λ b. better b rest) e
    ∙ sym (better_append best (f (v x)) rest)
    ∙ ap (λ l. better best (flat_map f (map v l))) (sym (drop_item xs i x h at))
    ∙ known
