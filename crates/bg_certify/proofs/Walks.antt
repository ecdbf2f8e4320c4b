-- The loops over places and implementations.
use Rattle.std.proofs.Common.{◌≡◌, ℕ, zero, suc, ◌+◌, ◌<◌, ◌≤◌, Bool, List, [], ◌∷◌, ◌++◌, length, map, drop, get_or, Option, Some, None, refl, sym, ap, ◌∙◌, append_assoc, arith}
use Rattle.std.specs.Prelude.{slice_get, Vec}
use Rattle.std.specs.declared.alloc.Global.{Global}
use Rattle.std.proofs.lemmas.List.{append-nil, drop_more, drop_all, drop-map, length-map}
use Rattle.bg_text.specs.Trees.{Id}
use Rattle.bg_text.specs.Views.{option_of}
use Rattle.bg_ast.specs.Resolved as r
use Rattle.bg_ast.specs.Views.{candidate_of}
use Rattle.bg_check.specs.declared.proof.Proof.{Proof}
use Rattle.bg_certify.specs.Found.{Shown}
use Rattle.bg_places.specs.declared.place.Place.{Place}
use Rattle.bg_places.specs.Placed.{Placed, placed_impl}
use Rattle.bg_places.specs.Views.{placed_of, placed_in}
use Rattle.bg_rounds.specs.declared.checker.Kept.{Kept}
use Rattle.bg_check.specs.declared.verdict.Judged.{Judged}
use Rattle.bg_check.specs.Verdicts.{judged}
use Rattle.bg_certtext.specs.Views.{SectionOf}
use Rattle.bg_certify.specs.Spelled.{with_section, row, rows}
use Rattle.bg_certify.specs.Found.{cert_for, kept_behind, judged_behind, certs_for, kept_after, certs_from}

-- ---- places

abbrev pub its : Place → Option ℕ
its x = option_of candidate_of x.candidate

front : (names : List Id) (k i : ℕ) (c : Option Shown) (ss : List SectionOf) → with_section names k i c ss ≡ with_section names k i c [] ++ ss
front names k i None ss = refl
front names k i (Some c) ss = refl

drops : (ps : List Place) (i : ℕ) (x : Place) → i < length ps → x ≡ get_or ps i x → drop i (placed_in ps) ≡ placed_of x ∷ drop (i + 1) (placed_in ps)
drops ps i x h e =
    drop-map placed_of i ps
    ∙ (ap (λ (l : List Place). map placed_of l) (drop_more ps i x h)
    ∙ (ap (λ (y : Place). placed_of y ∷ map placed_of (drop (i + 1) ps)) (sym e)
    ∙ ap (λ (l : List Placed). placed_of x ∷ l) (sym (drop-map placed_of (i + 1) ps))))

pub place_step : (names : List Id) (k i : ℕ) (set : ℕ → Bool) (ks on : List (Option (Kept (Option Proof)))) (js later : List Judged) (ps : List Place) (x : Place) (cert : Option Shown) (old more whole : List SectionOf) →
    i < length ps → x ≡ get_or ps i x → cert ≡ cert_for set ks js (its x) → more ≡ old ++ with_section names k i cert [] →
    on ≡ kept_behind (its x) ks → later ≡ judged_behind (its x) js →
    old ++ row names k i (certs_for set ks js (drop i (placed_in ps))) ≡ whole →
    more ++ row names k (i + 1) (certs_for set on later (drop (i + 1) (placed_in ps))) ≡ whole
place_step names k i set ks on js later ps x cert old more whole h e f m u v w =
    let rest = certs_for set (kept_behind (its x) ks) (judged_behind (its x) js) (drop (i + 1) (placed_in ps)) in
    let next : i + 1 ≡ suc i = omega arith in
    ap (λ (l : List (Option (Kept (Option Proof)))). more ++ row names k (i + 1) (certs_for set l later (drop (i + 1) (placed_in ps)))) u
    ∙ (ap (λ (l : List Judged). more ++ row names k (i + 1) (certs_for set (kept_behind (its x) ks) l (drop (i + 1) (placed_in ps)))) v
    ∙ (ap (λ (n : ℕ). more ++ row names k n rest) next
    ∙ (ap (λ (l : List SectionOf). l ++ row names k (suc i) rest) m
    ∙ (append_assoc old (with_section names k i cert []) (row names k (suc i) rest)
    ∙ (ap (λ (l : List SectionOf). old ++ l) (sym (front names k i cert (row names k (suc i) rest)))
    ∙ (ap (λ (c : Option Shown). old ++ with_section names k i c (row names k (suc i) rest)) f
    ∙ (ap (λ (l : List Placed). old ++ row names k i (certs_for set ks js l)) (sym (drops ps i x h e)) ∙ w)))))))

pub task_step : (ks on whole : List (Option (Kept (Option Proof)))) (i : ℕ) (ps : List Place) (x : Place) → i < length ps → x ≡ get_or ps i x →
    on ≡ kept_behind (its x) ks → kept_after ks (drop i (placed_in ps)) ≡ whole → kept_after on (drop (i + 1) (placed_in ps)) ≡ whole
task_step ks on whole i ps x h e u w =
    ap (λ (l : List (Option (Kept (Option Proof)))). kept_after l (drop (i + 1) (placed_in ps))) u
    ∙ (ap (λ (l : List Placed). kept_after ks l) (sym (drops ps i x h e)) ∙ w)

none_left : (ps : List Place) (i : ℕ) → length ps ≤ i → drop i (placed_in ps) ≡ []
none_left ps i h = drop_all i (placed_in ps) (let e : length (placed_in ps) ≡ length ps = length-map ps placed_of in omega arith)

pub places_end : (names : List Id) (k i : ℕ) (set : ℕ → Bool) (ks : List (Option (Kept (Option Proof)))) (js : List Judged) (ps : List Place) (old whole : List SectionOf) → length ps ≤ i →
    old ++ row names k i (certs_for set ks js (drop i (placed_in ps))) ≡ whole → old ≡ whole
places_end names k i set ks js ps old whole h w =
    sym (append-nil old)
    ∙ (ap (λ (l : List Placed). old ++ row names k i (certs_for set ks js l)) (sym (none_left ps i h)) ∙ w)

pub task_end : (ks whole : List (Option (Kept (Option Proof)))) (i : ℕ) (ps : List Place) → length ps ≤ i → kept_after ks (drop i (placed_in ps)) ≡ whole → ks ≡ whole
task_end ks whole i ps h w = ap (λ (l : List Placed). kept_after ks l) (sym (none_left ps i h)) ∙ w

-- ---- implementations

pub there : {X : Type 0} (xs : List X) (k : ℕ) → k < length xs → (x : X) × (slice_get xs k ≡ Some x)
there [] k h = absurd (omega arith)
there (x ∷ xs) zero h = (x, refl)
there (x ∷ xs) (suc k) h = there xs k (omega arith)

drop_there : {X : Type 0} (xs : List X) (k : ℕ) (x : X) → slice_get xs k ≡ Some x → drop k xs ≡ x ∷ drop (suc k) xs
drop_there [] k x h = absurd (let e : None ≡ Some x = h in cc)
drop_there (y ∷ ys) zero x h = let e : y ≡ x = cc in ap (λ z. z ∷ ys) e
drop_there (y ∷ ys) (suc k) x h = drop_there ys k x h

pub impl_step : (names : List Id) (qs : List r.Proc) (set : ℕ → Bool) (ks on : List (Option (Kept (Option Proof)))) (k : ℕ) (ms : List r.Impl) (jss : List (List Judged)) (m : r.Impl) (js : List Judged) (old more whole : List SectionOf) →
    slice_get ms k ≡ Some m → slice_get jss k ≡ Some js → more ≡ old ++ row names k 0 (certs_for set ks js (placed_impl qs k m)) → on ≡ kept_after ks (placed_impl qs k m) →
    old ++ rows names k (certs_from qs set ks k (drop k ms) (drop k jss)) ≡ whole →
    more ++ rows names (k + 1) (certs_from qs set on (k + 1) (drop (k + 1) ms) (drop (k + 1) jss)) ≡ whole
impl_step names qs set ks on k ms jss m js old more whole a b e u w =
    let next : k + 1 ≡ suc k = omega arith in
    let first = row names k 0 (certs_for set ks js (placed_impl qs k m)) in
    let rest = rows names (suc k) (certs_from qs set (kept_after ks (placed_impl qs k m)) (suc k) (drop (suc k) ms) (drop (suc k) jss)) in
    ap (λ (n : ℕ). more ++ rows names n (certs_from qs set on n (drop n ms) (drop n jss))) next
    ∙ (ap (λ (l : List (Option (Kept (Option Proof)))). more ++ rows names (suc k) (certs_from qs set l (suc k) (drop (suc k) ms) (drop (suc k) jss))) u
    ∙ (ap (λ (l : List SectionOf). l ++ rest) e
    ∙ (append_assoc old first rest
    ∙ (ap (λ (l : List r.Impl). old ++ rows names k (certs_from qs set ks k l (js ∷ drop (suc k) jss))) (sym (drop_there ms k m a))
    ∙ (ap (λ (l : List (List Judged)). old ++ rows names k (certs_from qs set ks k (drop k ms) l)) (sym (drop_there jss k js b)) ∙ w)))))

pub impls_end : (names : List Id) (qs : List r.Proc) (set : ℕ → Bool) (ks : List (Option (Kept (Option Proof)))) (k : ℕ) (ms : List r.Impl) (jss : List (List Judged)) (old whole : List SectionOf) → length ms ≤ k →
    old ++ rows names k (certs_from qs set ks k (drop k ms) (drop k jss)) ≡ whole → old ≡ whole
impls_end names qs set ks k ms jss old whole h w =
    sym (append-nil old)
    ∙ (ap (λ (l : List r.Impl). old ++ rows names k (certs_from qs set ks k l (drop k jss))) (sym (drop_all k ms h)) ∙ w)

pub judged_there : (vs : List (Vec Judged Global)) (k : ℕ) (v : Vec Judged Global) (js : List Judged) → k < length vs → v ≡ get_or vs k v → slice_get (judged vs) k ≡ Some js → v.items ≡ js
judged_there [] k v js h e j = absurd (omega arith)
judged_there (u ∷ vs) zero v js h e j = let i : u.items ≡ js = cc in ap (λ (w : Vec Judged Global). w.items) e ∙ i
judged_there (u ∷ vs) (suc k) v js h e j = judged_there vs k v js (omega arith) e j
