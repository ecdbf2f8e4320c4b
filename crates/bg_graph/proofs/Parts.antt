-- What the small steps of a walk say, joined.
use Rattle.std.proofs.Common.{◌≡◌, ℕ, ◌+◌, ◌<◌, ◌≤◌, ◌⊎◌, inl, inr, List, length, get_or, set, take, drop, slice_index, Contains, sym, ◌∙◌, ap, subst, arith, get_or-set_same, get_or-set_other}
use Rattle.std.specs.List.{sum_by}
use Rattle.std.proofs.lemmas.List.{set_past}
use Rattle.std.proofs.lemmas.List.Sums.{sum_by-set}
use Rattle.std.proofs.lemmas.List.Elements.{Contains-get_or}
use mathlib.Core.Logic.{dite}
use native.Mathlib.Decide.{ℕ_discrete, dec_le}
use Rattle.bg_graph.specs.declared.rings.Spot.{Spot}
use Rattle.bg_graph.specs.declared.rings.Spot.TheVariants.{Fresh, Held, Settled}
use Rattle.bg_graph.specs.Rings.{spot_of, fresh, IsFront, NamesBefore, IsInside}
use Rattle.std.proofs.lemmas.List.{length-take}
use Rattle.bg_graph.specs.Rings.{Closes, IsRing}
use Rattle.bg_graph.proofs.Lists.{more_cases, more_old, more_new, front_take}

-- ---- one node more is settled
module _ (old spots : List Spot) (part : List ℕ) (i : ℕ) (h : i < length part) (long : length spots ≡ length old) where
  pub settled_more : ((v : ℕ) → Contains (take i part) v → v < length old → spot_of spots v ≡ Settled) → (v : ℕ) → Contains (take (i + 1) part) v → v < length old → spot_of (set spots (get_or part i 0) Settled) v ≡ Settled
  settled_more s v c l = dite (ℕ_discrete v (get_or part i 0))
      (λ is. ap (λ (n : ℕ). spot_of (set spots (get_or part i 0) Settled) n) is ∙ get_or-set_same spots (get_or part i 0) Settled Fresh (omega arith))
      (λ n. get_or-set_other spots (get_or part i 0) v Settled Fresh n ∙ elim (more_cases part i h v c) [ inl before ↦ s v before l | inr is ↦ absurd (n (sym is)) ])

  pub kept_more : ((v : ℕ) → (Contains (take i part) v → ⊥) → spot_of spots v ≡ spot_of old v) → (v : ℕ) → (Contains (take (i + 1) part) v → ⊥) → spot_of (set spots (get_or part i 0) Settled) v ≡ spot_of old v
  kept_more k v n =
      get_or-set_other spots (get_or part i 0) v Settled Fresh (λ is. n (let P : ℕ → Type 0 = λ m. Contains (take (i + 1) part) m in subst P (sym is) (more_new part i h)))
      ∙ k v (λ c. n (more_old part i h v c))

pub fewer_more : (old spots : List Spot) (t : ℕ) → sum_by fresh spots ≤ sum_by fresh old → sum_by fresh (set spots t Settled) ≤ sum_by fresh old
fewer_more old spots t f = dite (dec_le (length spots) t)
    (λ past. let e = ap (sum_by fresh) (set_past spots t Settled past) in omega arith)
    (λ not. let s = sum_by-set fresh spots t Settled Fresh (omega arith) in omega arith)

-- ---- one node more is passed
module _ (spots : List Spot) (row : List ℕ) (k : ℕ) (h : k < length row) (old starts starts' : List ℕ) (f : IsFront starts old) (f' : IsFront starts' starts) where
  pub gone_more : ((j : ℕ) → length starts ≤ j → j < length old → NamesBefore spots row (slice_index old j)) → ((j : ℕ) → length starts' ≤ j → j < length starts → (i : ℕ) × (spot_of spots (get_or row k 0) ≡ Held i) × (i < slice_index starts j)) → (j : ℕ) → length starts' ≤ j → j < length old → NamesBefore spots row (slice_index old j)
  gone_more a b j l m = dite (dec_le (length starts) j)
      (λ past. a j past m)
      (λ not. let c = b j l (omega arith) in let same = f.same j (omega arith) in let low : c.0 < slice_index starts j = c.2 in (get_or row k 0, c.0, Contains-get_or row k 0 h, c.1, omega arith))

  inside_front : (s : Spot) → IsInside s starts → IsInside s starts'
  inside_front s (inl e) = inl e
  inside_front s (inr e) = inr (e.0, e.1, λ j l. let a = f'.short in let b = f'.same j l in let c = e.2 j (omega arith) in omega arith)

  pub passed_more : (from : ℕ) → ((j : ℕ) → from ≤ j → j < k → IsInside (spot_of spots (get_or row j 0)) starts) → IsInside (spot_of spots (get_or row k 0)) starts' → (j : ℕ) → from ≤ j → j < k + 1 → IsInside (spot_of spots (get_or row j 0)) starts'
  passed_more from a b j l m = dite (ℕ_discrete j k)
      (λ is. let P : ℕ → Type 0 = λ n. IsInside (spot_of spots (get_or row n 0)) starts' in subst P (sym is) b)
      (λ n. inside_front (spot_of spots (get_or row j 0)) (a j l (omega arith)))

-- ---- the last part is settled
pub closes : (spots spots' : List Spot) (held held' starts starts' row part : List ℕ) (node at first first' m : ℕ) → m + 1 ≡ length starts → starts' ≡ take m starts → part ≡ drop at held → held' ≡ take at held → ((v : ℕ) → Contains part v → v < length spots → spot_of spots' v ≡ Settled) → ((v : ℕ) → (Contains part v → ⊥) → spot_of spots' v ≡ spot_of spots v) → sum_by fresh spots' ≤ sum_by fresh spots → first' ≤ first → (IsRing part row node → (v : ℕ) → Contains part v → first' ≤ v) → (first' ≡ first) ⊎ (IsRing part row node × Contains part first') → Closes spots held starts row node at first spots' held' starts' first'
closes spots spots' held held' starts starts' row part node at first first' m count is same rest settled kept fewer low least one =
    let F : List ℕ → Type 0 = λ l. IsFront l starts in
    let S : List ℕ → Type 0 = λ l. (v : ℕ) → Contains l v → v < length spots → spot_of spots' v ≡ Settled in
    let K : List ℕ → Type 0 = λ l. (v : ℕ) → (Contains l v → ⊥) → spot_of spots' v ≡ spot_of spots v in
    let L : List ℕ → Type 0 = λ l. IsRing l row node → (v : ℕ) → Contains l v → first' ≤ v in
    let O : List ℕ → Type 0 = λ l. (first' ≡ first) ⊎ (IsRing l row node × Contains l first') in
    record {
      front = subst F (sym is) (front_take m starts (omega arith));
      fewer_parts = let a = ap length is in let b = length-take m starts in omega arith;
      rest = rest;
      settled = subst S same settled;
      kept = subst K same kept;
      fewer = fewer;
      low = low;
      least = subst L same least;
      one = subst O same one;
    }
