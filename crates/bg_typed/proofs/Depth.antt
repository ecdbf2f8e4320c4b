-- How high a node stands above those that it reaches, in a graph in which no node reaches itself.
use Rattle.std.proofs.Common.{◌≡◌, ℕ, zero, suc, ◌+◌, ◌-◌, ◌<◌, ◌≤◌, ◌⊎◌, inl, inr, max, Bool, true, false, List, [], ◌∷◌, length, set, get_or, replicate, slice_index_or, Contains, refl, sym, ap, ◌∙◌, subst, arith, length-set, get_or-set_other}
use Rattle.std.specs.List.{sum_by}
use Rattle.std.proofs.lemmas.List.{get_or_past, length-replicate, get_or-replicate}
use Rattle.std.proofs.lemmas.List.Sums.{sum_by-set, sum_by-le}
use mathlib.Core.Logic.{dite}
use native.Mathlib.Decide.{ℕ_discrete, dec_le}
use Rattle.bg_graph.specs.Graphs.{Graph, targets, IsEdge, IsGraph, IsAcyclic, Reaches}
use Rattle.bg_graph.specs.Graphs.Reaches.{edge}
use Rattle.bg_graph.proofs.Paths.{longer}
use Rattle.bg_graph.proofs.Walks.{is_node}

-- one more than the greatest of these
abbrev pub highest : (ℕ → ℕ) → List ℕ → ℕ
highest h [] = 0
highest h (t ∷ ts) = max (suc (h t)) (highest h ts)

-- the length of the longest path from a node, of at most so many edges
abbrev pub height : Graph → ℕ → ℕ → ℕ
height g zero f = 0
height g (suc d) f = highest (height g d) (targets g f)

over_at : (h : ℕ → ℕ) (ts : List ℕ) (k t : ℕ) → k < length ts → slice_index_or ts k t ≡ t → h t < highest h ts
over_at h [] k t l e = absurd (omega arith)
over_at h (u ∷ ts) zero t l e = let same : h u ≡ h t = ap h e in omega arith
over_at h (u ∷ ts) (suc k) t l e = let rest = over_at h ts k t (omega arith) e in omega arith

over : (h : ℕ → ℕ) (ts : List ℕ) (t : ℕ) → Contains ts t → h t < highest h ts
over h ts t c = over_at h ts c.0 t c.1 c.2

bounded : (h : ℕ → ℕ) (ts : List ℕ) (b : ℕ) → ((t : ℕ) → Contains ts t → h t < b) → highest h ts ≤ b
bounded h [] b f = omega arith
bounded h (t ∷ ts) b f =
    let first = f t (zero, omega arith, refl) in
    let rest = bounded h ts b (λ u c. f u (suc c.0, (let l : c.0 < length ts = c.1 in omega arith), c.2)) in omega arith

-- where heights are the same, or great, one more is
steps : (h h' : ℕ → ℕ) (d : ℕ) → ((t : ℕ) → (h' t ≡ h t) ⊎ (d < h' t)) → (ts : List ℕ) → (highest h' ts ≡ highest h ts) ⊎ (suc d < highest h' ts)
steps h h' d s [] = inl refl
steps h h' d s (t ∷ ts) = elim (s t) [
  | inl same ↦ elim (steps h h' d s ts) [ inl rest ↦ inl (omega arith) | inr great ↦ inr (omega arith) ]
  | inr great ↦ inr (omega arith)
]

none_or_some : (n : ℕ) → (n ≡ 0) ⊎ (0 < n)
none_or_some zero = inl refl
none_or_some (suc n) = inr (omega arith)

settles : (g : Graph) (d f : ℕ) → (height g (suc d) f ≡ height g d f) ⊎ (d < height g (suc d) f)
settles g zero f = none_or_some (height g 1 f)
settles g (suc d) f = steps (height g d) (height g (suc d)) d (settles g d) (targets g f)

-- nodes that are marked
abbrev one : Bool → ℕ
one true = 1
one false = 0

abbrev count : List Bool → ℕ
count m = sum_by one m

one_low : (b : Bool) → one b ≤ 1
one_low true = omega arith
one_low false = omega arith

one_of : (b : Bool) → (b ≡ true → ⊥) → one b ≡ 0
one_of true n = absurd (n refl)
one_of false n = refl

few : (m : List Bool) → count m ≤ length m
few m = let all = sum_by-le one 1 m (λ k d h. one_low (get_or m k d)) in omega arith

one_more : (m : List Bool) (f : ℕ) → f < length m → (get_or m f false ≡ true → ⊥) → count (set m f true) ≡ suc (count m)
one_more m f h n =
    let sum = sum_by-set one m f true false h in
    let free = one_of (get_or m f false) n in omega arith

more_few : (m : List Bool) (f : ℕ) → f < length m → (get_or m f false ≡ true → ⊥) → count m < length m
more_few m f h n =
    let more = one_more m f h n in
    let all = few (set m f true) in
    let long = length-set m f true in omega arith

-- all that is marked reaches a node
abbrev AllReach : Graph → List Bool → ℕ → Type 0
AllReach g m f = (v : ℕ) → get_or m v false ≡ true → Reaches g v f

module _ (g : Graph) (acyclic : IsAcyclic g) where
  unmarked : (f : ℕ) (m : List Bool) → AllReach g m f → get_or m f false ≡ true → ⊥
  unmarked f m s e = acyclic f (s f e)

  inside : (f t : ℕ) → IsEdge g f t → f < length g
  inside f t e = is_node g f t (edge f t e)

  reach_on : (f t : ℕ) (m : List Bool) → f < length m → IsEdge g f t → AllReach g m f → AllReach g (set m f true) t
  reach_on f t m h e s v k = dite (ℕ_discrete v f)
      (λ same. let P : ℕ → Type 0 = λ n. Reaches g n t in subst P (sym same) (edge f t e))
      (λ other. longer g v f t (s v (sym (get_or-set_other m f v true false other) ∙ k)) e)

  fits : (d f : ℕ) (m : List Bool) → length m ≡ length g → AllReach g m f → height g d f + count m ≤ length g
  fits zero f m l s = let all = few m in omega arith
  fits (suc d) f m l s =
      let all = few m in
      let top = bounded (height g d) (targets g f) (length g - count m) (λ t e.
      (let h = inside f t e in
      let more = one_more m f (omega arith) (unmarked f m s) in
      let rest = fits d t (set m f true) (length-set m f true ∙ l) (reach_on f t m (omega arith) e s) in omega arith)) in
      omega arith

  fits_inside : IsGraph g → (d f : ℕ) (m : List Bool) → length m ≡ length g → f < length g → AllReach g m f → height g d f + count m < length g
  fits_inside graph zero f m l h s = let all = more_few m f (omega arith) (unmarked f m s) in omega arith
  fits_inside graph (suc d) f m l h s =
      let all = more_few m f (omega arith) (unmarked f m s) in
      let more = one_more m f (omega arith) (unmarked f m s) in
      let top = bounded (height g d) (targets g f) (length g - suc (count m)) (λ t e.
      (let rest = fits_inside graph d t (set m f true) (length-set m f true ∙ l) (graph f t e) (reach_on f t m (omega arith) e s) in omega arith)) in
      omega arith

  abbrev unseen : List Bool
  unseen = replicate (length g) false

  none_at : (v : ℕ) → get_or unseen v false ≡ false
  none_at v = dite (dec_le (length g) v)
      (λ past. get_or_past unseen v false (let n = length-replicate (length g) false in omega arith))
      (λ not. get_or-replicate (length g) v false false (omega arith))

  none_seen : (f : ℕ) → AllReach g unseen f
  none_seen f v e = let bad : false ≡ true = sym (none_at v) ∙ e in absurd (cc)

  pub low : (d f : ℕ) → height g d f ≤ length g
  low d f = let all = fits d f unseen (length-replicate (length g) false) (none_seen f) in omega arith

  pub low_inside : IsGraph g → (d f : ℕ) → f < length g → height g d f < length g
  low_inside graph d f h = let all = fits_inside graph d f unseen (length-replicate (length g) false) h (none_seen f) in omega arith

  abbrev pub rank : ℕ → ℕ
  rank f = height g (suc (length g)) f

  pub falls : (f t : ℕ) → IsEdge g f t → rank t < rank f
  falls f t e =
      let above = over (height g (length g)) (targets g f) t e in
      let top = low (suc (length g)) t in
      elim (settles g (length g) t) [ inl same ↦ omega arith | inr great ↦ absurd (omega arith) ]

abbrev pub Ranks : Graph → Type 0
Ranks g = (rank : ℕ → ℕ) × ((f t : ℕ) → IsEdge g f t → rank t < rank f) × ((f : ℕ) → rank f ≤ length g) × (IsGraph g → (f : ℕ) → f < length g → rank f < length g)

-- each edge goes to a smaller rank, and ranks are small
pub ranks : (g : Graph) → IsAcyclic g → Ranks g
ranks g a = (rank g a, falls g a, (λ f. low g a (suc (length g)) f), (λ graph f h. low_inside g a graph (suc (length g)) f h))
