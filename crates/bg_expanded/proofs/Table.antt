-- A table that is filled in the order of ranks.
use Rattle.std.proofs.Common.{◌≡◌, ℕ, zero, suc, ◌+◌, ◌^◌, ◌<◌, ◌≤◌, List, [], ◌∷◌, map, length, get_or, set, slice_index, Contains, Option, Some, None, refl, sym, ap, ◌∙◌, subst, arith}
use mathlib.Core.Logic.{dite}
use native.Mathlib.Decide.{dec_lt, ℕ_discrete}
use Rattle.std.specs.List.Sorted.{IsPermutation, IsNonDecreasingBy}
use Rattle.std.proofs.lemmas.List.{length-map, get_or-set_same, get_or-set_other}
use Rattle.std.proofs.lemmas.List.Elements.{Contains-get_or}
use Rattle.std.proofs.lemmas.List.Sorted.{Contains-permutation, IsPermutation-sym}
use Rattle.bg_ast.specs.Resolved.{Fun, Ex}
use Rattle.bg_opened.specs.Changed.{bodies_in}
use Rattle.bg_graph.specs.Graphs.{targets, IsRanking}
use Rattle.bg_expanded.specs.Chains.{chain_to}
use Rattle.bg_expanded.specs.Applied.{applied_by, applied_graph}
use Rattle.bg_expanded.specs.Ranked.{ranked_from, greatest_of, greatest_at, over, chain_at}
use Rattle.bg_expanded.specs.declared.ranked.Ranked.{Ranked}
use Rattle.bg_expanded.proofs.Within.{within_or}
use Rattle.bg_expanded.proofs.Greatest.{greatest_same}
use Rattle.bg_expanded.proofs.Ranks.{more, within, settled, edge_small}

-- a function with its rank is in the list, and only such
listed : (s : ℕ) (ranks : List ℕ) (t : ℕ) → t < length ranks → (d : Ranked) → (t < length (ranked_from s ranks)) × (get_or (ranked_from s ranks) t d ≡ record { rank = get_or ranks t 0; function = s + t })
listed s [] t h d = absurd (omega arith)
listed s (r ∷ rs) zero h d = (omega arith, ap (λ (n : ℕ). let x : Ranked = record { rank = r; function = n } in x) (omega arith))
listed s (r ∷ rs) (suc t) h d =
    let k = listed (suc s) rs t (omega arith) d in
    (omega (arith, k.0), k.1 ∙ ap (λ (n : ℕ). let x : Ranked = record { rank = get_or rs t 0; function = n } in x) (omega arith))

long : (s : ℕ) (ranks : List ℕ) → length (ranked_from s ranks) ≡ length ranks
long s [] = refl
long s (r ∷ rs) = let h = long (suc s) rs in omega arith

abbrev With : List ℕ → ℕ → Ranked
With ranks t = record { rank = slice_index ranks t; function = t }

module _ (ranks : List ℕ) (order : List Ranked) (same : IsPermutation (ranked_from 0 ranks) order) where
  pub there : (t : ℕ) → t < length ranks → Contains order (With ranks t)
  there t h =
      let k = listed 0 ranks t h (With ranks t) in
      Contains-permutation (ranked_from 0 ranks) order (With ranks t) same (t, k.0, k.1 ∙ ap (λ (n : ℕ). let x : Ranked = record { rank = slice_index ranks t; function = n } in x) (omega arith))

  pub known : (r : Ranked) → Contains order r → (r.function < length ranks) × (r.rank ≡ slice_index ranks r.function)
  known r h =
      let k = Contains-permutation order (ranked_from 0 ranks) r (IsPermutation-sym (ranked_from 0 ranks) order same) h in
      let l = long 0 ranks in
      let small : k.0 < length ranks = omega (arith, k.1) in
      let e = listed 0 ranks k.0 small r in
      let is : record { rank = get_or ranks k.0 0; function = 0 + k.0 } ≡ r = sym e.1 ∙ k.2 in
      let at : k.0 ≡ r.function = omega (arith, ap (λ (x : Ranked). x.function) is) in
      let P : ℕ → Type 0 = λ n. (n < length ranks) × (r.rank ≡ slice_index ranks n) in
      subst P at (small, sym (ap (λ (x : Ranked). x.rank) is))

module _ (fs : List Fun) (ranks : List ℕ) (order : List Ranked) where
  abbrev D : ℕ → ℕ
  D = chain_to fs (length fs)

  -- the first functions of the order have their chains
  abbrev pub Ready : List ℕ → ℕ → Type 0
  Ready deep i = (k : ℕ) (d : Ranked) → k < i → get_or deep (get_or order k d).function 0 ≡ D (get_or order k d).function

  module _ (few : length fs < 2 ^ 32) (ranking : IsRanking (applied_graph fs) ranks) (same : IsPermutation (ranked_from 0 ranks) order) (rising : IsNonDecreasingBy (λ (r : Ranked). r.rank) order) where
    count : length ranks ≡ length fs
    count = ranking.long ∙ length-map fs (λ (g : Fun). applied_by (length fs) g.body)

    -- a function of smaller rank than one of the order is in front of it
    in_front : (deep : List ℕ) (i : ℕ) (r : Ranked) → i < length order → get_or order i r ≡ r → Ready deep i → (t : ℕ) → t < length fs → slice_index ranks t < r.rank → get_or deep t 0 ≡ D t
    in_front deep i r h e ready t l low =
        let c = there ranks order same t (let n = count in omega arith) in
        let w : Ranked = With ranks t in
        let at : get_or order c.0 w ≡ w = c.2 in
        let past : i ≤ c.0 → r.rank ≤ slice_index ranks t = (λ b.
        let up = rising i c.0 r b c.1 in
        let here : (get_or order i r).rank ≡ r.rank = ap (λ (x : Ranked). x.rank) e in
        let same_at : get_or order c.0 r ≡ get_or order c.0 w = within_or order c.0 r w c.1 in
        let there : (get_or order c.0 r).rank ≡ slice_index ranks t = ap (λ (x : Ranked). x.rank) (same_at ∙ at) in
        omega arith) in
        let front : c.0 < i = dite (dec_lt c.0 i) (λ y. y) (λ n. let b = past (omega arith) in absurd (omega arith)) in
        let P : Ranked → Type 0 = λ x. get_or deep x.function 0 ≡ D x.function in
        subst P at (ready c.0 w front)

    over_more : (o : Option Ex) (k : ℕ) → more fs o k ≤ length fs → over o k ≡ more fs o k
    over_more None k h = refl
    over_more (Some e) k h = omega arith

    value : (deep : List ℕ) (i : ℕ) (r : Ranked) → i < length order → get_or order i r ≡ r → Ready deep i → chain_at fs (applied_graph fs) deep r.function ≡ D r.function
    value deep i r h e ready =
        let f = r.function in
        let row = targets (applied_graph fs) f in
        let P : Ranked → Type 0 = λ x. Contains order x in
        let k = known ranks order same r (subst P e (Contains-get_or order i r h)) in
        let n = count in
        let s = ranking.small f (let l = length-map fs (λ (g : Fun). applied_by (length fs) g.body) in omega (arith, k.0)) in
        let low : slice_index ranks f < length fs = (let l = length-map fs (λ (g : Fun). applied_by (length fs) g.body) in omega arith) in
        let rows : greatest_at deep row ≡ greatest_of (map D row) = greatest_same (λ t. get_or deep t 0) D row (λ t edge.
        in_front deep i r h e ready t (edge_small fs f t edge) (let l = ranking.falls f t edge in omega (arith, k.1))) in
        let is = settled fs ranks ranking.falls (length fs) f low in
        let w = within fs (length fs) f in
        ap (over (bodies_in fs f)) rows ∙ (over_more (bodies_in fs f) (greatest_of (map D row)) (omega arith) ∙ sym is)

    -- one function more
    ready_step : (deep : List ℕ) (i : ℕ) (r : Ranked) → length deep ≡ length fs → i < length order → r ≡ get_or order i r → Ready deep i → Ready (set deep r.function (chain_at fs (applied_graph fs) deep r.function)) (i + 1)
    ready_step deep i r n h q ready k d l =
        let e : get_or order i r ≡ r = sym q in
        let v = value deep i r h e ready in
        let f = (get_or order k d).function in
        let new = chain_at fs (applied_graph fs) deep r.function in
        let P : Ranked → Type 0 = λ x. Contains order x in
        let in_range : r.function < length deep = (let g = known ranks order same r (subst P e (Contains-get_or order i r h)) in let m = count in omega (arith, g.0)) in
        let old : k < i → (f ≡ r.function → ⊥) → get_or (set deep r.function new) f 0 ≡ D f = (λ a b. get_or-set_other deep r.function f new 0 b ∙ ready k d a) in
        dite (ℕ_discrete f r.function)
        (λ y. ap (λ (x : ℕ). get_or (set deep r.function new) x 0) y ∙ (get_or-set_same deep r.function new 0 in_range ∙ (v ∙ ap D (sym y))))
        (λ y. old (dite (dec_lt k i) (λ z. z) (λ z. absurd (y (let at : k ≡ i = omega arith in ap (λ (x : ℕ). (get_or order x d).function) at ∙ ap (λ (x : Ranked). x.function) (within_or order i d r h ∙ e))))) y)

    pub ready_at : (deep : List ℕ) (i : ℕ) (d : Ranked) → length deep ≡ length fs → i < length order → Ready deep i →
        (let f = (get_or order i d).function in Ready (set deep f (chain_at fs (applied_graph fs) deep f)) (i + 1))
    ready_at deep i d n h ready = ready_step deep i (get_or order i d) n h (within_or order i d (get_or order i d) h) ready

    pub ready_all : (deep : List ℕ) → Ready deep (length order) → (f : ℕ) → f < length fs → get_or deep f 0 ≡ D f
    ready_all deep ready f h =
        let c = there ranks order same f (let n = count in omega arith) in
        let P : Ranked → Type 0 = λ x. get_or deep x.function 0 ≡ D x.function in
        subst P c.2 (ready c.0 (With ranks f) c.1)
