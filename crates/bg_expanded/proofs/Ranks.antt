-- The longest chains that end with functions, where each function that a body applies has a smaller rank, and where one reaches itself.
use Rattle.std.proofs.Common.{◌≡◌, ℕ, zero, suc, ◌<◌, ◌≤◌, List, [], ◌∷◌, map, length, slice_index, Contains, Option, Some, None, refl, sym, ap, ◌∙◌, subst, arith}
use Rattle.std.proofs.lemmas.List.{length-map}
use Rattle.std.proofs.lemmas.Option.{slice_get_past}
use Rattle.bg_ast.specs.Resolved.{Fun, Ex}
use Rattle.bg_opened.specs.Changed.{bodies_in, body_in}
use Rattle.bg_graph.specs.Graphs.{targets, IsEdge, IsGraph, Reaches}
use Rattle.bg_graph.specs.Graphs.Reaches.{edge, through}
use Rattle.bg_graph.proofs.Paths.{longer}
use Rattle.bg_graph.proofs.Walks.{is_node}
use Rattle.bg_expanded.specs.Chains as c
use Rattle.bg_expanded.specs.Chains.{deepest, chain_to, greatest_below}
use Rattle.bg_expanded.specs.Applied.{applied_by, applied_graph}
use Rattle.bg_expanded.specs.Ranked.{greatest_of}
use Rattle.bg_expanded.proofs.Greatest.{greatest_same, greatest_within, greatest_has, below_within, below_has}
use Rattle.bg_expanded.proofs.Deepest.{deepest_is, body_small}

at_map : (n f : ℕ) (gs : List Fun) → targets (map (λ g. applied_by n g.body) gs) f ≡ applied_by n (bodies_in gs f)
at_map n f [] = refl
at_map n zero (g ∷ gs) = refl
at_map n (suc f) (g ∷ gs) = at_map n f gs

module _ (fs : List Fun) where
  abbrev N : ℕ
  N = length fs

  pub targets_are : (f : ℕ) → targets (applied_graph fs) f ≡ applied_by N (bodies_in fs f)
  targets_are f = at_map N f fs

  pub edge_small : (f t : ℕ) → IsEdge (applied_graph fs) f t → t < N
  edge_small f t h = body_small N (bodies_in fs f) t (let P : List ℕ → Type 0 = λ l. Contains l t in subst P (targets_are f) h)

  -- no chain ends past the functions
  past : (m f : ℕ) → N ≤ f → chain_to fs m f ≡ 0
  past zero f h = refl
  past (suc m) f h = ap (λ o. c.through (chain_to fs m) (body_in o)) (slice_get_past fs f h)

  -- one more than what is known of a body; none without a body
  abbrev pub more : Option Ex → ℕ → ℕ
  more None k = 0
  more (Some e) k = suc k

  through_is : (m : ℕ) (o : Option Ex) → c.through (chain_to fs m) o ≡ more o (greatest_of (map (chain_to fs m) (applied_by N o)))
  through_is m None = refl
  through_is m (Some e) = ap suc (deepest_is N (chain_to fs m) (past m) e)

  step : (m f : ℕ) → chain_to fs (suc m) f ≡ more (bodies_in fs f) (greatest_of (map (chain_to fs m) (targets (applied_graph fs) f)))
  step m f = through_is m (bodies_in fs f) ∙ ap (λ l. more (bodies_in fs f) (greatest_of (map (chain_to fs m) l))) (sym (targets_are f))

  more_within : (o : Option Ex) (k m : ℕ) → k ≤ m → more o k ≤ suc m
  more_within None k m h = omega arith
  more_within (Some e) k m h = omega arith

  pub within : (m f : ℕ) → chain_to fs m f ≤ m
  within zero f = omega arith
  within (suc m) f =
      let e = step m f in
      let l = more_within (bodies_in fs f) _ m (greatest_within (chain_to fs m) m (targets (applied_graph fs) f) (within m)) in
      omega arith

  module _ (ranks : List ℕ) (falls : (f t : ℕ) → IsEdge (applied_graph fs) f t → slice_index ranks t < slice_index ranks f) where
    stable : (m f : ℕ) → slice_index ranks f < m → chain_to fs m f ≡ chain_to fs (suc m) f
    stable zero f h = absurd (omega arith)
    stable (suc m) f h =
        step m f
        ∙ ap (more (bodies_in fs f)) (greatest_same (chain_to fs m) (chain_to fs (suc m)) (targets (applied_graph fs) f) (λ t e. stable m t (let l = falls f t e in omega arith)))
        ∙ sym (step (suc m) f)

    pub settled : (m f : ℕ) → slice_index ranks f < m → chain_to fs m f ≡ more (bodies_in fs f) (greatest_of (map (chain_to fs m) (targets (applied_graph fs) f)))
    settled zero f h = absurd (omega arith)
    settled (suc m) f h =
        step m f
        ∙ ap (more (bodies_in fs f)) (greatest_same (chain_to fs m) (chain_to fs (suc m)) (targets (applied_graph fs) f) (λ t e. stable m t (let l = falls f t e in omega arith)))

  -- where a function reaches itself, a chain goes on and on
  first_edge : (f : ℕ) → Reaches (applied_graph fs) f f → (u : ℕ) × IsEdge (applied_graph fs) f u × Reaches (applied_graph fs) u u
  first_edge f (edge _ _ e) = (f, e, edge f f e)
  first_edge f (through _ u _ e p) = (u, e, longer (applied_graph fs) u f u p e)

  none_below : (o : Option Ex) (u k m : ℕ) → Contains (applied_by N o) u → m ≤ k → suc m ≤ more o k
  none_below None u k m h l = absurd (omega (arith, h.1))
  none_below (Some e) u k m h l = omega arith

  endless : (m f : ℕ) → Reaches (applied_graph fs) f f → m ≤ chain_to fs m f
  endless zero f p = omega arith
  endless (suc m) f p =
      let u = first_edge f p in
      let known : Contains (applied_by N (bodies_in fs f)) u.0 = (let P : List ℕ → Type 0 = λ l. Contains l u.0 in subst P (targets_are f) u.1) in
      let l = endless m u.0 u.2 in
      let b = greatest_has (chain_to fs m) (targets (applied_graph fs) f) u.0 u.1 in
      let e = step m f in
      let s = none_below (bodies_in fs f) u.0 (greatest_of (map (chain_to fs m) (targets (applied_graph fs) f))) m known (omega arith) in
      omega arith

  node : (f : ℕ) → Reaches (applied_graph fs) f f → f < N
  node f p = let l = is_node (applied_graph fs) f f p in let n = length-map fs (λ (g : Fun). applied_by N g.body) in omega arith

  pub endless_below : (f : ℕ) → Reaches (applied_graph fs) f f → greatest_below (chain_to fs N) N ≡ N
  endless_below f p =
      let a = below_within (chain_to fs N) N N (within N) in
      let b = below_has (chain_to fs N) N f (node f p) in
      let l = endless N f p in
      omega arith

  pub is_graph : IsGraph (applied_graph fs)
  is_graph f t e = let l = edge_small f t e in let n = length-map fs (λ (g : Fun). applied_by N g.body) in omega arith
