-- From the marks of a walk to the answer.
use Rattle.std.proofs.Common.{◌≡◌, ℕ, zero, suc, ◌+◌, ◌<◌, ◌≤◌, List, [], ◌∷◌, map, length, slice_index, Contains, sym, ◌∙◌, ap, subst, refl, arith}
use Rattle.std.proofs.lemmas.List.{length-map, get_or_past}
use mathlib.Core.Logic.{dite}
use native.Mathlib.Decide.{ℕ_discrete, dec_le}
use Rattle.bg_graph.specs.Graphs.{Graph, IsEdge, IsAcyclic, IsRanking}
use Rattle.bg_graph.specs.declared.marks.Mark.{Mark}
use Rattle.bg_graph.specs.declared.marks.Mark.TheVariants.{Fresh, Open, Done}
use Rattle.bg_graph.specs.declared.visit.Visit.{Visit}
use Rattle.bg_graph.specs.declared.visit.Visit.TheVariants.{Ended}
use Rattle.bg_graph.specs.Marks.{mark_of, rank_of, IsDone, Settled, NoneOpen, Visited}
use Rattle.bg_graph.proofs.Paths.{ranked_acyclic}

-- what the walks from all roots below root keep
pub record Walked (g : Graph) (marks : List Mark) (next root : ℕ) : Type 0 where
  pub settled : Settled g marks next
  pub none : NoneOpen marks
  pub past : (v : ℕ) → v < root → mark_of marks v ≡ Fresh → ⊥

pub walk_on : (g : Graph) (m m₁ m' m'' : List Mark) (next next' root : ℕ) (v : Visit) → Walked g m next root → m₁ ≡ m → m'' ≡ m' → Visited g m₁ m' root v → v ≡ Ended next' → Walked g m'' next' (root + 1)
walk_on g m m₁ m' m'' next next' root v w from to visited is =
    let P : Visit → Type 0 = λ x. Visited g m₁ m' root x in
    let a = subst P is visited in
    let Q : List Mark → Type 0 = λ l. Walked g l next' (root + 1) in
    subst Q (sym to) (record {
      settled = a.0;
      none = a.1;
      past = λ u h f. dite (ℕ_discrete u root)
          (λ here. a.3 (ap (mark_of m') (sym here) ∙ f))
          (λ n. w.past u (omega arith) (ap (λ l. mark_of l u) (sym from) ∙ a.2 u f));
    })

rank_at : (m : List Mark) (v : ℕ) → slice_index (map rank_of m) v ≡ rank_of (mark_of m v)
rank_at [] v = refl
rank_at (x ∷ xs) zero = refl
rank_at (x ∷ xs) (suc v) = rank_at xs v

done_at : (m : List Mark) (v : ℕ) (x : Mark) → mark_of m v ≡ x → (mark_of m v ≡ Fresh → ⊥) → (mark_of m v ≡ Open → ⊥) → IsDone m v
done_at m v Fresh e f o = absurd (f e)
done_at m v Open e f o = absurd (o e)
done_at m v (Done r) e f o = (r, e)

in_graph : (g : Graph) (f t : ℕ) → IsEdge g f t → f < length g
in_graph g f t e = dite (dec_le (length g) f)
    (λ past. let P : List ℕ → Type 0 = λ l. Contains l t in let c = subst P (get_or_past g f [] past) e in let h : c.0 < 0 = c.1 in absurd (omega arith))
    (λ not. omega arith)

module _ (g : Graph) (m : List Mark) (next root : ℕ) (w : Walked g m next root) (end : length g ≤ root) where
  all_done : (v : ℕ) → v < length g → IsDone m v
  all_done v h = done_at m v (mark_of m v) refl (w.past v (omega arith)) (w.none v)

  rank_is : (v r : ℕ) → mark_of m v ≡ Done r → slice_index (map rank_of m) v ≡ r
  rank_is v r d = rank_at m v ∙ ap rank_of d

  ranking : IsRanking g (map rank_of m)
  ranking = record {
    long = length-map m rank_of ∙ w.settled.long;
    small = λ f h. let d = all_done f h in let is = rank_is f d.0 d.1 in let low = w.settled.below f d.0 d.1 in let all = w.settled.counted in omega arith;
    falls = λ f t e.
        let d = all_done f (in_graph g f t e) in
        let a = w.settled.falls f d.0 t d.1 e in
        let is = rank_is f d.0 d.1 in let at = rank_is t a.0 a.1 in let low : a.0 < d.0 = a.2 in omega arith;
  }

  pub answer : (ranks : List ℕ) → ranks ≡ map rank_of m → IsRanking g ranks × IsAcyclic g
  answer ranks e = let P : List ℕ → Type 0 = λ l. IsRanking g l in (subst P (sym e) ranking, ranked_acyclic g (map rank_of m) ranking)
