-- A walk along the edges: what is kept with the frames of the way, the last one first.
use Rattle.std.proofs.Common.{◌≡◌, ℕ, ◌+◌, ◌<◌, ◌≤◌, ◌⊎◌, inl, inr, ◌≢◌, List, [], ◌∷◌, ◌++◌, length, set, reverse, slice_index, Contains, sym, ◌∙◌, ap, subst, refl, arith, length-set, get_or-set_same, get_or-set_other}
use Rattle.std.specs.List.{sum_by}
use Rattle.std.proofs.lemmas.List.{get_or_past, reverse-append, get_or_default}
use Rattle.std.proofs.lemmas.List.Sums.{sum_by-set}
use mathlib.Core.Logic.{dite}
use native.Mathlib.Decide.{ℕ_discrete, dec_le}
use Rattle.bg_graph.specs.Graphs.{Graph, IsEdge, IsGraph, targets, Reaches}
use Rattle.bg_graph.specs.Graphs.Reaches.{edge}
use Rattle.bg_graph.specs.declared.marks.Mark.{Mark}
use Rattle.bg_graph.specs.declared.marks.Mark.TheVariants.{Fresh, Open, Done}
use Rattle.bg_graph.specs.declared.marks.Frame.{Frame}
use Rattle.bg_graph.specs.Marks.{mark_of, IsDone, undone, unseen, Falls, Settled, NoneOpen, StillFresh}
use Rattle.bg_graph.proofs.Paths.{longer}

-- a node is on the way
abbrev pub On : ℕ → List Frame → Type 0
On v [] = ⊥
On v (f ∷ fs) = (f.node ≡ v) ⊎ On v fs

-- the first nodes that the frame's node names are done
abbrev pub Passed : Graph → List Mark → ℕ → ℕ → Type 0
Passed g m v from = (k : ℕ) → k < from → k < length (targets g v) → IsDone m (slice_index (targets g v) k)

abbrev pub LeadsTo : Graph → List Frame → ℕ → Type 0
LeadsTo g [] v = Unit {0}
LeadsTo g (f ∷ fs) v = IsEdge g f.node v

-- a way along edges, from the last frame back to the root
abbrev pub Way : Graph → List Mark → List Frame → Type 0
Way g m [] = Unit {0}
Way g m (f ∷ fs) = (mark_of m f.node ≡ Open) × Passed g m f.node f.from × LeadsTo g fs f.node × (On f.node fs → ⊥) × Way g m fs

-- what a walk from a root keeps
pub record Visiting (g : Graph) (before marks : List Mark) (frames : List Frame) (next root : ℕ) : Type 0 where
  pub settled : Settled g marks next
  pub way : Way g marks frames
  pub opens : (v : ℕ) → mark_of marks v ≡ Open → On v frames
  pub fresh : StillFresh before marks
  pub started : mark_of marks root ≡ Fresh → ⊥

-- how much of the walk is left
abbrev pub left : List Mark → ℕ
left marks = sum_by unseen marks + sum_by undone marks

-- ---- marks
inside : (m : List Mark) (v : ℕ) → mark_of m v ≡ Open → v < length m
inside m v o = dite (dec_le (length m) v)
    (λ past. let e = get_or_past m v Fresh past in let bad : Fresh ≡ Open = sym e ∙ o in cc)
    (λ not. omega arith)

same_mark : (m : List Mark) (v : ℕ) (x : Mark) → v < length m → mark_of (set m v x) v ≡ x
same_mark m v x h = get_or-set_same m v x Fresh h

other_mark : (m : List Mark) (v w : ℕ) (x : Mark) → w ≢ v → mark_of (set m v x) w ≡ mark_of m w
other_mark m v w x n = get_or-set_other m v w x Fresh n

-- a node whose mark isn't that of v is another
other : (m : List Mark) (v w : ℕ) (x y : Mark) → mark_of m v ≡ x → mark_of m w ≡ y → x ≢ y → w ≢ v
other m v w x y a b n e = n (sym a ∙ (ap (mark_of m) (sym e) ∙ b))

open-done : (r : ℕ) → Open ≢ Done r
open-done r e = cc

fresh-done : (r : ℕ) → Fresh ≢ Done r
fresh-done r e = cc

open-fresh : Open ≢ Fresh
open-fresh e = cc

fresh-open : Fresh ≢ Open
fresh-open e = cc

done-same : (r s : ℕ) → Done r ≡ Done s → r ≡ s
done-same r s e = cc

-- ---- sums
module _ (m : List Mark) (v : ℕ) (h : v < length m) where
  sums : (f : Mark → ℕ) (x y : Mark) → mark_of m v ≡ x → sum_by f (set m v y) + f x ≡ sum_by f m + f y
  sums f x y e = let s = sum_by-set f m v y Fresh h in let same : f (mark_of m v) ≡ f x = ap f e in omega arith

-- ---- the way
module _ (g : Graph) where
  way_keep : (m m' : List Mark) (fs : List Frame) → ((v : ℕ) → mark_of m v ≡ Open → On v fs → mark_of m' v ≡ Open) → ((v r : ℕ) → mark_of m v ≡ Done r → mark_of m' v ≡ Done r) → Way g m fs → Way g m' fs
  way_keep m m' [] keep done w = tt
  way_keep m m' (f ∷ fs) keep done w = (keep f.node w.0 (inl refl), (λ k h l. let d = w.1 k h l in (d.0, done (slice_index (targets g f.node) k) d.0 d.1)), w.2, w.3, way_keep m m' fs (λ v o on. keep v o (inr on)) done w.4)

  on_open : (m : List Mark) (fs : List Frame) (v : ℕ) → Way g m fs → On v fs → mark_of m v ≡ Open
  on_open m [] v w on = absurd on
  on_open m (f ∷ fs) v w (inl e) = ap (mark_of m) (sym e) ∙ w.0
  on_open m (f ∷ fs) v w (inr on) = on_open m fs v w.4 on

  reach_top : (m : List Mark) (f : Frame) (fs : List Frame) (v : ℕ) → Way g m (f ∷ fs) → On v fs → Reaches g v f.node
  reach_top m f [] v w on = absurd on
  reach_top m f (h ∷ hs) v w (inl e) = let P : ℕ → Type 0 = λ n. IsEdge g n f.node in edge v f.node (subst P e w.2)
  reach_top m f (h ∷ hs) v w (inr on) = longer g v h.node f.node (reach_top m h hs v w.4 on) w.2

  -- a node on the way to which the last node leads reaches itself
  round : (m : List Mark) (f : Frame) (fs : List Frame) (v : ℕ) → Way g m (f ∷ fs) → IsEdge g f.node v → On v (f ∷ fs) → Reaches g v v
  round m f fs v w e (inl s) = let P : ℕ → Type 0 = λ n. IsEdge g n v in edge v v (subst P s e)
  round m f fs v w e (inr on) = longer g v f.node v (reach_top m f fs v w on) e

  -- ---- a fresh node is opened
  module _ (m : List Mark) (next t : ℕ) (fresh : mark_of m t ≡ Fresh) (here : t < length m) where
    opened_done : (v r : ℕ) → mark_of m v ≡ Done r → mark_of (set m t Open) v ≡ Done r
    opened_done v r d = other_mark m t v Open (other m t v Fresh (Done r) fresh d (fresh-done r)) ∙ d

    was_done : (v r : ℕ) → mark_of (set m t Open) v ≡ Done r → mark_of m v ≡ Done r
    was_done v r d = let n : v ≢ t = λ e. open-done r (sym (same_mark m t Open here) ∙ (ap (mark_of (set m t Open)) (sym e) ∙ d)) in sym (other_mark m t v Open n) ∙ d

    opened : Settled g m next → Settled g (set m t Open) next
    opened s = record {
      falls = λ v r u d e. let a = s.falls v r u (was_done v r d) e in (a.0, opened_done u a.0 a.1, a.2);
      below = λ v r d. s.below v r (was_done v r d);
      counted = let a = sums m t here undone Fresh Open fresh in let b = s.counted in omega arith;
      long = length-set m t Open ∙ s.long;
    }

    opened_less : left (set m t Open) + 1 ≡ left m
    opened_less = let a = sums m t here undone Fresh Open fresh in let b = sums m t here unseen Fresh Open fresh in omega arith

    still_fresh : (v : ℕ) → mark_of (set m t Open) v ≡ Fresh → mark_of m v ≡ Fresh
    still_fresh v f = let n : v ≢ t = λ e. open-fresh (sym (same_mark m t Open here) ∙ (ap (mark_of (set m t Open)) (sym e) ∙ f)) in sym (other_mark m t v Open n) ∙ f

    begin_ : Settled g m next → NoneOpen m → Visiting g m (set m t Open) (record { node = t; from = 0 } ∷ []) next t
    begin_ s none = record {
      settled = opened s;
      way = (same_mark m t Open here, (λ k h l. absurd (omega arith)), tt, (λ on. on), tt);
      opens = λ v o. dite (ℕ_discrete v t) (λ e. inl (sym e)) (λ n. absurd (none v (sym (other_mark m t v Open n) ∙ o)));
      fresh = still_fresh;
      started = λ f. open-fresh (sym (same_mark m t Open here) ∙ f);
    }

    module _ (before : List Mark) (top : Frame) (fs : List Frame) (root from : ℕ) (w : Visiting g before m (top ∷ fs) next root) (e : IsEdge g top.node t) (passed : Passed g m top.node from) where
      kept_open : (v : ℕ) → mark_of m v ≡ Open → mark_of (set m t Open) v ≡ Open
      kept_open v o = other_mark m t v Open (other m t v Fresh Open fresh o fresh-open) ∙ o

      not_on : On t (top ∷ fs) → ⊥
      not_on on = open-fresh (sym (on_open m (top ∷ fs) t w.way on) ∙ fresh)

      put : Visiting g before (set m t Open) (record { node = t; from = 0 } ∷ record { node = top.node; from = from } ∷ fs) next root
      put = record {
        settled = opened w.settled;
        way = (same_mark m t Open here, (λ k h l. absurd (omega arith)), e, not_on, (kept_open top.node w.way.0, (λ k h l. let d = passed k h l in (d.0, opened_done (slice_index (targets g top.node) k) d.0 d.1)), w.way.2, w.way.3, way_keep m (set m t Open) fs (λ v o on. kept_open v o) opened_done w.way.4));
        opens = λ v o. dite (ℕ_discrete v t) (λ e. inl (sym e)) (λ n. inr (w.opens v (sym (other_mark m t v Open n) ∙ o)));
        fresh = λ v f. w.fresh v (still_fresh v f);
        started = λ f. w.started (still_fresh root f);
      }

  -- ---- the last node is left
  module _ (before m : List Mark) (top : Frame) (fs : List Frame) (next root : ℕ) (w : Visiting g before m (top ∷ fs) next root) where
    end_here : top.node < length m
    end_here = inside m top.node w.way.0

    room : next + 1 ≤ length g
    room = let a = sums m top.node end_here undone Open (Done next) w.way.0 in let b = w.settled.counted in omega arith

    left_done : (v r : ℕ) → mark_of m v ≡ Done r → mark_of (set m top.node (Done next)) v ≡ Done r
    left_done v r d = other_mark m top.node v (Done next) (other m top.node v Open (Done r) w.way.0 d (open-done r)) ∙ d

    left_less : left (set m top.node (Done next)) + 1 ≡ left m
    left_less = let a = sums m top.node end_here undone Open (Done next) w.way.0 in let b = sums m top.node end_here unseen Open (Done next) w.way.0 in omega arith

    apart : (v : ℕ) (x : Mark) → mark_of (set m top.node (Done next)) v ≡ x → Done next ≢ x → v ≢ top.node
    apart v x d n e = n (sym (same_mark m top.node (Done next) end_here) ∙ (ap (mark_of (set m top.node (Done next))) (sym e) ∙ d))

    back : (v : ℕ) (x : Mark) → mark_of (set m top.node (Done next)) v ≡ x → v ≢ top.node → mark_of m v ≡ x
    back v x d n = sym (other_mark m top.node v (Done next) n) ∙ d

    module _ (all : (k : ℕ) → k < length (targets g top.node) → IsDone m (slice_index (targets g top.node) k)) where
      target_done : (t : ℕ) → IsEdge g top.node t → IsDone m t
      target_done t e = let row = targets g top.node in let d = all e.0 e.1 in let same : slice_index row e.0 ≡ t = get_or_default row e.0 0 t e.1 ∙ e.2 in (d.0, ap (mark_of m) (sym same) ∙ d.1)

      left_falls : Falls g (set m top.node (Done next))
      left_falls v r t d e = dite (ℕ_discrete v top.node)
          (λ s. let P : ℕ → Type 0 = λ n. IsEdge g n t in
          let a = target_done t (subst P s e) in
          let is : next ≡ r = done-same next r (sym (same_mark m top.node (Done next) end_here) ∙ (ap (mark_of (set m top.node (Done next))) (sym s) ∙ d)) in
          let low = w.settled.below t a.0 a.1 in (a.0, left_done t a.0 a.1, omega arith))
          (λ n. let a = w.settled.falls v r t (back v (Done r) d n) e in (a.0, left_done t a.0 a.1, a.2))

      left_below : (v r : ℕ) → mark_of (set m top.node (Done next)) v ≡ Done r → r < next + 1
      left_below v r d = dite (ℕ_discrete v top.node)
          (λ s. let is : next ≡ r = done-same next r (sym (same_mark m top.node (Done next) end_here) ∙ (ap (mark_of (set m top.node (Done next))) (sym s) ∙ d)) in omega arith)
          (λ n. let a = w.settled.below v r (back v (Done r) d n) in omega arith)

      finish : Visiting g before (set m top.node (Done next)) fs (next + 1) root
      finish = record {
        settled = record {
          falls = left_falls;
          below = left_below;
          counted = let a = sums m top.node end_here undone Open (Done next) w.way.0 in let b = w.settled.counted in omega arith;
          long = length-set m top.node (Done next) ∙ w.settled.long;
        };
        way = way_keep m (set m top.node (Done next)) fs (λ v o on. let P : ℕ → Type 0 = λ n. On n fs in other_mark m top.node v (Done next) (λ s. w.way.3 (subst P s on)) ∙ o) left_done w.way.4;
        opens = λ v o. let n = apart v Open o (λ s. open-done next (sym s)) in elim (w.opens v (back v Open o n)) [ inl s ↦ absurd (n (sym s)) | inr on ↦ on ];
        fresh = λ v f. w.fresh v (back v Fresh f (apart v Fresh f (λ s. fresh-done next (sym s))));
        started = λ f. w.started (back root Fresh f (apart root Fresh f (λ s. fresh-done next (sym s))));
      }

-- ---- the same with the frames as they stand, the last one at the end
popped : (stack rest : List Frame) (top : Frame) → stack ≡ rest ++ top ∷ [] → reverse stack ≡ top ∷ reverse rest
popped stack rest top e = ap reverse e ∙ reverse-append rest (top ∷ [])

edge_at : (g : Graph) (v k t : ℕ) (row : List ℕ) → row ≡ targets g v → k < length row → t ≡ slice_index row k → IsEdge g v t
edge_at g v k t row is h e = let P : List ℕ → Type 0 = λ r. Contains r t in subst P is (k, h, get_or_default row k t 0 h ∙ sym e)

pub begun : (g : Graph) (m m' : List Mark) (next t : ℕ) (none stack : List Frame) → mark_of m t ≡ Fresh → t < length g → Settled g m next → NoneOpen m → m' ≡ set m t Open → none ≡ [] → stack ≡ none ++ record { node = t; from = 0 } ∷ [] → Visiting g m m' (reverse stack) next t
begun g m m' next t none stack f h s closed is e made =
    let P : List Mark → List Frame → Type 0 = λ a b. Visiting g m a (reverse b) next t in
    let Q : List Mark → Type 0 = λ a. P a stack in
    let R : List Frame → Type 0 = λ b. P (set m t Open) b in
    subst Q (sym is) (subst R (sym (made ∙ ap (λ l. l ++ record { node = t; from = 0 } ∷ []) e)) (begin_ g m next t f (let l = s.long in omega arith) s closed))

module _ (g : Graph) (before m : List Mark) (stack rest : List Frame) (top : Frame) (next root at : ℕ) (row : List ℕ) (w : Visiting g before m (reverse stack) next root) (pop : stack ≡ rest ++ top ∷ []) (is : row ≡ targets g top.node) where
  walked : Visiting g before m (top ∷ reverse rest) next root
  walked = let P : List Frame → Type 0 = λ fs. Visiting g before m fs next root in subst P (popped stack rest top pop) w

  -- a target that is open closes a cycle
  pub cycled : (t : ℕ) → at < length row → t ≡ slice_index row at → mark_of m t ≡ Open → Reaches g t t
  cycled t h e o = let v = walked in round g m top (reverse rest) t v.way (edge_at g top.node at t row is h e) (v.opens t o)

  module _ (undone : (k : ℕ) → top.from ≤ k → k < at → k < length row → IsDone m (slice_index row k)) where
    passed_to : Passed g m top.node at
    passed_to k h l =
        let v = walked in
        let P : List ℕ → Type 0 = λ r. IsDone m (slice_index r k) in
        dite (dec_le top.from k)
        (λ from. subst P is (undone k from h (let same : length row ≡ length (targets g top.node) = ap length is in omega arith)))
        (λ not. v.way.1 k (omega arith) l)

    -- the last node is left once all that it names is done
    module _ (end : length row ≤ at) where
      all_done : (k : ℕ) → k < length (targets g top.node) → IsDone m (slice_index (targets g top.node) k)
      all_done k h = let same : length row ≡ length (targets g top.node) = ap length is in passed_to k (omega arith) h

      pub left_on : (m' : List Mark) → m' ≡ set m top.node (Done next) → Visiting g before m' (reverse rest) (next + 1) root
      left_on m' e = let P : List Mark → Type 0 = λ a. Visiting g before a (reverse rest) (next + 1) root in subst P (sym e) (finish g before m top (reverse rest) next root walked all_done)

      pub left_room : next + 1 ≤ length g
      left_room = room g before m top (reverse rest) next root walked

      pub left_fewer : (m' : List Mark) → m' ≡ set m top.node (Done next) → left m' < left m
      left_fewer m' e = let a = left_less g before m top (reverse rest) next root walked in let b = ap left e in omega arith

    -- a fresh target is put on the way
    module _ (t : ℕ) (h : at < length row) (e : t ≡ slice_index row at) (f : mark_of m t ≡ Fresh) (graph : IsGraph g) where
      within : t < length m
      within = let v = walked in let l = v.settled.long in let here = graph top.node t (edge_at g top.node at t row is h e) in omega arith

      pub put_on : (m' : List Mark) (mid stack' : List Frame) → m' ≡ set m t Open → mid ≡ rest ++ record { node = top.node; from = at } ∷ [] → stack' ≡ mid ++ record { node = t; from = 0 } ∷ [] → Visiting g before m' (reverse stack') next root
      put_on m' mid stack' made one two =
          let P : List Mark → Type 0 = λ a. Visiting g before a (reverse stack') next root in
          let Q : List Frame → Type 0 = λ fs. Visiting g before (set m t Open) fs next root in
          let order : reverse stack' ≡ record { node = t; from = 0 } ∷ record { node = top.node; from = at } ∷ reverse rest = popped stack' mid (record { node = t; from = 0 }) two ∙ ap (λ fs. record { node = t; from = 0 } ∷ fs) (popped mid rest (record { node = top.node; from = at }) one) in
          subst P (sym made) (subst Q (sym order) (put g m next t f within before top (reverse rest) root at walked (edge_at g top.node at t row is h e) passed_to))

      pub put_fewer : (m' : List Mark) → m' ≡ set m t Open → left m' < left m
      put_fewer m' made = let a = opened_less g m next t f within in let b = ap left made in omega arith
