-- A walk along the edges that finds which nodes reach themselves: what it keeps, with the legs of the way, the last one first.
use Rattle.std.proofs.Common.{◌≡◌, ℕ, zero, suc, ◌+◌, ◌-◌, ◌<◌, ◌≤◌, ◌⊎◌, inl, inr, ◌≢◌, List, [], ◌∷◌, ◌++◌, length, set, get_or, drop, replicate, reverse, slice_get, slice_index, Some, None, Contains, sym, ◌∙◌, ap, subst, refl, arith, length-set, get_or-set_same, get_or-set_other}
use Rattle.std.specs.List.{sum_by}
use Rattle.std.proofs.lemmas.List.{get_or_past, reverse-append, get_or_default, length_push, get_or_append_left, get_or_push, length-take, length-drop, length-replicate, get_or-replicate}
use Rattle.std.proofs.lemmas.List.Sums.{sum_by-set}
use Rattle.std.proofs.lemmas.List.Elements.{Contains-get_or}
use Rattle.std.proofs.lemmas.Option.{slice_get_within, slice_get-get_or}
use mathlib.Core.Logic.{dite}
use native.Mathlib.Decide.{ℕ_discrete, dec_le}
use Rattle.bg_graph.specs.Graphs.{Graph, IsEdge, IsGraph, IsFirstOnCycle, targets, Reaches}
use Rattle.bg_graph.specs.Graphs.Reaches.{edge, through}
use Rattle.bg_graph.specs.declared.rings.Spot.{Spot}
use Rattle.bg_graph.specs.declared.rings.Spot.TheVariants.{Fresh, Held, Settled}
use Rattle.bg_graph.specs.declared.rings.Leg.{Leg}
use Rattle.bg_graph.specs.Rings.{spot_of, fresh, Rises, IsFront, NamesBefore, IsInside, IsLast, Closes, Calm, StillFresh}
use Rattle.bg_graph.proofs.Paths.{longer, joined}
use Rattle.bg_graph.proofs.Lists.{push_old, push_new, push_cases, take_get, get_take, in_rest, rest_at, same_node, front_rises}

-- a leg stands at this place
abbrev pub On : ℕ → List Leg → Type 0
On a [] = ⊥
On a (f ∷ fs) = (f.at ≡ a) ⊎ On a fs

-- t is settled, or no part starts behind t and up to the place a
abbrev pub Fine : List Spot → List ℕ → ℕ → ℕ → Type 0
Fine spots starts a t = (spot_of spots t ≡ Settled) ⊎ ((i : ℕ) × (spot_of spots t ≡ Held i) × ((k : ℕ) → k < length starts → i < slice_index starts k → slice_index starts k ≤ a → ⊥))

-- the first nodes that v, held at the place a, names
abbrev pub Passed : Graph → List Spot → List ℕ → ℕ → ℕ → ℕ → Type 0
Passed g spots starts v a n = (k : ℕ) → k < n → k < length (targets g v) → Fine spots starts a (slice_index (targets g v) k)

abbrev pub Under : ℕ → List Leg → Type 0
Under a [] = Unit {0}
Under a (f ∷ fs) = f.at < a

-- the legs stand at places that fall
abbrev pub Way : Graph → List Spot → List ℕ → List Leg → Type 0
Way g spots starts [] = Unit {0}
Way g spots starts (f ∷ fs) = (spot_of spots f.node ≡ Held f.at) × Passed g spots starts f.node f.at f.from × Under f.at fs × Way g spots starts fs

-- a node reaches those behind it, and those in front of it where none of the first n parts starts between
abbrev pub Linked : Graph → List ℕ → List ℕ → ℕ → Type 0
Linked g held starts n = (p q x y : ℕ) → slice_get held p ≡ Some x → slice_get held q ≡ Some y → ((k : ℕ) → k < n → q < slice_index starts k → slice_index starts k ≤ p → ⊥) → (x ≡ y) ⊎ Reaches g x y

pub record Walking (g : Graph) (before spots : List Spot) (held starts : List ℕ) (legs : List Leg) (bound first : ℕ) : Type 0 where
  pub at_place : (v i : ℕ) → spot_of spots v ≡ Held i → slice_get held i ≡ Some v
  pub placed : (i v : ℕ) → slice_get held i ≡ Some v → spot_of spots v ≡ Held i
  pub linked : Linked g held starts (length starts)
  pub rises : Rises starts
  pub base : 0 < length held → (0 < length starts) × (slice_index starts 0 ≡ 0)
  pub on_way : (k : ℕ) → k < length starts → On (slice_index starts k) legs
  pub way : Way g spots starts legs
  pub done : (v a : ℕ) → spot_of spots v ≡ Held a → On a legs ⊎ Passed g spots starts v a (length (targets g v))
  pub closed : (v t : ℕ) → spot_of spots v ≡ Settled → IsEdge g v t → spot_of spots t ≡ Settled
  pub least : (v : ℕ) → spot_of spots v ≡ Settled → Reaches g v v → first ≤ v
  pub reaches : Reaches g first first
  pub long : length spots ≡ length g
  pub still : StillFresh before spots
  pub low : first ≤ bound

-- how much of the walk is left
abbrev pub left : List Spot → List Leg → ℕ
left spots legs = sum_by fresh spots + sum_by fresh spots + length legs

-- ---- spots
held-same : (i j : ℕ) → Held i ≡ Held j → i ≡ j
held-same i j e = cc

held-settled : (i : ℕ) → Held i ≢ Settled
held-settled i e = cc

fresh-held : (i : ℕ) → Fresh ≢ Held i
fresh-held i e = cc

fresh-settled : Fresh ≢ Settled
fresh-settled e = cc

in_spots : (spots : List Spot) (v : ℕ) → (spot_of spots v ≡ Fresh → ⊥) → v < length spots
in_spots spots v n = dite (dec_le (length spots) v) (λ past. absurd (n (get_or_past spots v Fresh past))) (λ not. omega arith)

edge_of : (g : Graph) (v k : ℕ) → k < length (targets g v) → IsEdge g v (slice_index (targets g v) k)
edge_of g v k h = Contains-get_or (targets g v) k 0 h

edge_at : (g : Graph) (v t : ℕ) (e : IsEdge g v t) → slice_index (targets g v) e.0 ≡ t
edge_at g v t e = get_or_default (targets g v) e.0 0 t e.1 ∙ e.2

-- ---- legs
module _ (g : Graph) (spots : List Spot) (starts : List ℕ) where
  on_under : (a b : ℕ) (fs : List Leg) → Under a fs → Way g spots starts fs → On b fs → b < a
  on_under a b [] u w on = absurd on
  on_under a b (f ∷ fs) u w (inl e) = let h : f.at < a = u in omega arith
  on_under a b (f ∷ fs) u w (inr on) = let h : f.at < a = u in let r = on_under f.at b fs w.2 w.3 on in omega arith

  on_top : (b : ℕ) (f : Leg) (fs : List Leg) → Way g spots starts (f ∷ fs) → On b (f ∷ fs) → b ≤ f.at
  on_top b f fs w (inl e) = omega arith
  on_top b f fs w (inr on) = let r = on_under f.at b fs w.2 w.3 on in omega arith

  -- a way stays one where what is passed stays so
  way_keep : (spots' : List Spot) (starts' : List ℕ) (fs : List Leg) (n : ℕ) → Under n fs → ((v a : ℕ) → a < n → spot_of spots v ≡ Held a → spot_of spots' v ≡ Held a) → ((a t : ℕ) → a < n → Fine spots starts a t → Fine spots' starts' a t) → Way g spots starts fs → Way g spots' starts' fs
  way_keep spots' starts' [] n u keep fine w = tt
  way_keep spots' starts' (f ∷ fs) n u keep fine w =
      let h : f.at < n = u in (
        keep f.node f.at h w.0,
        (λ k l m. fine f.at (slice_index (targets g f.node) k) h (w.1 k l m)),
        w.2,
        way_keep spots' starts' fs f.at w.2 (λ v a l s. keep v a (omega arith) s) (λ a t l s. fine a t (omega arith) s) w.3,
      )

-- ---- parts are joined
module _ (g : Graph) (before spots : List Spot) (held starts : List ℕ) (f : Leg) (fs : List Leg) (bound first : ℕ) (w : Walking g before spots held starts (f ∷ fs) bound first) where
  top_at : slice_get held f.at ≡ Some f.node
  top_at = w.at_place f.node f.at w.way.0

  top_start : (k : ℕ) → k < length starts → slice_index starts k ≤ f.at
  top_start k h = on_top g spots starts (slice_index starts k) f fs w.way (w.on_way k h)

  -- each held node is the last leg's, or reaches it
  to_top : (p x : ℕ) → slice_get held p ≡ Some x → (x ≡ f.node) ⊎ Reaches g x f.node
  to_top p x e = w.linked p f.at x f.node e top_at (λ k h a b. let c = top_start k h in omega arith)

  reach_by : (p x t : ℕ) → slice_get held p ≡ Some x → IsEdge g f.node t → Reaches g x t
  reach_by p x t e d = elim (to_top p x e) [
    | inl is ↦ let P : ℕ → Type 0 = λ n. IsEdge g n t in edge x t (subst P (sym is) d)
    | inr way ↦ longer g x f.node t way d
  ]

  module _ (row starts' : List ℕ) (place : ℕ) (is : row ≡ targets g f.node) (front : IsFront starts' starts) (gone : (k : ℕ) → length starts' ≤ k → k < length starts → NamesBefore spots row (slice_index starts k)) (passed : (j : ℕ) → f.from ≤ j → j < place → j < length row → IsInside (spot_of spots (slice_index row j)) starts') where
    one_less : (n : ℕ) → length starts' ≤ n → n < length starts → Linked g held starts (suc n) → Linked g held starts n
    one_less n l h link p q x y ep eq free =
        let b : ℕ = slice_index starts n in
        let named = gone n l h in
        let t : ℕ = named.0 in let i : ℕ = named.1 in
        let low : i < b = named.4 in
        let P : List ℕ → Type 0 = λ r. Contains r t in
        let et : slice_get held i ≡ Some t = w.at_place t i named.3 in
        dite (dec_le b p)
        (λ under. dite (dec_le b q)
        (λ behind. link p q x y ep eq (λ k m a c. dite (ℕ_discrete k n) (λ same. let e : slice_index starts k ≡ b = ap (slice_index starts) same in absurd (omega arith)) (λ other. free k (omega arith) a c)))
        (λ front'. let to = reach_by p x t ep (subst P is named.2) in
        let on = link i q t y et eq (λ k m a c. dite (ℕ_discrete k n) (λ same. let e : slice_index starts k ≡ b = ap (slice_index starts) same in absurd (omega arith)) (λ other. free k (omega arith) a (omega arith))) in
        elim on [ inl same ↦ inr (let Q : ℕ → Type 0 = λ m. Reaches g x m in subst Q same to) | inr way ↦ inr (joined g x t y to way) ]))
        (λ over. link p q x y ep eq (λ k m a c. dite (ℕ_discrete k n) (λ same. let e : slice_index starts k ≡ b = ap (slice_index starts) same in absurd (omega arith)) (λ other. free k (omega arith) a c)))

    down : (d n : ℕ) → n + d ≡ length starts → length starts' ≤ n → Linked g held starts n
    down zero n e l = let P : ℕ → Type 0 = λ m. Linked g held starts m in let same : length starts ≡ n = omega arith in subst P same w.linked
    down (suc d) n e l = one_less n l (omega arith) (down d (suc n) (omega arith) (omega arith))

    linked' : Linked g held starts' (length starts')
    linked' p q x y ep eq free =
        let s = front.short in
        down (length starts - length starts') (length starts') (omega arith) (omega arith) p q x y ep eq (λ k h a b. let e = front.same k h in free k h (omega arith) (omega arith))

    fine' : (a t : ℕ) → Fine spots starts a t → Fine spots starts' a t
    fine' a t (inl e) = inl e
    fine' a t (inr e) = inr (e.0, e.1, λ k h u v. let s = front.short in let c = front.same k h in e.2 k (omega arith) (omega arith) (omega arith))

    first_kept : 0 < length held → 0 < length starts'
    first_kept h = dite (dec_le (length starts') 0)
        (λ none. let b = w.base h in let named = gone 0 none b.0 in let low : named.1 < slice_index starts 0 = named.4 in let z = b.1 in absurd (omega arith))
        (λ not. omega arith)

    top_passed : Passed g spots starts' f.node f.at place
    top_passed k h l =
        let long : length row ≡ length (targets g f.node) = ap length is in
        dite (dec_le f.from k)
        (λ from. let P : List ℕ → Type 0 = λ r. IsInside (spot_of spots (slice_index r k)) starts' in
        elim (subst P is (passed k from h (omega arith))) [ inl e ↦ inl e | inr e ↦ inr (e.0, e.1, λ j m u v. let c = e.2 j m in omega arith) ])
        (λ not. fine' f.at (slice_index (targets g f.node) k) (w.way.1 k (omega arith) l))

    pub passed_on : Walking g before spots held starts' (record { node = f.node; at = f.at; from = place } ∷ fs) bound first
    passed_on = record {
      at_place = w.at_place;
      placed = w.placed;
      linked = linked';
      rises = front_rises starts' starts front w.rises;
      base = λ h. let b = w.base h in (first_kept h, front.same 0 (first_kept h) ∙ b.1);
      on_way = λ k h. let s = front.short in let P : ℕ → Type 0 = λ b. On b (f ∷ fs) in subst P (sym (front.same k h)) (w.on_way k (omega arith));
      way = (w.way.0, top_passed, w.way.2, way_keep g spots starts spots starts' fs f.at w.way.2 (λ v a l e. e) (λ a t l e. fine' a t e) w.way.3);
      done = λ v a e. elim (w.done v a e) [ inl on ↦ inl on | inr all ↦ inr (λ k h l. fine' a (slice_index (targets g v) k) (all k h l)) ];
      closed = w.closed;
      least = w.least;
      reaches = w.reaches;
      long = w.long;
      still = w.still;
      low = w.low;
    }

-- ---- a fresh node is held
module _ (g : Graph) (before spots : List Spot) (held starts : List ℕ) (legs : List Leg) (bound first t : ℕ) (w : Walking g before spots held starts legs bound first) (f : spot_of spots t ≡ Fresh) (h : t < length spots) (to : (p x : ℕ) → slice_get held p ≡ Some x → Reaches g x t) where
  new : List Spot
  new = set spots t (Held (length held))

  new_same : spot_of new t ≡ Held (length held)
  unfolding new
  new_same = get_or-set_same spots t (Held (length held)) Fresh h

  new_other : (v : ℕ) → v ≢ t → spot_of new v ≡ spot_of spots v
  unfolding new
  new_other v n = get_or-set_other spots t v (Held (length held)) Fresh n

  keeps : (v : ℕ) (x : Spot) → spot_of spots v ≡ x → Fresh ≢ x → spot_of new v ≡ x
  keeps v x e n = new_other v (λ is. n (sym f ∙ (ap (spot_of spots) (sym is) ∙ e))) ∙ e

  was : (v : ℕ) (x : Spot) → spot_of new v ≡ x → Held (length held) ≢ x → spot_of spots v ≡ x
  was v x e n = sym (new_other v (λ is. n (sym new_same ∙ (ap (spot_of new) (sym is) ∙ e)))) ∙ e

  start_in : (k : ℕ) → k < length starts → slice_index starts k < length held
  start_in k l = below (slice_index starts k) legs w.way (w.on_way k l) where
    below : (b : ℕ) (fs : List Leg) → Way g spots starts fs → On b fs → b < length held
    below b [] u on = absurd on
    below b (e ∷ es) u (inl is) = let r = slice_get_within held e.at e.node (w.at_place e.node e.at u.0) in omega arith
    below b (e ∷ es) u (inr on) = below b es u.3 on

  starts_old : (k : ℕ) → k < length starts → slice_index (starts ++ length held ∷ []) k ≡ slice_index starts k
  starts_old k l = get_or_append_left starts (length held ∷ []) 0 k l

  starts_new : slice_index (starts ++ length held ∷ []) (length starts) ≡ length held
  starts_new = get_or_push starts (length held) 0 (length starts) refl

  fine_new : (a u : ℕ) → a < length held → Fine spots starts a u → Fine new (starts ++ length held ∷ []) a u
  fine_new a u l (inl e) = inl (keeps u Settled e fresh-settled)
  fine_new a u l (inr e) = inr (
    e.0,
    keeps u (Held e.0) e.1 (fresh-held e.0),
    λ k m x y.
        let n = length_push starts (length held) in
        dite (dec_le (length starts) k)
        (λ last. let same : k ≡ length starts = omega arith in let c = ap (slice_index (starts ++ length held ∷ [])) same ∙ starts_new in omega arith)
        (λ not. let c = starts_old k (omega arith) in e.2 k (omega arith) (omega arith) (omega arith)),
  )

  link_new : Linked g (held ++ t ∷ []) (starts ++ length held ∷ []) (length (starts ++ length held ∷ []))
  link_new p q x y ep eq free =
      let n = length_push starts (length held) in
      elim (push_cases held t p x ep) [
        | inl op ↦ elim (push_cases held t q y eq) [
          | inl oq ↦ w.linked p q x y op oq (λ k l a b. let c = starts_old k l in free k (omega arith) (omega arith) (omega arith))
          | inr nq ↦ inr (let P : ℕ → Type 0 = λ m. Reaches g x m in subst P nq.1 (to p x op))
        ]
        | inr np ↦ elim (push_cases held t q y eq) [
          | inl oq ↦ let r = slice_get_within held q y oq in let c = starts_new in let e = np.0 in absurd (free (length starts) (omega arith) (omega arith) (omega arith))
          | inr nq ↦ inl (sym np.1 ∙ nq.1)
        ]
      ]

  rises_new : Rises (starts ++ length held ∷ [])
  rises_new j k l m =
      let n = length_push starts (length held) in
      let a = starts_old j (omega arith) in
      dite (dec_le (length starts) k)
      (λ last. let same : k ≡ length starts = omega arith in let c = ap (slice_index (starts ++ length held ∷ [])) same ∙ starts_new in let b = start_in j (omega arith) in omega arith)
      (λ not. let c = starts_old k (omega arith) in let b = w.rises j k l (omega arith) in omega arith)

  base_new : slice_index (starts ++ length held ∷ []) 0 ≡ 0
  base_new = dite (dec_le (length held) 0)
      (λ none. let empty : length starts ≡ 0 = dite (dec_le (length starts) 0) (λ z. omega arith) (λ some. let a = start_in 0 (omega arith) in absurd (omega arith)) in
      ap (slice_index (starts ++ length held ∷ [])) (sym empty) ∙ (starts_new ∙ omega arith))
      (λ some. let b = w.base (omega arith) in starts_old 0 b.0 ∙ b.1)

  under_new : (fs : List Leg) → Way g spots starts fs → Under (length held) fs
  under_new [] u = tt
  under_new (e ∷ es) u = slice_get_within held e.at e.node (w.at_place e.node e.at u.0)

  new_long : length new ≡ length g
  unfolding new
  new_long = length-set spots t (Held (length held)) ∙ w.long

  hold_ : Walking g before new (held ++ t ∷ []) (starts ++ length held ∷ []) (record { node = t; at = length held; from = 0 } ∷ legs) bound first
  hold_ = record {
    at_place = λ v i e. dite (ℕ_discrete v t)
        (λ is. let same : length held ≡ i = held-same (length held) i (sym new_same ∙ (ap (spot_of new) (sym is) ∙ e)) in
        let P : ℕ → ℕ → Type 0 = λ m u. slice_get (held ++ t ∷ []) m ≡ Some u in
        let Q : ℕ → Type 0 = λ m. P m v in let R : ℕ → Type 0 = λ u. P (length held) u in
        subst Q same (subst R (sym is) (push_new held t)))
        (λ n. push_old held t i v (w.at_place v i (sym (new_other v n) ∙ e)));
    placed = λ i v e. elim (push_cases held t i v e) [
      | inl old ↦ keeps v (Held i) (w.placed i v old) (fresh-held i)
      | inr at ↦ ap (spot_of new) (sym at.1) ∙ (new_same ∙ ap Held (sym at.0))
    ];
    linked = link_new;
    rises = rises_new;
    base = λ l. (let n = length_push starts (length held) in omega arith, base_new);
    on_way = λ k l.
        let n = length_push starts (length held) in
        dite (dec_le (length starts) k)
        (λ last. let same : k ≡ length starts = omega arith in inl (sym (ap (slice_index (starts ++ length held ∷ [])) same ∙ starts_new)))
        (λ not. let P : ℕ → Type 0 = λ b. On b legs in inr (subst P (sym (starts_old k (omega arith))) (w.on_way k (omega arith))));
    way = (new_same, (λ k l m. absurd (omega arith)), under_new legs w.way, way_keep g spots starts new (starts ++ length held ∷ []) legs (length held) (under_new legs w.way) (λ v a l e. keeps v (Held a) e (fresh-held a)) fine_new w.way);
    done = λ v a e. dite (ℕ_discrete v t)
        (λ is. inl (inl (held-same (length held) a (sym new_same ∙ (ap (spot_of new) (sym is) ∙ e)))))
        (λ n. let old = sym (new_other v n) ∙ e in
        elim (w.done v a old) [ inl on ↦ inl (inr on) | inr all ↦ inr (λ k l m. fine_new a (slice_index (targets g v) k) (slice_get_within held a v (w.at_place v a old)) (all k l m)) ]);
    closed = λ v u e d. keeps u Settled (w.closed v u (was v Settled e (held-settled (length held))) d) fresh-settled;
    least = λ v e r. w.least v (was v Settled e (held-settled (length held))) r;
    reaches = w.reaches;
    long = new_long;
    still = λ v e. w.still v (was v Fresh e (λ x. fresh-held (length held) (sym x)));
    low = w.low;
  }

  hold_fewer : sum_by fresh new + 1 ≡ sum_by fresh spots
  unfolding new
  hold_fewer = let s = sum_by-set fresh spots t (Held (length held)) Fresh h in let e : fresh (spot_of spots t) ≡ 1 = ap fresh f in omega arith

  pub hold : (spots' : List Spot) → spots' ≡ set spots t (Held (length held)) → Walking g before spots' (held ++ t ∷ []) (starts ++ length held ∷ []) (record { node = t; at = length held; from = 0 } ∷ legs) bound first
  unfolding new
  hold spots' e = let P : List Spot → Type 0 = λ l. Walking g before l (held ++ t ∷ []) (starts ++ length held ∷ []) (record { node = t; at = length held; from = 0 } ∷ legs) bound first in subst P (sym e) hold_

  pub held_fewer : (spots' : List Spot) → spots' ≡ set spots t (Held (length held)) → sum_by fresh spots' + 1 ≡ sum_by fresh spots
  unfolding new
  held_fewer spots' e = ap (λ l. sum_by fresh l + 1) e ∙ hold_fewer

-- the leg below passes the node that was put on the way
pub bump : (g : Graph) (before spots : List Spot) (held starts : List ℕ) (e f : Leg) (fs : List Leg) (bound first : ℕ) → Walking g before spots held starts (e ∷ f ∷ fs) bound first → slice_index (targets g f.node) f.from ≡ e.node → Walking g before spots held starts (e ∷ record { node = f.node; at = f.at; from = f.from + 1 } ∷ fs) bound first
bump g before spots held starts e f fs bound first w is = record {
  at_place = w.at_place;
  placed = w.placed;
  linked = w.linked;
  rises = w.rises;
  base = w.base;
  on_way = w.on_way;
  way = (
    w.way.0,
    w.way.1,
    w.way.2,
    (
      w.way.3.0,
      (λ k h l. dite (ℕ_discrete k f.from)
          (λ same. inr (e.at, ap (spot_of spots) (ap (slice_index (targets g f.node)) same ∙ is) ∙ w.way.0, λ j m a b. let c = top_start g before spots held starts e (f ∷ fs) bound first w j m in omega arith))
          (λ n. w.way.3.1 k (omega arith) l)),
      w.way.3.2,
      w.way.3.3,
    ),
  );
  done = w.done;
  closed = w.closed;
  least = w.least;
  reaches = w.reaches;
  long = w.long;
  still = w.still;
  low = w.low;
}

-- ---- a walk begins and ends calm
pub begins : (g : Graph) (spots : List Spot) (first : ℕ) → Calm g spots first → Walking g spots spots [] [] [] first first
begins g spots first c = record {
  at_place = λ v i e. absurd (c.free v i e);
  placed = λ i v e. let bad : None ≡ Some v = e in absurd (cc);
  linked = λ p q x y ep eq free. let bad : None ≡ Some x = ep in absurd (cc);
  rises = λ j k h l. absurd (omega arith);
  base = λ h. absurd (omega arith);
  on_way = λ k h. absurd (omega arith);
  way = tt;
  done = λ v a e. absurd (c.free v a e);
  closed = c.closed;
  least = c.least;
  reaches = c.reaches;
  long = c.long;
  still = λ v e. e;
  low = omega arith;
}

pub ends : (g : Graph) (before spots : List Spot) (held starts : List ℕ) (bound first : ℕ) → Walking g before spots held starts [] bound first → Calm g spots first
ends g before spots held starts bound first w = record {
  free = λ v i e. let l = slice_get_within held i v (w.at_place v i e) in w.on_way 0 (w.base (omega arith)).0;
  closed = w.closed;
  least = w.least;
  reaches = w.reaches;
  long = w.long;
}

-- ---- the last leg is left
module _ (g : Graph) (before spots : List Spot) (held starts : List ℕ) (f : Leg) (fs : List Leg) (bound first : ℕ) (w : Walking g before spots held starts (f ∷ fs) bound first) (all : (k : ℕ) → k < length (targets g f.node) → Fine spots starts f.at (slice_index (targets g f.node) k)) where
  -- a node that is held at the last leg's place is its node
  at_top : (v : ℕ) → spot_of spots v ≡ Held f.at → v ≡ f.node
  at_top v e = same_node held f.at v f.node (w.at_place v f.at e) (w.at_place f.node f.at w.way.0)

  off : (v a : ℕ) → spot_of spots v ≡ Held a → On a fs ⊎ Passed g spots starts v a (length (targets g v))
  off v a e = elim (w.done v a e) [
    | inl on ↦ elim on [
      | inl is ↦ inr (let same = at_top v (e ∙ ap Held (sym is)) in
          let P : ℕ → ℕ → Type 0 = λ u b. (k : ℕ) → k < length (targets g u) → Fine spots starts b (slice_index (targets g u) k) in
          let Q : ℕ → Type 0 = λ u. P u f.at in let R : ℕ → Type 0 = λ b. P v b in
          λ k h l. subst R is (subst Q (sym same) all) k l)
      | inr below ↦ inl below
    ]
    | inr passed ↦ inr passed
  ]

  below_top : (k : ℕ) → k < length starts → (slice_index starts k ≡ f.at → ⊥) → On (slice_index starts k) fs
  below_top k h n = elim (w.on_way k h) [ inl is ↦ absurd (n (sym is)) | inr on ↦ on ]

  pub stay : (IsLast starts f.at → ⊥) → Walking g before spots held starts fs bound first
  stay no-last = record {
    at_place = w.at_place;
    placed = w.placed;
    linked = w.linked;
    rises = w.rises;
    base = w.base;
    on_way = λ k h. below_top k h (λ is. dite (ℕ_discrete (k + 1) (length starts))
        (λ last. let same : length starts - 1 ≡ k = omega arith in no-last (omega arith, ap (slice_index starts) same ∙ is))
        (λ n. let a = w.rises k (length starts - 1) (omega arith) (omega arith) in let b = top_start g before spots held starts f fs bound first w (length starts - 1) (omega arith) in absurd (omega arith)));
    way = w.way.3;
    done = off;
    closed = w.closed;
    least = w.least;
    reaches = w.reaches;
    long = w.long;
    still = w.still;
    low = w.low;
  }

first_edge : (g : Graph) (v u : ℕ) → Reaches g v u → (t : ℕ) × IsEdge g v t × ((t ≡ u) ⊎ Reaches g t u)
first_edge g v u (edge _ _ e) = (u, e, inl refl)
first_edge g v u (through _ m _ e p) = (m, e, inr p)

module _ (g : Graph) (spots : List Spot) (closed : (v t : ℕ) → spot_of spots v ≡ Settled → IsEdge g v t → spot_of spots t ≡ Settled) where
  stays_settled : (t u : ℕ) → spot_of spots t ≡ Settled → Reaches g t u → spot_of spots u ≡ Settled
  stays_settled t u s (edge _ _ e) = closed t u s e
  stays_settled t u s (through _ m _ e p) = stays_settled m u (closed t m s e) p

spot_cases : (s : Spot) → (s ≡ Fresh) ⊎ ((s ≡ Settled) ⊎ ((i : ℕ) × (s ≡ Held i)))
spot_cases Fresh = inl refl
spot_cases Settled = inr (inl refl)
spot_cases (Held i) = inr (inr (i, refl))

module _ (g : Graph) (before spots : List Spot) (held starts : List ℕ) (f : Leg) (fs : List Leg) (bound first : ℕ) (w : Walking g before spots held starts (f ∷ fs) bound first) (all : (k : ℕ) → k < length (targets g f.node) → Fine spots starts f.at (slice_index (targets g f.node) k)) (last : IsLast starts f.at) (row held' starts' : List ℕ) (spots' : List Spot) (first' : ℕ) (is : row ≡ targets g f.node) (c : Closes spots held starts row f.node f.at first spots' held' starts' first') (long : length spots' ≡ length spots) where
  in_part : (v a : ℕ) → spot_of spots v ≡ Held a → f.at ≤ a → Contains (drop f.at held) v
  in_part v a e h = in_rest f.at held a v (w.at_place v a e) h

  part_spot : (v : ℕ) → Contains (drop f.at held) v → (a : ℕ) × (f.at ≤ a) × (spot_of spots v ≡ Held a)
  part_spot v h = let r = rest_at f.at held v h in (r.0, r.1, w.placed r.0 v r.2)

  settled_new : (v a : ℕ) → spot_of spots v ≡ Held a → f.at ≤ a → spot_of spots' v ≡ Settled
  settled_new v a e h = c.settled v (in_part v a e h) (in_spots spots v (λ x. fresh-held a (sym x ∙ e)))

  kept_low : (v a : ℕ) → a < f.at → spot_of spots v ≡ Held a → spot_of spots' v ≡ Held a
  kept_low v a h e = c.kept v (λ p. let r = part_spot v p in let same : r.0 ≡ a = held-same r.0 a (sym r.2 ∙ e) in let le : f.at ≤ r.0 = r.1 in omega arith) ∙ e

  kept_settled : (v : ℕ) → spot_of spots v ≡ Settled → spot_of spots' v ≡ Settled
  kept_settled v e = c.kept v (λ p. let r = part_spot v p in held-settled r.0 (sym r.2 ∙ e)) ∙ e

  kept_fresh : (v : ℕ) → spot_of spots v ≡ Fresh → spot_of spots' v ≡ Fresh
  kept_fresh v e = c.kept v (λ p. let r = part_spot v p in fresh-held r.0 (sym e ∙ r.2)) ∙ e

  back_settled : (v : ℕ) → spot_of spots' v ≡ Settled → (spot_of spots v ≡ Settled) ⊎ ((a : ℕ) × (spot_of spots v ≡ Held a) × (f.at ≤ a))
  back_settled v e = elim (spot_cases (spot_of spots v)) [
    | inl x ↦ absurd (fresh-settled (sym (kept_fresh v x) ∙ e))
    | inr x ↦ elim x [
      | inl s ↦ inl s
      | inr h ↦ dite (dec_le f.at h.0) (λ le. inr (h.0, h.1, le)) (λ not. absurd (held-settled h.0 (sym (kept_low v h.0 (omega arith) h.1) ∙ e)))
    ]
  ]

  back_held : (v a : ℕ) → spot_of spots' v ≡ Held a → (spot_of spots v ≡ Held a) × (a < f.at)
  back_held v a e = elim (spot_cases (spot_of spots v)) [
    | inl x ↦ absurd (fresh-held a (sym (kept_fresh v x) ∙ e))
    | inr x ↦ elim x [
      | inl s ↦ absurd (held-settled a (sym e ∙ kept_settled v s))
      | inr h ↦ dite (dec_le f.at h.0)
          (λ le. absurd (held-settled a (sym e ∙ settled_new v h.0 h.1 le)))
          (λ not. let same : h.0 ≡ a = held-same h.0 a (sym (kept_low v h.0 (omega arith) h.1) ∙ e) in (h.1 ∙ ap Held same, omega arith))
    ]
  ]

  pub back_fresh : (v : ℕ) → spot_of spots' v ≡ Fresh → spot_of spots v ≡ Fresh
  back_fresh v e = elim (spot_cases (spot_of spots v)) [
    | inl x ↦ x
    | inr x ↦ elim x [
      | inl s ↦ absurd (fresh-settled (sym e ∙ kept_settled v s))
      | inr h ↦ dite (dec_le f.at h.0)
          (λ le. absurd (fresh-settled (sym e ∙ settled_new v h.0 h.1 le)))
          (λ not. absurd (fresh-held h.0 (sym e ∙ kept_low v h.0 (omega arith) h.1)))
    ]
  ]

  last_start : (k : ℕ) → k < length starts → (k < length starts' → ⊥) → slice_index starts k ≡ f.at
  last_start k h n = let e = c.fewer_parts in let same : k ≡ length starts - 1 = omega arith in ap (slice_index starts) same ∙ last.1

  fine_new' : (a t : ℕ) → a < f.at → Fine spots starts a t → Fine spots' starts' a t
  fine_new' a t l (inl e) = inl (kept_settled t e)
  fine_new' a t l (inr e) = dite (dec_le f.at e.0)
      (λ le. inl (settled_new t e.0 e.1 le))
      (λ not. inr (e.0, kept_low t e.0 (omega arith) e.1, λ k h x y. let s = c.front.short in let z = c.front.same k h in e.2 k (omega arith) (omega arith) (omega arith)))

  off' : (v a : ℕ) → spot_of spots v ≡ Held a → On a fs ⊎ Passed g spots starts v a (length (targets g v))
  off' v a e = off g before spots held starts f fs bound first w all v a e

  -- what a node of the last part names is settled or of that part
  leads : (v a t : ℕ) → spot_of spots v ≡ Held a → f.at ≤ a → IsEdge g v t → (spot_of spots t ≡ Settled) ⊎ ((i : ℕ) × (spot_of spots t ≡ Held i) × (f.at ≤ i))
  leads v a t e le d =
      let P : ℕ → Type 0 = λ u. Fine spots starts a u in
      elim (off' v a e) [
        | inl on ↦ let h = on_under g spots starts f.at a fs w.way.2 w.way.3 on in absurd (omega arith)
        | inr passed ↦ elim (subst P (edge_at g v t d) (passed d.0 d.1 d.1)) [
          | inl s ↦ inl s
          | inr i ↦ dite (dec_le f.at i.0)
              (λ there. inr (i.0, i.1, there))
              (λ not. let x = last.0 in let y = last.1 in absurd (i.2 (length starts - 1) (omega arith) (omega arith) (omega arith)))
        ]
      ]

  on_way' : (k : ℕ) → k < length starts' → On (slice_index starts' k) fs
  on_way' k h =
      let e = c.fewer_parts in
      let a = w.rises k (length starts - 1) (omega arith) (omega arith) in let b = last.1 in
      let P : ℕ → Type 0 = λ n. On n fs in
      subst P (sym (c.front.same k h)) (below_top g before spots held starts f fs bound first w all k (omega arith) (λ x. omega arith))

  base' : 0 < length held' → (0 < length starts') × (slice_index starts' 0 ≡ 0)
  base' h =
      let r = ap length c.rest in let n = length-take f.at held in
      let b = w.base (omega arith) in let z = b.1 in
      let e = c.fewer_parts in
      let some : 0 < length starts' = dite (dec_le 1 (length starts')) (λ x. omega arith) (λ not. let s = last_start 0 b.0 not in absurd (omega arith)) in
      (some, c.front.same 0 some ∙ z)

  -- the only node of a part of one
  alone : (v a : ℕ) → spot_of spots v ≡ Held a → f.at ≤ a → length held ≤ f.at + 1 → v ≡ f.node
  alone v a e le few =
      let l = slice_get_within held a v (w.at_place v a e) in
      let same : a ≡ f.at = omega arith in
      at_top g before spots held starts f fs bound first w all v (e ∙ ap Held same)

  least' : (v : ℕ) → spot_of spots' v ≡ Settled → Reaches g v v → first' ≤ v
  least' v e r = elim (back_settled v e) [
    | inl old ↦ let a = w.least v old r in let b = c.low in omega arith
    | inr h ↦ dite (dec_le (length held) (f.at + 1))
        (λ few.
        let here = alone v h.0 h.1 h.2 few in
        let d = first_edge g v v r in
        elim (leads v h.0 d.0 h.1 h.2 d.1) [
          | inl s ↦ absurd (held-settled h.0 (sym h.1 ∙ elim d.2 [ inl same ↦ ap (spot_of spots) (sym same) ∙ s | inr p ↦ stays_settled g spots w.closed d.0 v s p ]))
          | inr i ↦ let there = alone d.0 i.0 i.1 i.2 few in
              let P : ℕ → Type 0 = λ u. IsEdge g u d.0 in let Q : ℕ → Type 0 = λ u. IsEdge g f.node u in
              let R : List ℕ → Type 0 = λ l. Contains l f.node in
              c.least (inr (subst R (sym is) (subst Q there (subst P here d.1)))) v (in_part v h.0 h.1 h.2)
        ])
        (λ not. let n = length-drop f.at held in c.least (inl (omega arith)) v (in_part v h.0 h.1 h.2))
  ]

  -- two nodes of the last part reach each other
  pair : (a b v u : ℕ) → spot_of spots v ≡ Held a → spot_of spots u ≡ Held b → f.at ≤ b → a ≢ b → Reaches g v u
  pair a b v u e d le n = elim (w.linked a b v u (w.at_place v a e) (w.at_place u b d) (λ k h x y. let s = top_start g before spots held starts f fs bound first w k h in omega arith)) [
    | inl same ↦ absurd (n (held-same a b (sym e ∙ (ap (spot_of spots) same ∙ d))))
    | inr way ↦ way
  ]

  in_ring : (v a b : ℕ) → spot_of spots v ≡ Held a → f.at ≤ a → f.at ≤ b → b < length held → a ≢ b → Reaches g v v
  in_ring v a b e le le' h n =
      let u = get_or held b 0 in
      let d = w.placed b u (slice_get-get_or held b 0 h) in
      joined g v u v (pair a b v u e d le' n) (pair b a u v d e le (λ x. n (sym x)))

  reaches' : Reaches g first' first'
  reaches' = elim c.one [
    | inl same ↦ let P : ℕ → Type 0 = λ n. Reaches g n n in subst P (sym same) w.reaches
    | inr h ↦ let r = part_spot first' h.1 in
        dite (dec_le (length held) (f.at + 1))
        (λ few. let here = alone first' r.0 r.2 r.1 few in
        let P : ℕ → Type 0 = λ n. Reaches g n n in let Q : List ℕ → Type 0 = λ l. Contains l f.node in
        elim h.0 [
          | inl many ↦ let n = length-drop f.at held in absurd (omega arith)
          | inr named ↦ subst P (sym here) (edge f.node f.node (subst Q is named))
        ])
        (λ not. dite (ℕ_discrete r.0 f.at)
        (λ at. in_ring first' r.0 (f.at + 1) r.2 r.1 (omega arith) (omega arith) (λ x. omega arith))
        (λ n. in_ring first' r.0 f.at r.2 r.1 (omega arith) (omega (arith, slice_get_within held f.at f.node (w.at_place f.node f.at w.way.0))) n))
  ]

  pub closing : Walking g before spots' held' starts' fs bound first'
  closing = record {
    at_place = λ v i e. let b = back_held v i e in let P : List ℕ → Type 0 = λ l. slice_get l i ≡ Some v in subst P (sym c.rest) (get_take f.at held i v (w.at_place v i b.0) b.1);
    placed = λ i v e. let P : List ℕ → Type 0 = λ l. slice_get l i ≡ Some v in let t = take_get f.at held i v (subst P c.rest e) in kept_low v i t.1 (w.placed i v t.0);
    linked = λ p q x y ep eq free.
        let P : List ℕ → Type 0 = λ l. slice_get l p ≡ Some x in let Q : List ℕ → Type 0 = λ l. slice_get l q ≡ Some y in
        let tp = take_get f.at held p x (subst P c.rest ep) in let tq = take_get f.at held q y (subst Q c.rest eq) in
        w.linked p q x y tp.0 tq.0 (λ k h l m. dite (dec_le (suc k) (length starts'))
        (λ in'. let s = c.front.same k in' in free k in' (omega arith) (omega arith))
        (λ not. let s = last_start k h not in let lt : p < f.at = tp.1 in omega arith));
    rises = front_rises starts' starts c.front w.rises;
    base = base';
    on_way = on_way';
    way = way_keep g spots starts spots' starts' fs f.at w.way.2 kept_low fine_new' w.way.3;
    done = λ v a e. let b = back_held v a e in elim (off' v a b.0) [ inl on ↦ inl on | inr passed ↦ inr (λ k h l. fine_new' a (slice_index (targets g v) k) b.1 (passed k h l)) ];
    closed = λ v t e d. elim (back_settled v e) [
      | inl old ↦ kept_settled t (w.closed v t old d)
      | inr h ↦ elim (leads v h.0 t h.1 h.2 d) [ inl s ↦ kept_settled t s | inr i ↦ settled_new t i.0 i.1 i.2 ]
    ];
    least = least';
    reaches = reaches';
    long = long ∙ w.long;
    still = λ v e. w.still v (back_fresh v e);
    low = let a = c.low in let b = w.low in omega arith;
  }

-- ---- the same with the legs as they stand, the last one at the end
popped : (legs rest : List Leg) (top : Leg) → legs ≡ rest ++ top ∷ [] → reverse legs ≡ top ∷ reverse rest
popped legs rest top e = ap reverse e ∙ reverse-append rest (top ∷ [])

pub begun : (g : Graph) (spots spots' : List Spot) (held held' starts starts' : List ℕ) (legs legs' : List Leg) (first t : ℕ) → Calm g spots first → spot_of spots t ≡ Fresh → t < length g → held ≡ [] → starts ≡ [] → legs ≡ [] → spots' ≡ set spots t (Held (length held)) → held' ≡ held ++ t ∷ [] → starts' ≡ starts ++ length held ∷ [] → legs' ≡ legs ++ record { node = t; at = length held; from = 0 } ∷ [] → Walking g spots spots' held' starts' (reverse legs') first first × (spot_of spots' t ≡ Fresh → ⊥)
begun g spots spots' held held' starts starts' legs legs' first t calm f h a b c d e i j =
    let zero' : length held ≡ 0 = ap length a in
    let P : List ℕ → List ℕ → List Leg → Type 0 = λ x y z. Walking g spots spots' x y z first first in
    let H : List ℕ → Type 0 = λ x. P x starts' (reverse legs') in
    let S : List ℕ → Type 0 = λ y. P (t ∷ []) y (reverse legs') in
    let L : List Leg → Type 0 = λ z. P (t ∷ []) (0 ∷ []) z in
    let eh : held' ≡ t ∷ [] = e ∙ ap (λ x. x ++ t ∷ []) a in
    let es : starts' ≡ 0 ∷ [] = i ∙ (ap (λ x. x ++ length held ∷ []) b ∙ ap (λ n. n ∷ []) zero') in
    let el : reverse legs' ≡ record { node = t; at = 0; from = 0 } ∷ [] = ap reverse (j ∙ (ap (λ x. x ++ record { node = t; at = length held; from = 0 } ∷ []) c ∙ ap (λ (n : ℕ). record { node = t; at = n; from = 0 } ∷ []) zero')) in
    let here : t < length spots = let l = calm.long in omega arith in
    let made : spots' ≡ set spots t (Held 0) = d ∙ ap (λ (n : ℕ). set spots t (Held n)) zero' in
    let same : spot_of spots' t ≡ Held 0 = ap (λ l. spot_of l t) made ∙ get_or-set_same spots t (Held 0) Fresh here in (
      subst H (sym eh) (subst S (sym es) (subst L (sym el) (hold g spots spots [] [] [] first first t (begins g spots first calm) f here (λ p x q. let bad : None ≡ Some x = q in absurd (cc)) spots' made))),
      λ x. fresh-held 0 (sym x ∙ same),
    )

module _ (g : Graph) (before spots : List Spot) (held starts : List ℕ) (legs rest : List Leg) (f : Leg) (bound first place : ℕ) (row starts' : List ℕ) (w : Walking g before spots held starts (reverse legs) bound first) (pop : legs ≡ rest ++ f ∷ []) (is : row ≡ targets g f.node) (front : IsFront starts' starts) (gone : (k : ℕ) → length starts' ≤ k → k < length starts → NamesBefore spots row (slice_index starts k)) (passed : (j : ℕ) → f.from ≤ j → j < place → j < length row → IsInside (spot_of spots (slice_index row j)) starts') where
  walked : Walking g before spots held starts (f ∷ reverse rest) bound first
  walked = let P : List Leg → Type 0 = λ fs. Walking g before spots held starts fs bound first in subst P (popped legs rest f pop) w

  moved : Walking g before spots held starts' (record { node = f.node; at = f.at; from = place } ∷ reverse rest) bound first
  moved = passed_on g before spots held starts f (reverse rest) bound first walked row starts' place is front gone passed

  pub at_within : f.at ≤ length held
  at_within = let v = walked in let l = slice_get_within held f.at f.node (v.at_place f.node f.at v.way.0) in omega arith

  module _ (t : ℕ) (graph : IsGraph g) (h : place < length row) (e : t ≡ slice_index row place) (fr : place < length row → spot_of spots (slice_index row place) ≡ Fresh) where
    fresh_t : spot_of spots t ≡ Fresh
    fresh_t = ap (spot_of spots) e ∙ fr h

    named : IsEdge g f.node t
    named = let P : List ℕ → Type 0 = λ l. Contains l t in subst P is (place, h, get_or_default row place t 0 h ∙ sym e)

    within : t < length spots
    within = let v = walked in let l = v.long in let x = graph f.node t named in omega arith

    order : (legs₁ legs₂ : List Leg) → legs₁ ≡ rest ++ record { node = f.node; at = f.at; from = place + 1 } ∷ [] → legs₂ ≡ legs₁ ++ record { node = t; at = length held; from = 0 } ∷ [] → reverse legs₂ ≡ record { node = t; at = length held; from = 0 } ∷ record { node = f.node; at = f.at; from = place + 1 } ∷ reverse rest
    order legs₁ legs₂ a b = popped legs₂ legs₁ (record { node = t; at = length held; from = 0 }) b ∙ ap (λ fs. record { node = t; at = length held; from = 0 } ∷ fs) (popped legs₁ rest (record { node = f.node; at = f.at; from = place + 1 }) a)

    pub entered : (spots' : List Spot) (held' starts'' : List ℕ) (legs₁ legs₂ : List Leg) → spots' ≡ set spots t (Held (length held)) → held' ≡ held ++ t ∷ [] → starts'' ≡ starts' ++ length held ∷ [] → legs₁ ≡ rest ++ record { node = f.node; at = f.at; from = place + 1 } ∷ [] → legs₂ ≡ legs₁ ++ record { node = t; at = length held; from = 0 } ∷ [] → Walking g before spots' held' starts'' (reverse legs₂) bound first
    entered spots' held' starts'' legs₁ legs₂ a b c d i =
        let P : List ℕ → List ℕ → List Leg → Type 0 = λ x y z. Walking g before spots' x y z bound first in
        let H : List ℕ → Type 0 = λ x. P x starts'' (reverse legs₂) in
        let S : List ℕ → Type 0 = λ y. P (held ++ t ∷ []) y (reverse legs₂) in
        let L : List Leg → Type 0 = λ z. P (held ++ t ∷ []) (starts' ++ length held ∷ []) z in
        let q : Leg = record { node = f.node; at = f.at; from = place } in
        let on = hold g before spots held starts' (q ∷ reverse rest) bound first t moved fresh_t within (λ p x y. reach_by g before spots held starts' q (reverse rest) bound first moved p x t y named) spots' a in
        let to : slice_index (targets g f.node) place ≡ t = ap (λ l. slice_index l place) (sym is) ∙ sym e in
        subst H (sym b) (subst S (sym c) (subst L (sym (order legs₁ legs₂ d i)) (bump g before spots' (held ++ t ∷ []) (starts' ++ length held ∷ []) (record { node = t; at = length held; from = 0 }) q (reverse rest) bound first on to)))

    pub entered_fresh : (spots' : List Spot) (v : ℕ) → spots' ≡ set spots t (Held (length held)) → spot_of spots' v ≡ Fresh → spot_of spots v ≡ Fresh
    entered_fresh spots' v a x = dite (ℕ_discrete v t)
        (λ same. ap (spot_of spots) same ∙ fresh_t)
        (λ n. sym (ap (λ l. spot_of l v) a ∙ get_or-set_other spots t v (Held (length held)) Fresh n) ∙ x)

    pub entered_less : (spots' : List Spot) (legs₁ legs₂ : List Leg) → spots' ≡ set spots t (Held (length held)) → legs₁ ≡ rest ++ record { node = f.node; at = f.at; from = place + 1 } ∷ [] → legs₂ ≡ legs₁ ++ record { node = t; at = length held; from = 0 } ∷ [] → left spots' (reverse legs₂) < left spots (reverse legs)
    entered_less spots' legs₁ legs₂ a d i =
        let s = held_fewer g before spots held starts' (record { node = f.node; at = f.at; from = place } ∷ reverse rest) bound first t moved fresh_t within (λ p x y. reach_by g before spots held starts' (record { node = f.node; at = f.at; from = place }) (reverse rest) bound first moved p x t y named) spots' a in
        let m = ap length (order legs₁ legs₂ d i) in let n = ap length (popped legs rest f pop) in omega arith

  module _ (end : length row ≤ place) where
    all_fine : (k : ℕ) → k < length (targets g f.node) → Fine spots starts' f.at (slice_index (targets g f.node) k)
    all_fine k h = let v = moved in let n : length row ≡ length (targets g f.node) = ap length is in v.way.1 k (omega arith) h

    is_last : (xs : List ℕ) → IsLast xs f.at ⊎ (IsLast xs f.at → ⊥)
    is_last xs = dite (dec_le 1 (length xs))
        (λ some. dite (ℕ_discrete (slice_index xs (length xs - 1)) f.at) (λ at. inl (omega arith, at)) (λ n. inr (λ x. n x.1)))
        (λ none. inr (λ x. none (omega (arith, x.0))))

    module _ (spots' : List Spot) (held' starts'' : List ℕ) (first' : ℕ) (long : length spots' ≡ length spots) (stays : (IsLast starts' f.at → ⊥) → (spots' ≡ spots) × (held' ≡ held) × (starts'' ≡ starts') × (first' ≡ first)) (closes : IsLast starts' f.at → Closes spots held starts' row f.node f.at first spots' held' starts'' first') where
      pub left_on : Walking g before spots' held' starts'' (reverse rest) bound first'
      left_on = elim (is_last starts') [
        | inl last ↦ closing g before spots held starts' (record { node = f.node; at = f.at; from = place }) (reverse rest) bound first moved all_fine last row held' starts'' spots' first' is (closes last) long
        | inr n ↦ let e = stays n in
            let A : List Spot → Type 0 = λ x. Walking g before x held' starts'' (reverse rest) bound first' in
            let B : List ℕ → Type 0 = λ x. Walking g before spots x starts'' (reverse rest) bound first' in
            let C : List ℕ → Type 0 = λ x. Walking g before spots held x (reverse rest) bound first' in
            let D : ℕ → Type 0 = λ x. Walking g before spots held starts' (reverse rest) bound x in
            subst A (sym e.0) (subst B (sym e.1) (subst C (sym e.2) (subst D (sym e.3) (stay g before spots held starts' (record { node = f.node; at = f.at; from = place }) (reverse rest) bound first moved all_fine n))))
      ]

      pub left_fresh : (v : ℕ) → spot_of spots' v ≡ Fresh → spot_of spots v ≡ Fresh
      left_fresh v x = elim (is_last starts') [
        | inl last ↦ back_fresh g before spots held starts' (record { node = f.node; at = f.at; from = place }) (reverse rest) bound first moved all_fine last row held' starts'' spots' first' is (closes last) long v x
        | inr n ↦ sym (ap (λ l. spot_of l v) (stays n).0) ∙ x
      ]

      pub left_less : left spots' (reverse rest) < left spots (reverse legs)
      left_less =
          let n = ap length (popped legs rest f pop) in
          let fewer : sum_by fresh spots' ≤ sum_by fresh spots = elim (is_last starts') [ inl last ↦ (closes last).fewer | inr m ↦ (let e = ap (sum_by fresh) (stays m).0 in omega arith) ] in omega arith

-- ---- from root to root
pub record Searched (g : Graph) (spots : List Spot) (root bound first : ℕ) : Type 0 where
  pub calm : Calm g spots first
  pub past : (v : ℕ) → v < root → spot_of spots v ≡ Fresh → ⊥
  pub low : first ≤ bound

pub nothing_yet : (g : Graph) (spots : List Spot) (last : ℕ) → spots ≡ replicate (length g) Fresh → Reaches g last last → Searched g spots 0 last last
nothing_yet g spots last e r =
    let all : (v : ℕ) → spot_of spots v ≡ Fresh = λ v. ap (λ l. spot_of l v) e ∙ dite (dec_le (length g) v)
    (λ past. get_or_past (replicate (length g) Fresh) v Fresh (let n = length-replicate (length g) Fresh in omega arith))
    (λ not. get_or-replicate (length g) v Fresh Fresh (omega arith)) in
    record {
      calm = record {
        free = λ v i x. fresh-held i (sym (all v) ∙ x);
        closed = λ v t x d. absurd (fresh-settled (sym (all v) ∙ x));
        least = λ v x p. absurd (fresh-settled (sym (all v) ∙ x));
        reaches = r;
        long = ap length e ∙ length-replicate (length g) Fresh;
      };
      past = λ v h. absurd (omega arith);
      low = omega arith;
    }

pub next_root : (g : Graph) (spots spots₁ spots' spots'' : List Spot) (root bound first first' : ℕ) → Searched g spots root bound first → spots₁ ≡ spots → spots'' ≡ spots' → Calm g spots' first' → StillFresh spots₁ spots' → (spot_of spots' root ≡ Fresh → ⊥) → first' ≤ first → Searched g spots'' (root + 1) bound first'
next_root g spots spots₁ spots' spots'' root bound first first' s from to calm still started low =
    let P : List Spot → Type 0 = λ l. Searched g l (root + 1) bound first' in
    subst P (sym to) (record {
      calm = calm;
      past = λ v h x. dite (ℕ_discrete v root)
          (λ here. started (ap (spot_of spots') (sym here) ∙ x))
          (λ n. s.past v (omega arith) (ap (λ l. spot_of l v) (sym from) ∙ still v x));
      low = let a = s.low in omega arith;
    })

pub the_first : (g : Graph) (spots : List Spot) (root bound first : ℕ) → Searched g spots root bound first → bound ≤ root → IsFirstOnCycle g first
the_first g spots root bound first s end = (
  s.calm.reaches,
  λ e h r. elim (spot_cases (spot_of spots e)) [
    | inl x ↦ let l = s.low in s.past e (omega arith) x
    | inr x ↦ elim x [
      | inl settled ↦ let a = s.calm.least e settled r in absurd (omega arith)
      | inr held ↦ s.calm.free e held.0 held.1
    ]
  ],
)

pub is_node : (g : Graph) (f t : ℕ) → Reaches g f t → f < length g
is_node g f t r =
    let d = first_edge g f t r in
    dite (dec_le (length g) f)
    (λ past. let P : List ℕ → Type 0 = λ l. Contains l d.0 in let c = subst P (get_or_past g f [] past) d.1 in let h : c.0 < 0 = c.1 in absurd (omega arith))
    (λ not. omega arith)
