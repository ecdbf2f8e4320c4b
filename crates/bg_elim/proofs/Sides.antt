-- The sides of a variable among the live rows, and the end of a round.
use Rattle.std.proofs.Common.{◌≡◌, ℕ, zero, suc, Bool, true, false, ◌&&◌, ◌||◌, List, [], ◌∷◌, ◌++◌, ℤ, pos, negsuc, ◌*ℤ◌, ◌<ℤ◌, inl, inr, refl, sym, ap, ◌∙◌, arith, nat_eq, subst}
use Rattle.std.specs.Prelude.{Option, Some}
use Rattle.std.proofs.lemmas.Bool.{and_parts, and_from, eqb-true}
use Rattle.std.proofs.lemmas.Int.{ints}
use Rattle.std.proofs.Math.IntN.{*ℤ-zero}
use Rattle.bg_base.proofs.Ring.{product_of_negation}
use Rattle.bg_rows.specs.Entries.{is_zero, coefficient}
use Rattle.bg_rows.specs.Rows.{RowOf}
use Rattle.bg_rows.specs.Steps.{row_at}
use Rattle.bg_rows.proofs.Normal.{from_rising, not_mentioned}
use Rattle.bg_elim.specs.declared.work.Side.TheVariants.{Above, Below}
use Rattle.bg_elim.specs.Kept.{is_in, none_before, MeetBehind, BoundsAgree, PairAgrees}
use Rattle.bg_elim.specs.Work.{WorkOf, Covered, Placed, Grows, IsPair, PairReady, on_side, off_side, IsSide, KeepsSound, IsRound, IsGone}
use Rattle.bg_elim.specs.declared.work.Round.{Round}
use Rattle.bg_elim.specs.declared.work.Round.TheVariants.{Whole, RefutedBy, Filled, Left}
use Rattle.bg_elim.proofs.Orders.{is_in_last, in_last, before_last}
use Rattle.bg_elim.proofs.Covers.{covers_agrees, above_product}
use Rattle.bg_elim.proofs.Rounds.{next_round, holds_next, placed_next, no_bound, in_last_cases}

-- one more number is looked at
abbrev pub Picked : List ℕ → List ℕ → (ℕ → Bool) → Type 0
Picked made ns test = (m : ℕ) → is_in m made ≡ (is_in m ns && test m)

pub picked_more : (made ns : List ℕ) (test : ℕ → Bool) (h : ℕ) → Picked made ns test → test h ≡ true → Picked (made ++ (h ∷ [])) (h ∷ ns) test
picked_more made ns test h p t m = is_in_last m made h ∙ by_test (nat_eq m h) refl
  where
    or_true : (b : Bool) → (b || true) ≡ true
    or_true true = refl
    or_true false = refl

    or_false : (b : Bool) → (b || false) ≡ b
    or_false true = refl
    or_false false = refl

    by_test : (b : Bool) → nat_eq m h ≡ b → (is_in m made || b) ≡ ((b || is_in m ns) && test m)
    by_test true e = let same : m ≡ h = eqb-true m h e in or_true (is_in m made) ∙ sym (ap test same ∙ t)
    by_test false e = or_false (is_in m made) ∙ p m

pub picked_past : (made ns : List ℕ) (test : ℕ → Bool) (h : ℕ) → Picked made ns test → test h ≡ false → Picked made (h ∷ ns) test
picked_past made ns test h p t m = by_test (nat_eq m h) refl
  where
    and_false : (b : Bool) → (b && false) ≡ false
    and_false true = refl
    and_false false = refl

    by_test : (b : Bool) → nat_eq m h ≡ b → is_in m made ≡ ((b || is_in m ns) && test m)
    by_test true e =
        let same : m ≡ h = eqb-true m h e in
        let f : test m ≡ false = ap test same ∙ t in
        p m ∙ ap (λ z. is_in m ns && z) f ∙ and_false (is_in m ns) ∙ sym f
    by_test false e = p m

-- ---- the sides

above_is : (x : ℕ) (r : RowOf) → on_side Above x (Some r) ≡ true → pos 0 <ℤ coefficient x r.entries
above_is x r h = grind (arith, ints)

below_is : (x : ℕ) (r : RowOf) → on_side Below x (Some r) ≡ true → coefficient x r.entries <ℤ pos 0
below_is x r h = grind (arith, ints)

zero_of : (c : ℤ) → is_zero c ≡ true → c ≡ pos 0
zero_of (pos n) h = ap pos (eqb-true n 0 h)
zero_of (negsuc n) h = absurd (cc)

is_above : (x : ℕ) (r : RowOf) → pos 0 <ℤ coefficient x r.entries → on_side Above x (Some r) ≡ true
is_above x r h = grind (arith, ints)

is_below : (x : ℕ) (r : RowOf) → coefficient x r.entries <ℤ pos 0 → on_side Below x (Some r) ≡ true
is_below x r h = grind (arith, ints)

is_neither : (x : ℕ) (r : RowOf) → coefficient x r.entries ≡ pos 0 → off_side x (Some r) ≡ true
is_neither x r h = rw h refl

pub pairs_of_sides : (all : List ℕ) (w : WorkOf) (x : ℕ) (ups lows rest : List ℕ) → Placed all w.order w → is_in x w.order ≡ false → IsSide w Above x ups → IsSide w Below x lows → (i j : ℕ) → is_in i ups ≡ true → is_in j lows ≡ true → IsPair (next_round w x rest) x i j
pairs_of_sides all w x ups lows rest p n su sl i j hi hj =
    let a = and_parts (is_in i w.live) _ (sym (su i) ∙ hi) in
    let b = and_parts (is_in j w.live) _ (sym (sl j) ∙ hj) in
    let u = p.living i a.0 in
    let l = p.living j b.0 in
    record {
      up = u.0;
      low = l.0;
      first = u.1;
      second = l.1;
      above = above_is x u.0 (subst (λ (z : Option RowOf). on_side Above x z ≡ true) u.1 a.1);
      below = below_is x l.0 (subst (λ (z : Option RowOf). on_side Below x z ≡ true) l.1 b.1);
      no_first = before_last w.order x u.0 n ∙ u.2;
      no_second = before_last w.order x l.0 n ∙ l.2;
    }

-- the live rows in which x doesn't stand
abbrev pub IsRest : WorkOf → ℕ → List ℕ → Type 0
IsRest w x ns = (n : ℕ) → is_in n ns ≡ (is_in n w.live && off_side x (row_at w.rows n))

pub placed_start : (all : List ℕ) (w : WorkOf) (x : ℕ) (rest : List ℕ) → Placed all w.order w → IsRest w x rest → Placed all w.order (next_round w x rest)
placed_start all w x rest p s =
    placed_next all w x rest p
    (λ n h. let a = and_parts (is_in n w.live) _ (sym (s n) ∙ h) in (a.0, λ r g. zero_of (coefficient x r.entries) (subst (λ (z : Option RowOf). off_side x z ≡ true) g a.1)))
    (λ n r h g e. s n ∙ and_from (is_in n w.live) _ h (subst (λ (z : Option RowOf). off_side x z ≡ true) (sym g) (is_neither x r e)))
    (λ r n e. not_mentioned x 0 r.entries (from_rising 0 r.entries n) e)

-- ---- the end of a round

above_factor : (g z : ℤ) → pos 0 <ℤ g → pos 0 <ℤ (g *ℤ z) → pos 0 <ℤ z
above_factor g (pos zero) p h = absurd (omega (arith, ints, *ℤ-zero g))
above_factor g (pos (suc n)) p h = omega (arith, ints)
above_factor g (negsuc n) p h =
    absurd (omega (arith, ints, above_product g (pos (suc n)) p (omega (arith, ints)), product_of_negation g (pos (suc n))))

below_factor : (g z : ℤ) → pos 0 <ℤ g → (g *ℤ z) <ℤ pos 0 → z <ℤ pos 0
below_factor g (pos zero) p h = absurd (omega (arith, ints, *ℤ-zero g))
below_factor g (pos (suc n)) p h = absurd (omega (arith, ints, above_product g (pos (suc n)) p (omega (arith, ints))))
below_factor g (negsuc n) p h = omega (arith, ints)

abbrev pub AllReady : WorkOf → ℕ → List ℕ → List ℕ → Type 0
AllReady made x ups lows = (i : ℕ) → is_in i ups ≡ true → (j : ℕ) → is_in j lows ≡ true → PairReady made x i j

-- a bounding row of the variable was kept before, and a live row covers it
old_row : (all : List ℕ) (w made : WorkOf) (x : ℕ) (rest : List ℕ) (n : ℕ) (r : RowOf) → Placed all w.order w → is_in x w.order ≡ false → Grows (next_round w x rest) made → row_at made.rows n ≡ Some r → (coefficient x r.entries ≡ pos 0 → ⊥) → none_before made.order x r ≡ true → Covered w r
old_row all w made x rest n r p new g h nz b =
    elim (g.back n r h) [
      | inl o ↦ p.cover n r o (sym (before_last w.order x r new) ∙ subst (λ (z : List ℕ). none_before z x r ≡ true) g.order b)
      | inr f ↦ absurd (nz (no_bound (w.order ++ (x ∷ [])) x r (in_last w.order x) f))
    ]

agree_new : (all : List ℕ) (w made : WorkOf) (x : ℕ) (ups lows rest : List ℕ) → Placed all w.order w → is_in x w.order ≡ false → IsSide w Above x ups → IsSide w Below x lows → Grows (next_round w x rest) made → AllReady made x ups lows → (v : ℕ → ℤ) → MeetBehind v made.order x made.rows → BoundsAgree v made.order x made.rows
agree_new all w made x ups lows rest p new su sl g ready v m up low au al nu nl pu pl =
    let cu = old_row all w made x rest au.0 up p new g au.1 (λ e. omega (arith, ints, e, pu)) nu in
    let cl = old_row all w made x rest al.0 low p new g al.1 (λ e. omega (arith, ints, e, pl)) nl in
    let hu : pos 0 <ℤ coefficient x cu.row.entries = above_factor cu.covers.factor _ cu.covers.above (rw (cu.covers.coefficients x) at pu) in
    let hl : coefficient x cl.row.entries <ℤ pos 0 = below_factor cl.covers.factor _ cl.covers.above (rw (cl.covers.coefficients x) at pl) in
    let iu : is_in cu.number ups ≡ true = su cu.number ∙ and_from (is_in cu.number w.live) _ cu.lives (rw cu.there (is_above x cu.row hu)) in
    let il : is_in cl.number lows ≡ true = sl cl.number ∙ and_from (is_in cl.number w.live) _ cl.lives (rw cl.there (is_below x cl.row hl)) in
    let r = ready cu.number iu cl.number il in
    let tu = g.stays cu.number cu.row cu.there in
    let tl = g.stays cl.number cl.row cl.there in
    let eu : r.0 ≡ cu.row = cc (r.2, tu) in
    let el : r.1 ≡ cl.row = cc (r.3, tl) in
    let a : PairAgrees v x cu.row cl.row = subst (λ (z : RowOf). PairAgrees v x cu.row z) el (subst (λ (z : RowOf). PairAgrees v x z r.1) eu (r.4 v m)) in
    covers_agrees v x cu.row cl.row up low cu.covers cl.covers pu pl a

pub placed_end : (all : List ℕ) (w made : WorkOf) (x : ℕ) (ups lows rest : List ℕ) → Placed all w.order w → is_in x w.order ≡ false → IsSide w Above x ups → IsSide w Below x lows → Placed all w.order made → Grows (next_round w x rest) made → AllReady made x ups lows → Placed all made.order made
placed_end all w made x ups lows rest p new su sl q g ready = record {
  normal = q.normal;
  inside = q.inside;
  done = λ y h. h;
  living = q.living;
  cover = q.cover;
  agree = λ v y h m.
      elim (in_last_cases y x w.order (rw g.order at h)) [
        | inl o ↦ q.agree v y o m
        | inr e ↦ subst (λ (z : ℕ). MeetBehind v made.order z made.rows → BoundsAgree v made.order z made.rows) (sym e) (agree_new all w made x ups lows rest p new su sl g ready v) m
      ];
}

pub next_is : (w : WorkOf) (x : ℕ) (rest order : List ℕ) → order ≡ w.order ++ (x ∷ []) → record w { order = order; live = rest } ≡ next_round w x rest
next_is w x rest order e = ap (λ (o : List ℕ). record w { order = o; live = rest }) e

pub sound_next : (w made : WorkOf) (x : ℕ) (rest : List ℕ) → KeepsSound (next_round w x rest) made → KeepsSound w made
sound_next w made x rest h given s = h given (holds_next given w x rest s)

pub round_gone : (budget : ℕ) (w made : WorkOf) (x : ℕ) (ups lows rest : List ℕ) (r : Round) → is_in x w.order ≡ false → IsSide w Above x ups → IsSide w Below x lows → IsRest w x rest → IsRound budget (next_round w x rest) x made (AllReady made x ups lows) r → IsGone budget w x made r
round_gone budget w made x ups lows rest Whole new su sl sr h = λ all p.
    let t = h all w.order refl new (placed_start all w x rest p sr) in
    placed_end all w made x ups lows rest p new su sl t.0 t.1 t.2
round_gone budget w made x ups lows rest (RefutedBy reason) new su sl sr h = h
round_gone budget w made x ups lows rest Filled new su sl sr h = h
round_gone budget w made x ups lows rest (Left f) new su sl sr h = h
