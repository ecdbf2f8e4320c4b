-- Values for the variables from a place in the order on.
use Rattle.std.proofs.Common.{◌≡◌, ℕ, zero, suc, ◌<◌, ◌≤◌, Bool, true, false, not, ◌&&◌, ◌||◌, List, [], ◌∷◌, ◌++◌, length, map, reverse, take, drop, get_or, ℤ, pos, negsuc, ◌+ℤ◌, ◌≤ℤ◌, ◌<ℤ◌, refl, sym, ap, ◌∙◌, arith, nat_eq, subst, drop-cons, add-one, ◌-◌}
use Rattle.std.specs.Prelude.{Option, Some, None, int_lt}
use Rattle.std.proofs.lemmas.Bool.{and_parts, and_from, not-true, eq-eqb}
use Rattle.std.proofs.lemmas.Int.{ints}
use Rattle.std.proofs.lemmas.List.{reverse-append, take_more, take_all, drop_all}
use Rattle.bg_base.specs.declared.exact.OutOfRange.{OutOfRange}
use Rattle.bg_rows.specs.declared.row.Row.{Row}
use Rattle.bg_rows.specs.declared.entry.Entry.{Entry}
use Rattle.bg_rows.specs.Entries.{total, coefficient, mentions}
use Rattle.bg_rows.specs.Rows.{RowOf, row_of, Meets, holds, IsNormal, is_false, is_empty}
use Rattle.bg_rows.specs.Steps.{row_at}
use Rattle.bg_rows.proofs.Normal.{not_mentioned, from_rising}
use Rattle.bg_elim.specs.Kept.{is_in, no_twice, none_before, only_behind, entries_in, rows_in, none_false, MeetBehind, BoundsAgree, PairAgrees}
use Rattle.bg_elim.specs.declared.order.Order.{Order}
use Rattle.bg_elim.specs.Answers.{SolvedBy}
use Rattle.bg_elim.specs.Kept.{AllKept}
use Rattle.bg_rows.specs.Rows.{AllMeet}
use Rattle.bg_elim.proofs.Follows.{suffices}
use Rattle.bg_elim.specs.Work.{free}
use Rattle.bg_elim.proofs.Orders.{is_in_last, free_last, free_none}
use Rattle.bg_point.specs.declared.spot.Spot.{Spot}
use Rattle.bg_point.specs.Points.{value_of, with_value, bounds_above, bounds_below, all_near, is_near, meet_behind, pair_agrees, agrees_below, bounds_agree, AreNear, keeps_above, keeps_below, IsGap, IsPoint, IsFar, holds_all}
use Rattle.bg_point.specs.Spans.{Within, IsNearest, IsSpan, mark_of, AtMost, AtLeast, IsRefused, IsNext}
use Rattle.bg_point.specs.declared.span.Span.{Span}
use Rattle.bg_point.specs.declared.spot.Gap.{Gap}
use Rattle.bg_point.specs.declared.spot.Far.{Far}
use Rattle.bg_point.specs.declared.span.Next.TheVariants.{Value as NextValue, Empty as NextEmpty, Refused}
use Rattle.bg_point.specs.declared.span.Mark.{Mark}
use Rattle.bg_point.proofs.Limits.{limit_above, limit_below}
use Rattle.bg_point.proofs.Marks.{above_is, below_is}
use Rattle.bg_point.proofs.Near.{behind_drop, before_take, apart_drop, total_off, holds_is, holds_not, value_last, AllBehind, all_near_same, all_near_last, near_new}

-- what is asked of an order
pub record Ordered (order : List ℕ) (rows : List RowOf) : Type 0 where
  pub once : no_twice order ≡ true
  pub fine : none_false rows ≡ true
  pub inside : rows_in order rows ≡ true
  pub normal : (n : ℕ) (r : RowOf) → row_at rows n ≡ Some r → IsNormal r
  pub agree : (v : ℕ → ℤ) (x : ℕ) → MeetBehind v order x rows → BoundsAgree v order x rows

-- the variables from place p on have near values, which meet the rows on them
pub record Upto (targets : ℕ → ℤ) (order : List ℕ) (rows : List RowOf) (p : ℕ) (spots : List Spot) : Type 0 where
  pub variables : map (λ s. s.variable) spots ≡ reverse (drop p order)
  pub near : all_near targets order rows (value_of spots) spots ≡ true
  pub meets : (n : ℕ) (r : RowOf) → row_at rows n ≡ Some r → free (take p order) r ≡ true → Meets (value_of spots) r

-- ---- tests

pub meet_from : (order : List ℕ) (v : ℕ → ℤ) (x : ℕ) (rows : List RowOf) → ((n : ℕ) (r : RowOf) → row_at rows n ≡ Some r → only_behind order x r ≡ true → Meets v r) → meet_behind order v x rows ≡ true
meet_from order v x [] h = refl
meet_from order v x (r ∷ rows) h =
    and_from (not (only_behind order x r) || holds v r) _ (by_test (only_behind order x r) refl) (meet_from order v x rows (λ n q e. h (suc n) q e))
  where
    by_test : (b : Bool) → only_behind order x r ≡ b → (not b || holds v r) ≡ true
    by_test true e = holds_is v r (h 0 r refl e)
    by_test false e = refl

pair_from : (v : ℕ → ℤ) (x : ℕ) (up low : RowOf) → PairAgrees v x up low → pair_agrees v x up low ≡ true
pair_from v x up low h = grind (arith, ints, h)

lower_from : (order : List ℕ) (v : ℕ → ℤ) (x : ℕ) (up : RowOf) (rs : List RowOf) → ((n : ℕ) (low : RowOf) → row_at rs n ≡ Some low → bounds_below order x low ≡ true → PairAgrees v x up low) → agrees_below order v x up rs ≡ true
lower_from order v x up [] h = refl
lower_from order v x up (low ∷ rs) h =
    and_from (not (bounds_below order x low) || pair_agrees v x up low) _ (by_test (bounds_below order x low) refl) (lower_from order v x up rs (λ n q e. h (suc n) q e))
  where
    by_test : (b : Bool) → bounds_below order x low ≡ b → (not b || pair_agrees v x up low) ≡ true
    by_test true e = pair_from v x up low (h 0 low refl e)
    by_test false e = refl

agree_from : (order : List ℕ) (v : ℕ → ℤ) (x : ℕ) (rows us : List RowOf) → ((n m : ℕ) (up low : RowOf) → row_at us n ≡ Some up → row_at rows m ≡ Some low → bounds_above order x up ≡ true → bounds_below order x low ≡ true → PairAgrees v x up low) → bounds_agree order v x rows us ≡ true
agree_from order v x rows [] h = refl
agree_from order v x rows (up ∷ us) h =
    and_from (not (bounds_above order x up) || agrees_below order v x up rows) _ (by_test (bounds_above order x up) refl) (agree_from order v x rows us (λ n m q low e f. h (suc n) m q low e f))
  where
    by_test : (b : Bool) → bounds_above order x up ≡ b → (not b || agrees_below order v x up rows) ≡ true
    by_test true e = lower_from order v x up rows (λ m low f g. h 0 m up low refl f e g)
    by_test false e = refl

pub all_from : (v : ℕ → ℤ) (rows : List RowOf) → ((n : ℕ) (r : RowOf) → row_at rows n ≡ Some r → Meets v r) → holds_all v rows ≡ true
all_from v [] h = refl
all_from v (r ∷ rows) h = and_from (holds v r) _ (holds_is v r (h 0 r refl)) (all_from v rows (λ n q e. h (suc n) q e))

-- ---- reversed orders

pub reverse_more : (x : ℕ) (xs : List ℕ) → reverse (x ∷ xs) ≡ reverse xs ++ (x ∷ [])
reverse_more x xs = reverse-append (x ∷ []) xs

or_turns : (a b : Bool) → (a || b) ≡ (b || a)
or_turns true true = refl
or_turns true false = refl
or_turns false true = refl
or_turns false false = refl

pub in_reverse : (q : ℕ) (xs : List ℕ) → is_in q (reverse xs) ≡ is_in q xs
in_reverse q [] = refl
in_reverse q (x ∷ xs) =
    ap (is_in q) (reverse_more x xs) ∙ is_in_last q (reverse xs) x ∙ ap (λ b. b || nat_eq q x) (in_reverse q xs) ∙ or_turns (is_in q xs) (nat_eq q x)

behind_from : (ys : List ℕ) (ss : List Spot) → ((q : ℕ) → is_in q (map (λ s. s.variable) ss) ≡ true → is_in q ys ≡ true) → AllBehind ys ss
behind_from ys [] h = tt
behind_from ys (s ∷ ss) h = (h s.variable (here (nat_eq s.variable s.variable) (eq-eqb s.variable s.variable refl)), behind_from ys ss (λ q i. h q (there q (nat_eq q s.variable) i)))
  where
    here : (b : Bool) → b ≡ true → (b || is_in s.variable (map (λ s. s.variable) ss)) ≡ true
    here true e = refl
    here false e = cc

    there : (q : ℕ) (b : Bool) → is_in q (map (λ s. s.variable) ss) ≡ true → (b || is_in q (map (λ s. s.variable) ss)) ≡ true
    there q true g = refl
    there q false g = g

not_in_drop : (order : List ℕ) (i : ℕ) → no_twice order ≡ true → i < length order → is_in (get_or order i 0) (drop (suc i) order) ≡ false
not_in_drop order i n lt = by_test (is_in (get_or order i 0) (drop (suc i) order)) refl
  where
    by_test : (b : Bool) → is_in (get_or order i 0) (drop (suc i) order) ≡ b → b ≡ false
    by_test true e =
        let f = apart_drop order i (get_or order i 0) n lt e in
        let g = eq-eqb (get_or order i 0) (get_or order i 0) refl in
        absurd (cc)
    by_test false e = refl

-- ---- the start

empty_of : (order : List ℕ) (ts : List Entry) → entries_in order ts ≡ true → ((y : ℕ) → is_in y order ≡ true → mentions y ts ≡ false) → ts ≡ []
empty_of order [] h f = refl
empty_of order (t ∷ ts) h f =
    let p = and_parts (is_in t.variable order) _ h in
    let m : (nat_eq t.variable t.variable || mentions t.variable ts) ≡ false = f t.variable p.0 in
    let e = eq-eqb t.variable t.variable refl in
    let k : (true || mentions t.variable ts) ≡ false = subst (λ (b : Bool). (b || mentions t.variable ts) ≡ false) e m in
    absurd (cc)

inside_at : (order : List ℕ) (rows : List RowOf) (n : ℕ) (r : RowOf) → rows_in order rows ≡ true → row_at rows n ≡ Some r → entries_in order r.entries ≡ true
inside_at order [] n r h e = absurd (cc)
inside_at order (q ∷ rows) zero r h e = let is : q ≡ r = cc in rw (← is) (and_parts (entries_in order q.entries) _ h).0
inside_at order (q ∷ rows) (suc n) r h e = inside_at order rows n r (and_parts (entries_in order q.entries) _ h).1 e

fine_at : (rows : List RowOf) (n : ℕ) (r : RowOf) → none_false rows ≡ true → row_at rows n ≡ Some r → is_false r ≡ false
fine_at [] n r h e = absurd (cc)
fine_at (q ∷ rows) zero r h e = let is : q ≡ r = cc in rw (← is) (not-true _ (and_parts (not (is_false q)) _ h).0)
fine_at (q ∷ rows) (suc n) r h e = fine_at rows n r (and_parts (not (is_false q)) _ h).1 e

bare_met : (v : ℕ → ℤ) (ts : List Entry) (b : ℤ) → ts ≡ [] → (is_empty ts && int_lt b (pos 0)) ≡ false → total v ts ≤ℤ b
bare_met v [] b e h = grind (arith, ints, h)
bare_met v (t ∷ ts) b e h = absurd (cc)

pub at_start : (targets : ℕ → ℤ) (order : List ℕ) (rows : List RowOf) → Ordered order rows → Upto targets order rows (length order) []
at_start targets order rows o = record {
  variables = sym (ap reverse (drop_all (length order) order (omega arith)));
  near = refl;
  meets = λ n r e f.
      let g : free order r ≡ true = subst (λ (z : List ℕ). free z r ≡ true) (take_all (length order) order (omega arith)) f in
      bare_met (value_of []) r.entries r.bound (empty_of order r.entries (inside_at order rows n r o.inside e) (λ y i. free_none y order r g i)) (fine_at rows n r o.fine e);
}

-- ---- near values for the variables behind

only_free : (order : List ℕ) (i : ℕ) (r : RowOf) → no_twice order ≡ true → i < length order → only_behind order (get_or order i 0) r ≡ free (take (suc i) order) r
only_free order i r n lt =
    ap (λ b. b && not (mentions (get_or order i 0) r.entries)) (before_take order i r n lt)
    ∙ sym (free_last (take i order) (get_or order i 0) r)
    ∙ ap (λ (z : List ℕ). free z r) (sym (take_more order i 0 lt) ∙ ap (λ k. take k order) (add-one i))

pub are_near : (targets : ℕ → ℤ) (order : List ℕ) (rows : List RowOf) (i : ℕ) (spots : List Spot) → Ordered order rows → i < length order → Upto targets order rows (suc i) spots → AreNear targets order rows (get_or order i 0) spots
are_near targets order rows i spots o lt u =
    let v = value_of spots in
    let x = get_or order i 0 in
    let m : (n : ℕ) (r : RowOf) → row_at rows n ≡ Some r → only_behind order x r ≡ true → Meets v r = λ n r e h. u.meets n r e (sym (only_free order i r o.once lt) ∙ h) in
    record {
      variables = u.variables ∙ ap reverse (sym (behind_drop order i o.once lt));
      near = u.near;
      meets = meet_from order v x rows m;
      agrees = agree_from order v x rows rows (λ n k up low e f a b.
          o.agree v x (λ r g h. m g.0 r g.1 h) up low (n, e) (k, f) (and_parts (none_before order x up) _ a).0 (and_parts (none_before order x low) _ b).0 (above_is order x up a) (below_is order x low b));
    }

-- ---- one more value

sign_cases : (c : ℤ) {P : Type 0} → (pos 0 <ℤ c → P) → (c <ℤ pos 0 → P) → (c ≡ pos 0 → P) → P
sign_cases (pos zero) f g h = h refl
sign_cases (pos (suc n)) f g h = f (omega (arith, ints))
sign_cases (negsuc n) f g h = g (omega (arith, ints))

is_above : (order : List ℕ) (x : ℕ) (r : RowOf) → none_before order x r ≡ true → pos 0 <ℤ coefficient x r.entries → bounds_above order x r ≡ true
is_above order x r b h = and_from (none_before order x r) _ b (grind (arith, ints, h))

is_below : (order : List ℕ) (x : ℕ) (r : RowOf) → none_before order x r ≡ true → coefficient x r.entries <ℤ pos 0 → bounds_below order x r ≡ true
is_below order x r b h = and_from (none_before order x r) _ b (grind (arith, ints, h))

at_most : (o : Option Mark) (z b : ℤ) → ((m : Mark) → o ≡ Some m → z ≤ℤ m.value) → AtMost o b → z ≤ℤ b
at_most None z b f h = absurd h
at_most (Some m) z b f h = let k = f m refl in omega (arith, ints, k, h)

at_least : (o : Option Mark) (z b : ℤ) → ((m : Mark) → o ≡ Some m → m.value ≤ℤ z) → AtLeast o b → b ≤ℤ z
at_least None z b f h = absurd h
at_least (Some m) z b f h = let k = f m refl in omega (arith, ints, k, h)

-- what the next value is
pub record IsNextValue (targets : ℕ → ℤ) (order : List ℕ) (rows : List RowOf) (v : ℕ → ℤ) (x : ℕ) (s : Spot) : Type 0 where
  pub variable : s.variable ≡ x
  pub span : Span
  pub is_span : IsSpan order rows v x (length rows) span
  pub within : Within span s.value
  pub nearest : IsNearest (targets x) span s.value s.reason

at_lt : (rows : List RowOf) (n : ℕ) (r : RowOf) → row_at rows n ≡ Some r → n < length rows
at_lt [] n r h = absurd (cc)
at_lt (q ∷ rows) zero r h = omega arith
at_lt (q ∷ rows) (suc n) r h = let k = at_lt rows n r h in omega arith

met_now : (targets : ℕ → ℤ) (order : List ℕ) (rows : List RowOf) (i : ℕ) (spots : List Spot) (span : Span) (z : ℤ) → Ordered order rows → i < length order → Upto targets order rows (suc i) spots → IsSpan order rows (value_of spots) (get_or order i 0) (length rows) span → Within span z → (n : ℕ) (r : RowOf) → row_at rows n ≡ Some r → free (take i order) r ≡ true → Meets (with_value (value_of spots) (get_or order i 0) z) r
met_now targets order rows i spots span z o lt u s w n r e f =
    let v = value_of spots in
    let x = get_or order i 0 in
    let nr = o.normal n r e in
    let b : none_before order x r ≡ true = before_take order i r o.once lt ∙ f in
    let ln = at_lt rows n r e in
    sign_cases (coefficient x r.entries)
    (λ h. let l = s.ups n r ln e (is_above order x r b h) in (limit_above v x r l.0 z nr h l.1).1 (at_most span.up z l.0 w.0 l.2))
    (λ h. let l = s.lows n r ln e (is_below order x r b h) in (limit_below v x r l.0 z nr h l.1).1 (at_least span.low z l.0 w.1 l.2))
    (λ h.
    let m = not_mentioned x 0 r.entries (from_rising 0 r.entries nr) h in
    let g : free (take (suc i) order) r ≡ true =
    ap (λ (q : List ℕ). free q r) (ap (λ k. take k order) (sym (add-one i)) ∙ take_more order i 0 lt) ∙ free_last (take i order) x r ∙ and_from (free (take i order) r) _ f (ap not m) in
    let k = u.meets n r e g in
    omega (arith, ints, total_off v x z r.entries m, k))

pub next_upto : (targets : ℕ → ℤ) (order : List ℕ) (rows : List RowOf) (i : ℕ) (spots : List Spot) (s : Spot) → Ordered order rows → i < length order → Upto targets order rows (suc i) spots → IsNextValue targets order rows (value_of spots) (get_or order i 0) s → Upto targets order rows i (spots ++ (s ∷ []))
next_upto targets order rows i spots s o lt u q =
    let v = value_of spots in
    let x = get_or order i 0 in
    let z = s.value in
    let away : is_in x (map (λ s. s.variable) spots) ≡ false = ap (is_in x) u.variables ∙ in_reverse x (drop (suc i) order) ∙ not_in_drop order i o.once lt in
    let away2 : is_in s.variable (map (λ s. s.variable) spots) ≡ false = ap (λ y. is_in y (map (λ s. s.variable) spots)) q.variable ∙ away in
    let w : value_of (spots ++ (s ∷ [])) ≡ with_value v x z = value_last spots s away2 ∙ ap (λ y. with_value v y z) q.variable in
    let all : AllBehind (drop (suc i) order) spots = behind_from (drop (suc i) order) spots (λ y h. sym (in_reverse y (drop (suc i) order)) ∙ ap (is_in y) (sym u.variables) ∙ h) in
    let old = all_near_same targets order rows v i z spots o.once lt all u.near in
    let new : is_near targets order rows (with_value v x z) s.variable s.reason ≡ true = ap (λ y. is_near targets order rows (with_value v x z) y s.reason) q.variable ∙ near_new targets order rows v x (length rows) q.span z s.reason o.normal q.is_span q.nearest in
    record {
      variables = map_last spots ∙ ap (λ (ys : List ℕ). ys ++ (s.variable ∷ [])) u.variables ∙ ap (λ y. reverse (drop (suc i) order) ++ (y ∷ [])) q.variable ∙ sym (reverse_more x (drop (suc i) order)) ∙ ap reverse (sym (drop-cons order i 0 lt));
      near = subst (λ (f : ℕ → ℤ). all_near targets order rows f (spots ++ (s ∷ [])) ≡ true) (sym w) (all_near_last targets order rows (with_value v x z) spots s old new);
      meets = λ n r e f. subst (λ (g : ℕ → ℤ). Meets g r) (sym w) (met_now targets order rows i spots q.span z o lt u q.is_span q.within n r e f);
    }
  where
    map_last : (ss : List Spot) → map (λ s. s.variable) (ss ++ (s ∷ [])) ≡ map (λ s. s.variable) ss ++ (s.variable ∷ [])
    map_last [] = refl
    map_last (t ∷ ss) = ap (λ ys. t.variable ∷ ys) (map_last ss)

-- ---- no value

pub next_gap : (targets : ℕ → ℤ) (order : List ℕ) (rows : List RowOf) (i : ℕ) (spots : List Spot) (span : Span) (l k : ℤ) (low up : ℕ) → Ordered order rows → i < length order → Upto targets order rows (suc i) spots → IsSpan order rows (value_of spots) (get_or order i 0) (length rows) span → span.low ≡ Some (mark_of l low) → span.up ≡ Some (mark_of k up) → k <ℤ l → IsGap targets order rows spots (get_or order i 0) k low up
next_gap targets order rows i spots span l k low up o lt u s el eu less =
    let v = value_of spots in
    let x = get_or order i 0 in
    let a = s.low (mark_of l low) el in
    let b = s.up (mark_of k up) eu in
    let na : Meets (with_value v x k) a.0 → ⊥ = λ m. let h = (limit_below v x a.0 l k (o.normal low a.0 a.1) (below_is order x a.0 a.2) a.3).0 m in omega (arith, ints, h, less) in
    let nb : Meets (with_value v x (k +ℤ pos 1)) b.0 → ⊥ = λ m. let h = (limit_above v x b.0 k (k +ℤ pos 1) (o.normal up b.0 b.1) (above_is order x b.0 b.2) b.3).0 m in omega (arith, ints, h) in
    let ka : keeps_above order v x k (Some a.0) ≡ true = and_from (bounds_below order x a.0) _ a.2 (ap not (holds_not (with_value v x k) a.0 na)) in
    let kb : keeps_below order v x (k +ℤ pos 1) (Some b.0) ≡ true = and_from (bounds_above order x b.0) _ b.2 (ap not (holds_not (with_value v x (k +ℤ pos 1)) b.0 nb)) in
    record { near = are_near targets order rows i spots o lt u; above = rw a.1 ka; below = rw b.1 kb }

pub next_far : (targets : ℕ → ℤ) (order : List ℕ) (rows : List RowOf) (i : ℕ) (spots : List Spot) (n : ℕ) (e : OutOfRange) → Ordered order rows → i < length order → Upto targets order rows (suc i) spots → IsRefused order rows (value_of spots) (get_or order i 0) n e → IsFar targets order rows spots (get_or order i 0) n e
next_far targets order rows i spots n e o lt u r = record { near = are_near targets order rows i spots o lt u; refused = r.0; first = r.1 }

pub at_end : (targets : ℕ → ℤ) (order : List ℕ) (rows : List RowOf) (spots : List Spot) → Upto targets order rows 0 spots → IsPoint targets order rows spots
at_end targets order rows spots u = record { variables = u.variables; near = u.near; meets = all_from (value_of spots) rows (λ n r e. u.meets n r e refl) }

-- ---- the rows that code holds

pub rows_normal : (rows : List Row) (n : ℕ) (r : RowOf) → row_at (map row_of rows) n ≡ Some r → IsNormal r
rows_normal [] n r h = absurd (cc)
rows_normal (q ∷ rows) zero r h = let is : row_of q ≡ r = cc in subst IsNormal is q.normal
rows_normal (q ∷ rows) (suc n) r h = rows_normal rows n r h

pub ordered_from : (given : List RowOf) (o : Order) → SolvedBy given o → Ordered o.variables.items (map row_of o.rows.items)
ordered_from given o s = record { once = s.once; fine = s.fine; inside = s.inside; normal = rows_normal o.rows.items; agree = s.agree }

-- ---- as the loop has it

get_same : (xs : List ℕ) (i d e : ℕ) → i < length xs → get_or xs i d ≡ get_or xs i e
get_same [] i d e h = absurd (omega arith)
get_same (x ∷ xs) zero d e h = refl
get_same (x ∷ xs) (suc i) d e h = get_same xs i d e (omega arith)

pub record Turn (order : List ℕ) (p x i : ℕ) : Type 0 where
  pub is : p ≡ suc i
  pub below : i < length order
  pub here : x ≡ get_or order i 0

pub turn_of : (order : List ℕ) (p q x : ℕ) → 0 < p → p ≤ length order → q ≡ p - 1 → x ≡ get_or order q x → Turn order p x q
turn_of order p q x h le e g =
    let lt : q < length order = omega arith in
    record { is = omega arith; below = lt; here = g ∙ get_same order q x 0 lt }

pub value_step : (targets : ℕ → ℤ) (order : List ℕ) (rows : List RowOf) (p x i : ℕ) (spots : List Spot) (s : Spot) → Ordered order rows → Turn order p x i → Upto targets order rows p spots → IsNext targets order rows (value_of spots) x (NextValue s) → Upto targets order rows i (spots ++ (s ∷ []))
value_step targets order rows p x i spots s o t u n =
    let w = subst (λ k. Upto targets order rows k spots) t.is u in
    let m = subst (λ y. IsNext targets order rows (value_of spots) y (NextValue s)) t.here n in
    next_upto targets order rows i spots s o t.below w (record { variable = m.0; span = m.1.0; is_span = m.1.1; within = m.1.2; nearest = m.1.3 })

pub gap_step : (targets : ℕ → ℤ) (order : List ℕ) (rows : List RowOf) (p x i : ℕ) (spots : List Spot) (g : Gap) → Ordered order rows → Turn order p x i → Upto targets order rows p spots → IsNext targets order rows (value_of spots) x (NextEmpty g) → IsGap targets order rows spots g.variable g.below g.low g.up
gap_step targets order rows p x i spots g o t u n =
    let w = subst (λ k. Upto targets order rows k spots) t.is u in
    let m = subst (λ y. IsNext targets order rows (value_of spots) y (NextEmpty g)) t.here n in
    subst (λ y. IsGap targets order rows spots y g.below g.low g.up) (sym m.0)
    (next_gap targets order rows i spots m.1.0 m.1.2.0 g.below g.low g.up o t.below w m.1.1 m.1.2.1 m.1.2.2 m.1.2.3)

pub far_step : (targets : ℕ → ℤ) (order : List ℕ) (rows : List RowOf) (p x i : ℕ) (spots : List Spot) (f : Far) → Ordered order rows → Turn order p x i → Upto targets order rows p spots → IsNext targets order rows (value_of spots) x (Refused f) → IsFar targets order rows spots f.variable f.row f.operation
far_step targets order rows p x i spots f o t u n =
    let w = subst (λ k. Upto targets order rows k spots) t.is u in
    let m = subst (λ y. IsNext targets order rows (value_of spots) y (Refused f)) t.here n in
    subst (λ y. IsFar targets order rows spots y f.row f.operation) (sym m.0) (next_far targets order rows i spots f.row f.operation o t.below w m.1)

pub all_meet : (v : ℕ → ℤ) (rows : List RowOf) → holds_all v rows ≡ true → AllMeet v rows
all_meet v [] h = tt
all_meet v (r ∷ rows) h =
    let p = and_parts (holds v r) _ h in
    let m : Meets v r = grind (arith, ints, p.0) in
    (m, all_meet v rows p.1)

pub point_meets : (targets : ℕ → ℤ) (given : List RowOf) (order : List ℕ) (rows : List RowOf) (spots : List Spot) → AllKept given rows → IsPoint targets order rows spots → AllMeet (value_of spots) given
point_meets targets given order rows spots k p = suffices (value_of spots) given rows k (all_meet (value_of spots) rows p.meets)
