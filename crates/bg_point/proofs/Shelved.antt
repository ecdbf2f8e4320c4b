-- Rows by the first of their variables in an order.
use Rattle.std.proofs.Common.{◌≡◌, ℕ, zero, suc, ◌+◌, ◌-◌, ◌<◌, ◌≤◌, Bool, true, false, not, ◌&&◌, ◌||◌, List, [], ◌∷◌, ◌++◌, length, drop, take, get_or, set, replicate, ℤ, pos, ◌<ℤ◌, ◌⊎◌, inl, inr, refl, sym, ap, ◌∙◌, arith, nat_eq, subst, cond, drop-cons, add-one}
use Rattle.std.specs.Prelude.{Option, Some, None, min}
use Rattle.std.proofs.lemmas.Bool.{and_parts, and_from, or_cases, not-true, eqb-true, eq-eqb}
use Rattle.std.proofs.lemmas.Int.{ints}
use Rattle.std.proofs.lemmas.Bool.Decides.{nat_tests}
use Rattle.std.specs.Ordering.{nat_cmp, is_eq}
use Rattle.std.proofs.lemmas.List.{take_more, get_or-set_other, get_or-replicate, length-replicate}
use Rattle.std.proofs.lemmas.Grind.{get_or-set_at}
use Rattle.bg_rows.specs.declared.entry.Entry.{Entry}
use Rattle.bg_rows.specs.Entries.{mentions, coefficient}
use Rattle.bg_rows.specs.Rows.{RowOf}
use Rattle.bg_rows.specs.Steps.{row_at}
use Rattle.bg_rows.proofs.Normal.{no_coefficient}
use Rattle.bg_elim.specs.Kept.{none_before, is_in, no_twice}
use Rattle.bg_point.specs.declared.shelves.Shelves.{Shelves}
use Rattle.bg_point.specs.declared.span.Span.{Span}
use Rattle.bg_point.specs.Points.{bounds_above, bounds_below, binds}
use Rattle.bg_point.specs.Spans.{IsSpan}
use Rattle.bg_point.specs.Shelves.{place_in, place_from, stand, Leads, IsShelved}
use Rattle.bg_point.proofs.Marks.{above_is, below_is}
use Rattle.bg_point.proofs.Limits.{nothing}

-- ---- numbers

either : (n m : ℕ) → (m < n) ⊎ (n ≤ m)
either zero m = inr (omega arith)
either (suc n) zero = inl (omega arith)
either (suc n) (suc m) = elim (either n m) [ inl h ↦ inl (omega arith) | inr h ↦ inr (omega arith) ]

at_or_past : (n m : ℕ) → n ≤ m → (m ≡ n) ⊎ (n + 1 ≤ m)
at_or_past zero zero h = inl refl
at_or_past zero (suc m) h = inr (omega arith)
at_or_past (suc n) zero h = absurd (omega arith)
at_or_past (suc n) (suc m) h = elim (at_or_past n m (omega arith)) [ inl e ↦ inl (ap suc e) | inr l ↦ inr (omega arith) ]

row_below : (rows : List RowOf) (n : ℕ) (r : RowOf) → row_at rows n ≡ Some r → n < length rows
row_below [] n r h = absurd (cc)
row_below (q ∷ rows) zero r h = omega arith
row_below (q ∷ rows) (suc n) r h = let k = row_below rows n r h in omega arith

-- ---- where a row stands

or_true : (b : Bool) → (b || true) ≡ true
or_true true = refl
or_true false = refl

-- a row that bounds a variable mentions it
named_above : (order : List ℕ) (x : ℕ) (r : RowOf) → bounds_above order x r ≡ true → mentions x r.entries ≡ true
named_above order x r h = by_test (mentions x r.entries) refl
  where
    by_test : (b : Bool) → mentions x r.entries ≡ b → b ≡ true
    by_test true e = refl
    by_test false e = absurd (let a = above_is order x r h in let z = no_coefficient x r.entries e in omega (arith, ints, a, z))

named_below : (order : List ℕ) (x : ℕ) (r : RowOf) → bounds_below order x r ≡ true → mentions x r.entries ≡ true
named_below order x r h = by_test (mentions x r.entries) refl
  where
    by_test : (b : Bool) → mentions x r.entries ≡ b → b ≡ true
    by_test true e = refl
    by_test false e = absurd (let a = below_is order x r h in let z = no_coefficient x r.entries e in omega (arith, ints, a, z))

-- no variable before x stands in the row, but x does: so it stands at the place of x
stand_before : (order : List ℕ) (x : ℕ) (r : RowOf) → none_before order x r ≡ true → mentions x r.entries ≡ true → stand order r.entries ≡ place_in order x
stand_before [] x r n m = refl
stand_before (y ∷ ys) x r n m = by_test (nat_eq x y) refl (λ k. stand_before ys x r k m) n
  where
    by_test : (b : Bool) → nat_eq x y ≡ b → (none_before ys x r ≡ true → stand ys r.entries ≡ place_in ys x) → cond b true (not (mentions y r.entries) && none_before ys x r) ≡ true → cond (mentions y r.entries) 0 (suc (stand ys r.entries)) ≡ cond b 0 (suc (place_in ys x))
    by_test true e f k =
        let same : x ≡ y = eqb-true x y e in
        let g : mentions y r.entries ≡ true = subst (λ (z : ℕ). mentions z r.entries ≡ true) same m in
        rw g refl
    by_test false e f k =
        let p = and_parts (not (mentions y r.entries)) _ k in
        rw (not-true _ p.0) (ap suc (f p.1))

pub stand_above : (order : List ℕ) (x : ℕ) (r : RowOf) → bounds_above order x r ≡ true → stand order r.entries ≡ place_in order x
stand_above order x r h = stand_before order x r (and_parts (none_before order x r) _ h).0 (named_above order x r h)

pub stand_below : (order : List ℕ) (x : ℕ) (r : RowOf) → bounds_below order x r ≡ true → stand order r.entries ≡ place_in order x
stand_below order x r h = stand_before order x r (and_parts (none_before order x r) _ h).0 (named_below order x r h)

-- and back: at the place of x no variable before it stands in the row
pub none_from_stand : (order : List ℕ) (x : ℕ) (r : RowOf) → stand order r.entries ≡ place_in order x → place_in order x < length order → none_before order x r ≡ true
none_from_stand [] x r e l = absurd (omega arith)
none_from_stand (y ∷ ys) x r e l = by_test (nat_eq x y) (mentions y r.entries) (none_from_stand ys x r) e l
  where
    by_test : (b m : Bool) → (stand ys r.entries ≡ place_in ys x → place_in ys x < length ys → none_before ys x r ≡ true) → cond m 0 (suc (stand ys r.entries)) ≡ cond b 0 (suc (place_in ys x)) → cond b 0 (suc (place_in ys x)) < suc (length ys) → cond b true (not m && none_before ys x r) ≡ true
    by_test true m f e l = refl
    by_test false true f e l = absurd (omega (arith, e))
    by_test false false f e l = f (omega (arith, e)) (omega (arith, l))

-- ---- the code's search for it

pub stand_none : (order : List ℕ) → length order ≡ stand order []
stand_none [] = refl
stand_none (y ∷ ys) = ap suc (stand_none ys)

mentions_last : (y : ℕ) (ts : List Entry) (t : Entry) → mentions y (ts ++ (t ∷ [])) ≡ (mentions y ts || nat_eq t.variable y)
mentions_last y [] t = or_false (nat_eq t.variable y)
  where
    or_false : (b : Bool) → (b || false) ≡ b
    or_false true = refl
    or_false false = refl
mentions_last y (u ∷ ts) t = by_test (nat_eq u.variable y) (mentions_last y ts t)
  where
    by_test : (b : Bool) → mentions y (ts ++ (t ∷ [])) ≡ (mentions y ts || nat_eq t.variable y) → (b || mentions y (ts ++ (t ∷ []))) ≡ ((b || mentions y ts) || nat_eq t.variable y)
    by_test true h = refl
    by_test false h = h

stand_last : (order : List ℕ) (ts : List Entry) (t : Entry) → min (stand order ts) (place_in order t.variable) ≡ stand order (ts ++ (t ∷ []))
stand_last [] ts t = refl
stand_last (y ∷ ys) ts t = by_test (mentions y ts) (nat_eq t.variable y) (stand_last ys ts t) ∙ ap (λ b. cond b 0 (suc (stand ys (ts ++ (t ∷ []))))) (sym (mentions_last y ts t))
  where
    by_test : (a b : Bool) → min (stand ys ts) (place_in ys t.variable) ≡ stand ys (ts ++ (t ∷ [])) → min (cond a 0 (suc (stand ys ts))) (cond b 0 (suc (place_in ys t.variable))) ≡ cond (a || b) 0 (suc (stand ys (ts ++ (t ∷ []))))
    by_test true b h = omega arith
    by_test false true h = omega arith
    by_test false false h = omega (arith, h)

pub stand_more : (order : List ℕ) (ts : List Entry) (i first place : ℕ) → i < length ts → first ≡ stand order (take i ts) → place ≡ place_in order (get_or ts i nothing).variable → min first place ≡ stand order (take (i + 1) ts)
stand_more order ts i first place h e g = rw (e, g, take_more ts i nothing h) (stand_last order (take i ts) (get_or ts i nothing))

-- ---- places

pub found_place : (order : List ℕ) (x n p : ℕ) → place_from n order x ≡ Some p → p ≡ n + place_in order x
found_place [] x n p h = absurd (cc)
found_place (y ∷ ys) x n p h = by_test (nat_eq x y) (λ k. found_place ys x (suc n) p k) h
  where
    by_test : (b : Bool) → (place_from (suc n) ys x ≡ Some p → p ≡ suc n + place_in ys x) → cond b (Some n) (place_from (suc n) ys x) ≡ Some p → p ≡ n + cond b 0 (suc (place_in ys x))
    by_test true f k = let e : n ≡ p = cc in omega arith
    by_test false f k = let e = f k in omega (arith, e)

pub no_place : (order : List ℕ) (x n : ℕ) → place_from n order x ≡ None → length order ≡ place_in order x
no_place [] x n h = refl
no_place (y ∷ ys) x n h = by_test (nat_eq x y) (λ k. no_place ys x (suc n) k) h
  where
    by_test : (b : Bool) → (place_from (suc n) ys x ≡ None → length ys ≡ place_in ys x) → cond b (Some n) (place_from (suc n) ys x) ≡ None → suc (length ys) ≡ cond b 0 (suc (place_in ys x))
    by_test true f k = absurd (cc)
    by_test false f k = ap suc (f k)

-- one more variable has its place, the one before
pub place_step : (order : List ℕ) (i k x : ℕ) (old new : Option ℕ) → i < length order → k ≡ get_or order i 0 → old ≡ place_from (suc i) (drop (suc i) order) x → new ≡ cond (nat_eq x k) (Some i) old → new ≡ place_from i (drop i order) x
place_step order i k x old new h e o n = rw (drop-cons order i 0 h) (n ∙ ap (λ z. cond (nat_eq x z) (Some i) old) e ∙ ap (λ z. cond (nat_eq x (get_or order i 0)) (Some i) z) o)

cmp_is : (k x : ℕ) → is_eq (nat_cmp k x) ≡ nat_eq x k
cmp_is k x = grind (arith, nat_tests)

-- the same as the loop has it
pub place_turn : (order : List ℕ) (i k x : ℕ) (old new : Option ℕ) → 0 < i → i ≤ length order → k ≡ get_or order (i - 1) 0 → old ≡ place_from i (drop i order) x → new ≡ cond (is_eq (nat_cmp k x)) (Some (i - 1)) old → new ≡ place_from (i - 1) (drop (i - 1) order) x
place_turn order zero k x old new h l e o n = absurd (omega arith)
place_turn order (suc i) k x old new h l e o n =
    let same : suc i - 1 ≡ i = omega arith in
    rw same (place_step order i k x old new (omega arith) (rw same at e) o (rw same at (n ∙ ap (λ b. cond b (Some (suc i - 1)) old) (cmp_is k x))))

pub place_end : (order : List ℕ) (n i x : ℕ) → n ≡ length order → None ≡ place_from i (drop n order) x
place_end [] zero i x h = refl
place_end [] (suc n) i x h = absurd (omega arith)
place_end (y ∷ ys) zero i x h = absurd (omega arith)
place_end (y ∷ ys) (suc n) i x h = place_end ys n i x (omega arith)

is_in_get : (ys : List ℕ) (i : ℕ) → i < length ys → is_in (get_or ys i 0) ys ≡ true
is_in_get [] i h = absurd (omega arith)
is_in_get (y ∷ ys) zero h = rw (eq-eqb y y refl) refl
is_in_get (y ∷ ys) (suc i) h = rw (is_in_get ys i (omega arith)) (or_true (nat_eq (get_or ys i 0) y))

pub place_at : (order : List ℕ) (i : ℕ) → no_twice order ≡ true → i < length order → place_in order (get_or order i 0) ≡ i
place_at [] i o h = absurd (omega arith)
place_at (y ∷ ys) zero o h = rw (eq-eqb y y refl) refl
place_at (y ∷ ys) (suc i) o h =
    let p = and_parts (not (is_in y ys)) _ o in
    let n : is_in y ys ≡ false = not-true _ p.0 in
    by_test (nat_eq (get_or ys i 0) y) refl n (place_at ys i p.1 (omega arith))
  where
    by_test : (b : Bool) → nat_eq (get_or ys i 0) y ≡ b → is_in y ys ≡ false → place_in ys (get_or ys i 0) ≡ i → cond b 0 (suc (place_in ys (get_or ys i 0))) ≡ suc i
    by_test true e n f =
        let same : get_or ys i 0 ≡ y = eqb-true (get_or ys i 0) y e in
        let g : is_in y ys ≡ true = subst (λ (z : ℕ). is_in z ys ≡ true) same (is_in_get ys i (omega arith)) in
        absurd (cc)
    by_test false e n f = ap suc f

-- ---- shelves

leads_end : (order : List ℕ) (rows : List RowOf) (p n : ℕ) → n ≡ length rows → Leads order rows p n n
leads_end order rows p n e = record {
  low = omega arith;
  within = omega arith;
  gap = λ m r lo hi at s. absurd (omega arith);
  on = λ r at. absurd (let k = row_below rows n r at in omega (arith, k, e));
}

leads_here : (order : List ℕ) (rows : List RowOf) (p n : ℕ) (r : RowOf) → row_at rows n ≡ Some r → stand order r.entries ≡ p → Leads order rows p n n
leads_here order rows p n r at s = record {
  low = omega arith;
  within = let k = row_below rows n r at in omega (arith, k);
  gap = λ m q lo hi h g. absurd (omega arith);
  on = λ q h. let e : r ≡ q = cc in subst (λ (z : RowOf). stand order z.entries ≡ p) e s;
}

leads_past : (order : List ℕ) (rows : List RowOf) (p n to : ℕ) (r : RowOf) → row_at rows n ≡ Some r → (stand order r.entries ≡ p → ⊥) → Leads order rows p (n + 1) to → Leads order rows p n to
leads_past order rows p n to r at off l = record {
  low = let k = l.low in omega (arith, k);
  within = l.within;
  gap = λ m q lo hi h s.
      elim (at_or_past n m lo) [
        | inl e ↦
            let same : row_at rows n ≡ Some q = subst (λ (z : ℕ). row_at rows z ≡ Some q) e h in
            let is : r ≡ q = cc in
            off (subst (λ (z : RowOf). stand order z.entries ≡ p) (sym is) s)
        | inr past ↦ l.gap m q past hi h s
      ];
  on = l.on;
}

-- the rows from n on are on their shelves
pub record Half (order : List ℕ) (rows : List RowOf) (heads nexts : List ℕ) (n : ℕ) : Type 0 where
  pub placed : length heads ≡ length order
  pub sized : length nexts ≡ length rows
  pub leads : (p : ℕ) → p < length order → Leads order rows p n (get_or heads p 0)
  pub follows : (m : ℕ) (r : RowOf) → n ≤ m → row_at rows m ≡ Some r → stand order r.entries < length order → Leads order rows (stand order r.entries) (m + 1) (get_or nexts m 0)

pub half_end : (order : List ℕ) (rows : List RowOf) (heads nexts : List ℕ) (n : ℕ) → n ≡ length rows → length heads ≡ length order → length nexts ≡ length rows → ((p : ℕ) → p < length order → get_or heads p 0 ≡ n) → Half order rows heads nexts n
half_end order rows heads nexts n e h k f = record {
  placed = h;
  sized = k;
  leads = λ p l. subst (λ (z : ℕ). Leads order rows p n z) (sym (f p l)) (leads_end order rows p n e);
  follows = λ m r lo at s. absurd (let b = row_below rows m r at in omega (arith, b, e));
}

pub half_start : (order : List ℕ) (rows : List RowOf) (heads nexts : List ℕ) (n : ℕ) → n ≡ length rows → heads ≡ replicate (length order) n → nexts ≡ replicate (length rows) n → Half order rows heads nexts n
half_start order rows heads nexts n e h k =
    half_end order rows heads nexts n e
    (ap (λ (z : List ℕ). length z) h ∙ length-replicate (length order) n)
    (ap (λ (z : List ℕ). length z) k ∙ length-replicate (length rows) n)
    (λ p l. ap (λ (z : List ℕ). get_or z p 0) h ∙ get_or-replicate (length order) p n 0 l)

-- a row that stands at no place is on no shelf
pub half_past : (order : List ℕ) (rows : List RowOf) (heads nexts : List ℕ) (n : ℕ) (r : RowOf) → row_at rows n ≡ Some r → length heads ≤ stand order r.entries → Half order rows heads nexts (n + 1) → Half order rows heads nexts n
half_past order rows heads nexts n r at off h =
    let k = h.placed in
    record {
      placed = h.placed;
      sized = h.sized;
      leads = λ p l. leads_past order rows p n (get_or heads p 0) r at (λ e. absurd (omega (arith, e, off, l, k))) (h.leads p l);
      follows = λ m q lo g s.
          elim (at_or_past n m lo) [
            | inl e ↦
                let same : row_at rows n ≡ Some q = subst (λ (z : ℕ). row_at rows z ≡ Some q) e g in
                let is : r ≡ q = cc in
                let t : stand order r.entries ≡ stand order q.entries = ap (λ (z : RowOf). stand order z.entries) is in
                absurd (omega (arith, t, off, s, k))
            | inr past ↦ h.follows m q past g s
          ];
    }

-- a row is the first one on its shelf
pub half_put : (order : List ℕ) (rows : List RowOf) (heads nexts : List ℕ) (n p : ℕ) (r : RowOf) → row_at rows n ≡ Some r → stand order r.entries ≡ p → p < length heads → Half order rows heads nexts (n + 1) → Half order rows (set heads p n) (set nexts n (get_or heads p 0)) n
half_put order rows heads nexts n p r at st lt h =
    let k = h.placed in
    let j = h.sized in
    let below = row_below rows n r at in
    let there : n < length nexts = omega (arith, below, j) in
    record {
      placed = length_set heads p n ∙ k;
      sized = length_set nexts n (get_or heads p 0) ∙ j;
      leads = λ q l. by_place q l (nat_eq q p) refl;
      follows = λ m q lo g s. elim (at_or_past n m lo) [ inl e ↦ here m q e g s there | inr past ↦ behind m q past g s ];
    }
  where
    length_set : (xs : List ℕ) (i y : ℕ) → length (set xs i y) ≡ length xs
    length_set [] i y = refl
    length_set (x ∷ xs) zero y = refl
    length_set (x ∷ xs) (suc i) y = ap suc (length_set xs i y)

    apart : (a b : ℕ) → nat_eq a b ≡ false → a ≡ b → ⊥
    apart a b e same = let f = eq-eqb a b same in absurd (cc)

    by_place : (q : ℕ) → q < length order → (b : Bool) → nat_eq q p ≡ b → Leads order rows q n (get_or (set heads p n) q 0)
    by_place q l true e =
        let same : q ≡ p = eqb-true q p e in
        subst (λ (z : ℕ). Leads order rows q n z) (sym (get_or-set_at heads p q n 0 same lt)) (leads_here order rows q n r at (st ∙ sym same))
    by_place q l false e =
        subst (λ (z : ℕ). Leads order rows q n z) (sym (get_or-set_other heads p q n 0 (apart q p e)))
        (leads_past order rows q n (get_or heads q 0) r at (λ t. apart q p e (sym t ∙ st)) (h.leads q l))

    here : (m : ℕ) (q : RowOf) → m ≡ n → row_at rows m ≡ Some q → stand order q.entries < length order → n < length nexts → Leads order rows (stand order q.entries) (m + 1) (get_or (set nexts n (get_or heads p 0)) m 0)
    here m q e g s there =
        let same : row_at rows n ≡ Some q = subst (λ (z : ℕ). row_at rows z ≡ Some q) e g in
        let is : r ≡ q = cc in
        let t : stand order q.entries ≡ p = sym (ap (λ (z : RowOf). stand order z.entries) is) ∙ st in
        let l : p < length order = subst (λ (z : ℕ). z < length order) t s in
        let lead : Leads order rows p (n + 1) (get_or heads p 0) = h.leads p l in
        let at_here : Leads order rows p (m + 1) (get_or heads p 0) = subst (λ (z : ℕ). Leads order rows p (z + 1) (get_or heads p 0)) (sym e) lead in
        subst (λ (z : ℕ). Leads order rows z (m + 1) (get_or (set nexts n (get_or heads p 0)) m 0)) (sym t)
        (subst (λ (z : ℕ). Leads order rows p (m + 1) z) (sym (get_or-set_at nexts n m (get_or heads p 0) 0 e there)) at_here)

    behind : (m : ℕ) (q : RowOf) → n + 1 ≤ m → row_at rows m ≡ Some q → stand order q.entries < length order → Leads order rows (stand order q.entries) (m + 1) (get_or (set nexts n (get_or heads p 0)) m 0)
    behind m q past g s =
        subst (λ (z : ℕ). Leads order rows (stand order q.entries) (m + 1) z) (sym (get_or-set_other nexts n m (get_or heads p 0) 0 (λ e. absurd (omega (arith, e, past)))))
        (h.follows m q past g s)

pub shelved_from : (order : List ℕ) (rows : List RowOf) (s : Shelves) (n : ℕ) → n ≡ 0 → Half order rows s.heads.items s.nexts.items n → IsShelved order rows s
shelved_from order rows s n e h = record {
  placed = h.placed;
  sized = h.sized;
  heads = λ p l. subst (λ (z : ℕ). Leads order rows p z (get_or s.heads.items p 0)) e (h.leads p l);
  nexts = λ m r at k. h.follows m r (omega (arith, e)) at k;
}

get_same : (xs : List ℕ) (i d e : ℕ) → i < length xs → get_or xs i d ≡ get_or xs i e
get_same [] i d e h = absurd (omega arith)
get_same (x ∷ xs) zero d e h = refl
get_same (x ∷ xs) (suc i) d e h = get_same xs i d e (omega arith)

-- the first row on a shelf, and the next one
pub first_lead : (order : List ℕ) (rows : List RowOf) (s : Shelves) (p h : ℕ) → IsShelved order rows s → p < length order → h ≡ get_or s.heads.items p h → Leads order rows p 0 h
first_lead order rows s p h i l e =
    let k = i.placed in
    let lt : p < length s.heads.items = omega (arith, l, k) in
    subst (λ (z : ℕ). Leads order rows p 0 z) (sym (e ∙ get_same s.heads.items p h 0 lt)) (i.heads p l)

pub next_lead : (order : List ℕ) (rows : List RowOf) (s : Shelves) (p n m : ℕ) (r : RowOf) → IsShelved order rows s → p < length order → row_at rows n ≡ Some r → stand order r.entries ≡ p → m ≡ get_or s.nexts.items n m → Leads order rows p (n + 1) m
next_lead order rows s p n m r i l at st e =
    let k = i.sized in
    let below = row_below rows n r at in
    let lt : n < length s.nexts.items = omega (arith, below, k) in
    let there : stand order r.entries < length order = subst (λ (z : ℕ). z < length order) (sym st) l in
    subst (λ (z : ℕ). Leads order rows p (n + 1) z) (sym (e ∙ get_same s.nexts.items n m 0 lt))
    (subst (λ (z : ℕ). Leads order rows z (n + 1) (get_or s.nexts.items n 0)) st (i.nexts n r at there))

-- one turn of the loop that fills the shelves
pub past_turn : (order : List ℕ) (rows : List RowOf) (heads nexts : List ℕ) (n p : ℕ) (r : RowOf) → 0 < n → row_at rows (n - 1) ≡ Some r → p ≡ stand order r.entries → length heads ≤ p → Half order rows heads nexts n → Half order rows heads nexts (n - 1)
past_turn order rows heads nexts n p r l at e off h =
    let back : n ≡ (n - 1) + 1 = omega (arith, l) in
    half_past order rows heads nexts (n - 1) r at (subst (λ (z : ℕ). length heads ≤ z) e off) (subst (Half order rows heads nexts) back h)

pub put_turn : (order : List ℕ) (rows : List RowOf) (heads nexts : List ℕ) (n p h : ℕ) (r : RowOf) → 0 < n → row_at rows (n - 1) ≡ Some r → p ≡ stand order r.entries → p < length heads → h ≡ get_or heads p h → Half order rows heads nexts n → Half order rows (set heads p (n - 1)) (set nexts (n - 1) h) (n - 1)
put_turn order rows heads nexts n p h r l at e lt g half =
    let back : n ≡ (n - 1) + 1 = omega (arith, l) in
    let same : h ≡ get_or heads p 0 = g ∙ get_same heads p h 0 lt in
    subst (λ (z : ℕ). Half order rows (set heads p (n - 1)) (set nexts (n - 1) z) (n - 1)) (sym same)
    (half_put order rows heads nexts (n - 1) p r at (sym e) lt (subst (Half order rows heads nexts) back half))

-- ---- spans

-- no row between those on the shelf bounds the variable
pub span_on : (order : List ℕ) (rows : List RowOf) (v : ℕ → ℤ) (x p from to : ℕ) (span : Span) → place_in order x ≡ p → Leads order rows p from to → IsSpan order rows v x from span → IsSpan order rows v x to span
span_on order rows v x p from to span here l s = record {
  ups = λ m r lt at a.
      elim (either from m) [
        | inl b ↦ s.ups m r b at a
        | inr g ↦ absurd (l.gap m r g lt at (stand_above order x r a ∙ here))
      ];
  lows = λ m r lt at a.
      elim (either from m) [
        | inl b ↦ s.lows m r b at a
        | inr g ↦ absurd (l.gap m r g lt at (stand_below order x r a ∙ here))
      ];
  up = s.up;
  low = s.low;
}

pub span_none : (order : List ℕ) (rows : List RowOf) (v : ℕ → ℤ) (x : ℕ) → IsSpan order rows v x 0 (record { low = None; up = None })
span_none order rows v x = record {
  ups = λ m r lt at a. absurd (omega arith);
  lows = λ m r lt at a. absurd (omega arith);
  up = λ m e. absurd (cc);
  low = λ m e. absurd (cc);
}
