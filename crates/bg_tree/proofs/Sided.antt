-- Rows of one side have no gap.
use Rattle.std.proofs.Common.{◌≡◌, ℕ, zero, suc, ◌==◌, Bool, true, false, List, [], ◌∷◌, ◌++◌, ℤ, pos, negsuc, ◌<ℤ◌, map, cond, refl, subst, nat_eq, arith}
use Rattle.std.specs.Prelude.{Option, Some, None, int_lt}
use Rattle.std.proofs.lemmas.Bool.{and_parts}
use Rattle.std.proofs.lemmas.Int.{ints}
use Rattle.bg_base.specs.Exact.{floor_quotient}
use Rattle.bg_rows.specs.declared.entry.Entry.{Entry}
use Rattle.bg_rows.specs.Entries.{coefficient}
use Rattle.bg_rows.specs.Rows.{RowOf, row_of, gcd_from, divided, tightened, opposite}
use Rattle.bg_rows.specs.Steps.{row_at, tight_of}
use Rattle.bg_elim.specs.declared.order.Reason.{Reason}
use Rattle.bg_elim.specs.declared.order.Reason.TheVariants.{Given, Tightened, Eliminated}
use Rattle.bg_elim.specs.Kept.{none_before, gone_of, reason_row, made_rows}
use Rattle.bg_point.specs.Points.{value_of, bounds_below, keeps_above}
use Rattle.bg_tree.specs.declared.part.Kept.{Kept}
use Rattle.bg_tree.specs.Gaps.{KeepsGap}

abbrev pub IsPos : ℤ → Type 0
IsPos (pos n) = Unit {0}
IsPos (negsuc n) = ⊥

abbrev pub ArePos : List Entry → Type 0
ArePos [] = Unit {0}
ArePos (t ∷ ts) = IsPos t.by × ArePos ts

-- rows that bound nothing from below
abbrev pub AreUp : List RowOf → Type 0
AreUp [] = Unit {0}
AreUp (r ∷ rs) = ArePos r.entries × AreUp rs

pos_coefficient : (x : ℕ) (ts : List Entry) → ArePos ts → IsPos (coefficient x ts)
pos_coefficient x [] h = tt
pos_coefficient x (t ∷ ts) h = by (t.variable == x) (pos_coefficient x ts h.1)
  where
    by : (b : Bool) → IsPos (coefficient x ts) → IsPos (cond b t.by (coefficient x ts))
    by true k = h.0
    by false k = k

pos_quotient : (z : ℤ) (g : ℕ) → IsPos z → IsPos (floor_quotient z g)
pos_quotient (pos n) g h = tt
pos_quotient (negsuc n) g h = absurd h

pos_divided : (g : ℕ) (ts : List Entry) → ArePos ts → ArePos (divided g ts)
pos_divided g [] h = tt
pos_divided g (t ∷ ts) h = (pos_quotient t.by g h.0, pos_divided g ts h.1)

pos_tight : (r : RowOf) → ArePos r.entries → ArePos (tightened r).entries
pos_tight r h = by (nat_eq (gcd_from 0 r.entries) 0)
  where
    by : (b : Bool) → ArePos (cond b r (record { entries = divided (gcd_from 0 r.entries) r.entries; bound = floor_quotient r.bound (gcd_from 0 r.entries) })).entries
    by true = h
    by false = pos_divided (gcd_from 0 r.entries) r.entries h

same_side : (a b : ℤ) → IsPos a → IsPos b → opposite a b ≡ false
same_side (pos a) (pos b) h k = refl
same_side (pos a) (negsuc b) h k = absurd k
same_side (negsuc a) b h k = absurd h

pub up_at : (rs : List RowOf) (n : ℕ) (r : RowOf) → AreUp rs → row_at rs n ≡ Some r → ArePos r.entries
up_at [] n r h e = absurd (let bad : ⊥ = cc in bad)
up_at (q ∷ rs) zero r h e = let is : q ≡ r = cc in subst (λ (z : RowOf). ArePos z.entries) is h.0
up_at (q ∷ rs) (suc n) r h e = up_at rs n r h.1 e

up_snoc : (rs : List RowOf) (r : RowOf) → AreUp rs → ArePos r.entries → AreUp (rs ++ (r ∷ []))
up_snoc [] r h k = (k, tt)
up_snoc (q ∷ rs) r h k = (h.0, up_snoc rs r h.1 k)

tight_up : (o : Option RowOf) (r : RowOf) → ((s : RowOf) → o ≡ Some s → ArePos s.entries) → tight_of o ≡ Some r → ArePos r.entries
tight_up None r h e = absurd (let bad : ⊥ = cc in bad)
tight_up (Some s) r h e = let is : tightened s ≡ r = cc in subst (λ (z : RowOf). ArePos z.entries) is (pos_tight s (h s refl))

none_gone : (order : List ℕ) (x : ℕ) (o p : Option RowOf) (r : RowOf) → ((s : RowOf) → o ≡ Some s → ArePos s.entries) → ((s : RowOf) → p ≡ Some s → ArePos s.entries) → gone_of order x o p ≡ Some r → ⊥
none_gone order x None p r h k e = cc
none_gone order x (Some u) None r h k e = cc
none_gone order x (Some u) (Some l) r h k e =
    let no = same_side (coefficient x u.entries) (coefficient x l.entries) (pos_coefficient x u.entries (h u refl)) (pos_coefficient x l.entries (k l refl)) in
    let f = rw no at e in
    cc

reason_up : (given : List RowOf) (order : List ℕ) (made : List RowOf) (reason : Reason) (r : RowOf) → AreUp given → AreUp made → reason_row given order made reason ≡ Some r → ArePos r.entries
reason_up given order made (Given j) r g m e = up_at given j r g e
reason_up given order made (Tightened i) r g m e = tight_up (row_at made i) r (λ s h. up_at made i s m h) e
reason_up given order made (Eliminated i j x) r g m e =
    absurd (none_gone order x (row_at made i) (row_at made j) r (λ s h. up_at made i s m h) (λ s h. up_at made j s m h) e)

made_up : (given : List RowOf) (order : List ℕ) (made : List RowOf) (reasons : List Reason) (rows : List RowOf) → AreUp given → AreUp made → made_rows given order made reasons ≡ Some rows → AreUp rows
made_up given order made [] rows g m e = let is : made ≡ rows = cc in subst AreUp is m
made_up given order made (r ∷ reasons) rows g m e = by_row (λ q h k. made_up given order (made ++ (q ∷ [])) reasons rows g (up_snoc made q m k) h) (reason_row given order made r) refl e
  where
    by_row : ((q : RowOf) → made_rows given order (made ++ (q ∷ [])) reasons ≡ Some rows → ArePos q.entries → AreUp rows) → (o : Option RowOf) → reason_row given order made r ≡ o → (elim o [ None ↦ None | Some q ↦ made_rows given order (made ++ (q ∷ [])) reasons ]) ≡ Some rows → AreUp rows
    by_row f None a h = absurd (let bad : ⊥ = cc in bad)
    by_row f (Some q) a h = f q h (reason_up given order made r q g m a)

not_below : (z : ℤ) → IsPos z → int_lt z (pos 0) ≡ true → ⊥
not_below (pos n) h e = grind arith
not_below (negsuc n) h e = absurd h

none_below : (order : List ℕ) (v : ℕ → ℤ) (x : ℕ) (k : ℤ) (o : Option RowOf) → ((r : RowOf) → o ≡ Some r → ArePos r.entries) → keeps_above order v x k o ≡ true → ⊥
none_below order v x k None w h = cc
none_below order v x k (Some r) w h =
    let p = and_parts (bounds_below order x r) _ h in
    let q = (and_parts (none_before order x r) (int_lt (coefficient x r.entries) (pos 0)) p.0).1 in
    not_below (coefficient x r.entries) (pos_coefficient x r.entries (w r refl)) q

pub up_no_gap : (targets : ℕ → ℤ) (given : List RowOf) (k : Kept) → AreUp given → KeepsGap targets given k → ⊥
up_no_gap targets given k u g =
    let rows = map row_of k.order.rows.items in
    let all = made_up given k.order.variables.items [] k.order.reasons.items rows u tt g.solved.made in
    none_below k.order.variables.items (value_of k.spots.items) k.gap.variable k.gap.below (row_at rows k.gap.low) (λ r e. up_at rows k.gap.low r all e) g.gap.above

pub not_low : (x : ℕ) (ts : List Entry) → ArePos ts → coefficient x ts <ℤ pos 0 → ⊥
not_low x ts h l = by (coefficient x ts) (pos_coefficient x ts h) l
  where
    by : (z : ℤ) → IsPos z → z <ℤ pos 0 → ⊥
    by (pos n) k m = let bad : ⊥ = grind (arith, ints, m) in bad
    by (negsuc n) k m = absurd k
