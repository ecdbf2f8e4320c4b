-- One more near value.
use Rattle.std.proofs.Common.{◌≡◌, ℕ, zero, suc, ◌<◌, Bool, true, false, not, ◌&&◌, ◌||◌, List, [], ◌∷◌, ◌++◌, length, map, take, drop, get_or, ℤ, pos, ◌+ℤ◌, ◌-ℤ◌, ◌*ℤ◌, ◌≤ℤ◌, ◌<ℤ◌, ◌⊎◌, inl, inr, refl, sym, ap, ◌∙◌, arith, cond, nat_eq, subst}
use Rattle.std.specs.Prelude.{Option, Some, None, Ok, int_lt, int_le}
use Rattle.std.specs.Ordering.{int_eq}
use Rattle.std.proofs.lemmas.Bool.{and_parts, and_from, not-true, or_cases, eqb-true, eq-eqb}
use Rattle.std.proofs.lemmas.Int.{ints}
use Rattle.bg_rows.specs.declared.entry.Entry.{Entry}
use Rattle.bg_rows.specs.Entries.{total, mentions}
use Rattle.bg_rows.specs.Rows.{RowOf, Meets, holds, IsNormal}
use Rattle.bg_rows.specs.Steps.{row_at}
use Rattle.bg_elim.specs.Kept.{is_in, no_twice, none_before}
use Rattle.bg_elim.specs.Work.{free}
use Rattle.bg_elim.proofs.Orders.{in_at}
use Rattle.bg_point.specs.declared.spot.Spot.{Spot}
use Rattle.bg_point.specs.Points.{value_of, with_value, nearer, behind, bounds_above, bounds_below, bounds_toward, keeps_out, is_near, all_near, limit}
use Rattle.bg_point.specs.Spans.{IsNearest, IsSpan, mark_of}
use Rattle.bg_point.specs.declared.span.Span.{Span}
use Rattle.bg_point.proofs.Limits.{limit_above, limit_below}
use Rattle.bg_point.proofs.Marks.{above_is, below_is}

pub funext : {A B : Type 0} (f g : A → B) → ((x : A) → f x ≡ g x) → f ≡ g
funext f g h = λ i x. h x i

-- ---- places in an order

not_there : (y : ℕ) (ys : List ℕ) (j : ℕ) → not (is_in y ys) ≡ true → j < length ys → nat_eq (get_or ys j 0) y ≡ false
not_there y ys j n lt = by_test (nat_eq (get_or ys j 0) y) refl
  where
    by_test : (b : Bool) → nat_eq (get_or ys j 0) y ≡ b → b ≡ false
    by_test true e =
        let same : get_or ys j 0 ≡ y = eqb-true (get_or ys j 0) y e in
        let i : is_in y ys ≡ true = subst (λ (z : ℕ). is_in z ys ≡ true) same (in_at ys j lt) in
        let f = not-true (is_in y ys) n in
        absurd (cc)
    by_test false e = refl

pub behind_drop : (order : List ℕ) (i : ℕ) → no_twice order ≡ true → i < length order → behind (get_or order i 0) order ≡ drop (suc i) order
behind_drop [] i n lt = absurd (omega arith)
behind_drop (y ∷ ys) zero n lt = rw (eq-eqb y y refl) refl
behind_drop (y ∷ ys) (suc i) n lt =
    let p = and_parts (not (is_in y ys)) _ n in
    rw (not_there y ys i p.0 (omega arith)) (behind_drop ys i p.1 (omega arith))

pub before_take : (order : List ℕ) (i : ℕ) (r : RowOf) → no_twice order ≡ true → i < length order → none_before order (get_or order i 0) r ≡ free (take i order) r
before_take [] i r n lt = absurd (omega arith)
before_take (y ∷ ys) zero r n lt = rw (eq-eqb y y refl) refl
before_take (y ∷ ys) (suc i) r n lt =
    let p = and_parts (not (is_in y ys)) _ n in
    rw (not_there y ys i p.0 (omega arith)) (ap (λ z. not (mentions y r.entries) && z) (before_take ys i r p.1 (omega arith)))

-- a variable before another one
pub before_drop : (order : List ℕ) (i y : ℕ) (r : RowOf) → no_twice order ≡ true → i < length order → is_in y (drop (suc i) order) ≡ true → none_before order y r ≡ true → (mentions (get_or order i 0) r.entries ≡ false) × (nat_eq y (get_or order i 0) ≡ false)
before_drop [] i y r n lt h b = absurd (omega arith)
before_drop (z ∷ ys) zero y r n lt h b = by_test (nat_eq y z) refl b
  where
    by_test : (t : Bool) → nat_eq y z ≡ t → cond t true (not (mentions z r.entries) && none_before ys y r) ≡ true → (mentions z r.entries ≡ false) × (t ≡ false)
    by_test true e g =
        let p = and_parts (not (is_in z ys)) _ n in
        let same : y ≡ z = eqb-true y z e in
        let i : is_in z ys ≡ true = subst (λ (q : ℕ). is_in q ys ≡ true) same h in
        let f = not-true (is_in z ys) p.0 in
        absurd (cc)
    by_test false e g = (not-true _ (and_parts (not (mentions z r.entries)) _ g).0, refl)
before_drop (z ∷ ys) (suc i) y r n lt h b = by_test (λ g. before_drop ys i y r (and_parts (not (is_in z ys)) _ n).1 (omega arith) h g) (nat_eq y z) refl b
  where
    in_drop : (ys : List ℕ) (i : ℕ) → is_in y (drop i ys) ≡ true → is_in y ys ≡ true
    in_drop [] zero h = h
    in_drop [] (suc i) h = h
    in_drop (q ∷ ys) zero h = h
    in_drop (q ∷ ys) (suc i) h = or_on (nat_eq y q) (in_drop ys i h)
      where
        or_on : (t : Bool) → is_in y ys ≡ true → (t || is_in y ys) ≡ true
        or_on true g = refl
        or_on false g = g

    by_test : (none_before ys y r ≡ true → (mentions (get_or ys i 0) r.entries ≡ false) × (nat_eq y (get_or ys i 0) ≡ false)) → (t : Bool) → nat_eq y z ≡ t → cond t true (not (mentions z r.entries) && none_before ys y r) ≡ true → (mentions (get_or ys i 0) r.entries ≡ false) × (nat_eq y (get_or ys i 0) ≡ false)
    by_test f true e g =
        let p = and_parts (not (is_in z ys)) _ n in
        let same : y ≡ z = eqb-true y z e in
        let j : is_in z ys ≡ true = subst (λ (q : ℕ). is_in q ys ≡ true) same (in_drop ys (suc i) h) in
        let k = not-true (is_in z ys) p.0 in
        absurd (cc)
    by_test f false e g = f (and_parts (not (mentions z r.entries)) _ g).1

-- ---- values and rows

-- a row without x has the same sum at another value of x
pub total_off : (v : ℕ → ℤ) (x : ℕ) (z : ℤ) (ts : List Entry) → mentions x ts ≡ false → total (with_value v x z) ts ≡ total v ts
total_off v x z [] h = refl
total_off v x z (t ∷ ts) h = by_test (total_off v x z ts) (nat_eq t.variable x) h
  where
    by_test : (mentions x ts ≡ false → total (with_value v x z) ts ≡ total v ts) → (b : Bool) → (b || mentions x ts) ≡ false → (t.by *ℤ cond b z (v t.variable)) +ℤ total (with_value v x z) ts ≡ (t.by *ℤ v t.variable) +ℤ total v ts
    by_test f true g = absurd (cc)
    by_test f false g = ap (λ s. (t.by *ℤ v t.variable) +ℤ s) (f g)

pub holds_is : (v : ℕ → ℤ) (r : RowOf) → Meets v r → holds v r ≡ true
holds_is v r h = grind (arith, ints, h)

pub holds_not : (v : ℕ → ℤ) (r : RowOf) → (Meets v r → ⊥) → holds v r ≡ false
holds_not v r n = by_test (holds v r) refl
  where
    by_test : (b : Bool) → holds v r ≡ b → b ≡ false
    by_test true e = let m : Meets v r = grind (arith, ints, e) in absurd (n m)
    by_test false e = refl

-- two changes at different variables
pub changes_turn : (v : ℕ → ℤ) (x y : ℕ) (z w : ℤ) → nat_eq y x ≡ false → with_value (with_value v x z) y w ≡ with_value (with_value v y w) x z
changes_turn v x y z w n = funext _ _ (λ q. by_test q (nat_eq q y) refl (nat_eq q x) refl)
  where
    by_test : (q : ℕ) (a : Bool) → nat_eq q y ≡ a → (b : Bool) → nat_eq q x ≡ b → cond a w (cond b z (v q)) ≡ cond b z (cond a w (v q))
    by_test q true e true f =
        let s : q ≡ y = eqb-true q y e in
        let t : q ≡ x = eqb-true q x f in
        let u : nat_eq y x ≡ true = eq-eqb y x (sym s ∙ t) in
        absurd (cc)
    by_test q true e false f = refl
    by_test q false e true f = refl
    by_test q false e false f = refl

pub change_again : (v : ℕ → ℤ) (x : ℕ) (z w : ℤ) → with_value (with_value v x z) x w ≡ with_value v x w
change_again v x z w = funext _ _ (λ q. by_test q (nat_eq q x))
  where
    by_test : (q : ℕ) (b : Bool) → cond b w (cond b z (v q)) ≡ cond b w (v q)
    by_test q true = refl
    by_test q false = refl

pub change_here : (v : ℕ → ℤ) (x : ℕ) (z : ℤ) → with_value v x z x ≡ z
change_here v x z = rw (eq-eqb x x refl) refl

pub change_there : (v : ℕ → ℤ) (x y : ℕ) (z : ℤ) → nat_eq y x ≡ false → with_value v x z y ≡ v y
change_there v x y z h = rw h refl

-- one more spot
pub value_last : (spots : List Spot) (s : Spot) → is_in s.variable (map (λ s. s.variable) spots) ≡ false → value_of (spots ++ (s ∷ [])) ≡ with_value (value_of spots) s.variable s.value
value_last spots s n = funext _ _ (λ q. at_each spots n q)
  where
    none_of_two : (a b : Bool) → (a || b) ≡ false → (a ≡ false) × (b ≡ false)
    none_of_two true b h = absurd (cc)
    none_of_two false b h = (refl, h)

    by_test : (q : ℕ) (t : Spot) (ts : List Spot) → nat_eq s.variable t.variable ≡ false → value_of (ts ++ (s ∷ [])) q ≡ cond (nat_eq q s.variable) s.value (value_of ts q) → (a : Bool) → nat_eq q t.variable ≡ a → (b : Bool) → nat_eq q s.variable ≡ b → cond a t.value (value_of (ts ++ (s ∷ [])) q) ≡ cond b s.value (cond a t.value (value_of ts q))
    by_test q t ts m h true e true f =
        let u : nat_eq s.variable t.variable ≡ true = eq-eqb s.variable t.variable (sym (eqb-true q s.variable f) ∙ eqb-true q t.variable e) in
        absurd (cc)
    by_test q t ts m h true e false f = refl
    by_test q t ts m h false e b f = h ∙ ap (λ (z : Bool). cond z s.value (value_of ts q)) f

    at_each : (ts : List Spot) → is_in s.variable (map (λ s. s.variable) ts) ≡ false → (q : ℕ) → value_of (ts ++ (s ∷ [])) q ≡ cond (nat_eq q s.variable) s.value (value_of ts q)
    at_each [] m q = refl
    at_each (t ∷ ts) m q = let p = none_of_two (nat_eq s.variable t.variable) _ m in by_test q t ts p.0 (at_each ts p.1 q) (nat_eq q t.variable) refl (nat_eq q s.variable) refl

pub apart_drop : (order : List ℕ) (i y : ℕ) → no_twice order ≡ true → i < length order → is_in y (drop (suc i) order) ≡ true → nat_eq y (get_or order i 0) ≡ false
apart_drop [] i y n lt h = absurd (omega arith)
apart_drop (z ∷ ys) zero y n lt h = by_test (nat_eq y z) refl
  where
    by_test : (t : Bool) → nat_eq y z ≡ t → t ≡ false
    by_test true e =
        let p = and_parts (not (is_in z ys)) _ n in
        let same : y ≡ z = eqb-true y z e in
        let i : is_in z ys ≡ true = subst (λ (q : ℕ). is_in q ys ≡ true) same h in
        let f = not-true (is_in z ys) p.0 in
        absurd (cc)
    by_test false e = refl
apart_drop (z ∷ ys) (suc i) y n lt h = apart_drop ys i y (and_parts (not (is_in z ys)) _ n).1 (omega arith) h

-- ---- near values stay near

toward_before : (order : List ℕ) (y : ℕ) (t w : ℤ) (r : RowOf) → bounds_toward order y t w r ≡ true → none_before order y r ≡ true
toward_before order y t w r h = by_side (int_lt t w) h
  where
    by_side : (b : Bool) → cond b (bounds_below order y r) (bounds_above order y r) ≡ true → none_before order y r ≡ true
    by_side true g = (and_parts (none_before order y r) _ g).0
    by_side false g = (and_parts (none_before order y r) _ g).0

holds_off : (v : ℕ → ℤ) (x y : ℕ) (z w : ℤ) (r : RowOf) → nat_eq y x ≡ false → mentions x r.entries ≡ false → holds (with_value (with_value v x z) y w) r ≡ holds (with_value v y w) r
holds_off v x y z w r n m =
    ap (λ (f : ℕ → ℤ). holds f r) (changes_turn v x y z w n) ∙ ap (λ t. int_le t r.bound) (total_off (with_value v y w) x z r.entries m)

keeps_same : (targets : ℕ → ℤ) (order : List ℕ) (v : ℕ → ℤ) (i y : ℕ) (z : ℤ) (o : Option RowOf) → no_twice order ≡ true → i < length order → is_in y (drop (suc i) order) ≡ true → keeps_out targets order v y o ≡ true → keeps_out targets order (with_value v (get_or order i 0) z) y o ≡ true
keeps_same targets order v i y z None n lt h k = absurd (cc)
keeps_same targets order v i y z (Some r) n lt h k =
    let x = get_or order i 0 in
    let p = and_parts (bounds_toward order y (targets y) (v y) r) _ k in
    let b = before_drop order i y r n lt h (toward_before order y (targets y) (v y) r p.0) in
    let e : with_value v x z y ≡ v y = change_there v x y z b.1 in
    let f : holds (with_value (with_value v x z) y (nearer (targets y) (v y))) r ≡ holds (with_value v y (nearer (targets y) (v y))) r = holds_off v x y z (nearer (targets y) (v y)) r b.1 b.0 in
    subst (λ (w : ℤ). (bounds_toward order y (targets y) w r && not (holds (with_value (with_value v x z) y (nearer (targets y) w)) r)) ≡ true) (sym e)
    (and_from (bounds_toward order y (targets y) (v y) r) _ p.0 (ap not f ∙ p.1))

or_right : (a b : Bool) → b ≡ true → (a || b) ≡ true
or_right true b g = refl
or_right false b g = g

near_same : (targets : ℕ → ℤ) (order : List ℕ) (rows : List RowOf) (v : ℕ → ℤ) (i y : ℕ) (z : ℤ) (reason : ℕ) → no_twice order ≡ true → i < length order → is_in y (drop (suc i) order) ≡ true → is_near targets order rows v y reason ≡ true → is_near targets order rows (with_value v (get_or order i 0) z) y reason ≡ true
near_same targets order rows v i y z reason n lt h k = by_case (or_cases (int_eq (v y) (targets y)) (keeps_out targets order v y (row_at rows reason)) k)
  where
    by_case : (int_eq (v y) (targets y) ≡ true) ⊎ (keeps_out targets order v y (row_at rows reason) ≡ true) → is_near targets order rows (with_value v (get_or order i 0) z) y reason ≡ true
    by_case (inl g) =
        let e : int_eq (with_value v (get_or order i 0) z y) (targets y) ≡ true = ap (λ (w : ℤ). int_eq w (targets y)) (change_there v (get_or order i 0) y z (apart_drop order i y n lt h)) ∙ g in
        rw e refl
    by_case (inr g) = or_right (int_eq (with_value v (get_or order i 0) z y) (targets y)) _ (keeps_same targets order v i y z (row_at rows reason) n lt h g)

-- each spot's variable stands behind
abbrev pub AllBehind : List ℕ → List Spot → Type 0
AllBehind ys [] = Unit {0}
AllBehind ys (s ∷ ss) = (is_in s.variable ys ≡ true) × AllBehind ys ss

pub all_near_same : (targets : ℕ → ℤ) (order : List ℕ) (rows : List RowOf) (v : ℕ → ℤ) (i : ℕ) (z : ℤ) (ss : List Spot) → no_twice order ≡ true → i < length order → AllBehind (drop (suc i) order) ss → all_near targets order rows v ss ≡ true → all_near targets order rows (with_value v (get_or order i 0) z) ss ≡ true
all_near_same targets order rows v i z [] n lt b k = refl
all_near_same targets order rows v i z (s ∷ ss) n lt b k =
    let p = and_parts (is_near targets order rows v s.variable s.reason) _ k in
    and_from (is_near targets order rows (with_value v (get_or order i 0) z) s.variable s.reason) _ (near_same targets order rows v i s.variable z s.reason n lt b.0 p.0) (all_near_same targets order rows v i z ss n lt b.1 p.1)

pub all_near_last : (targets : ℕ → ℤ) (order : List ℕ) (rows : List RowOf) (v : ℕ → ℤ) (ss : List Spot) (s : Spot) → all_near targets order rows v ss ≡ true → is_near targets order rows v s.variable s.reason ≡ true → all_near targets order rows v (ss ++ (s ∷ [])) ≡ true
all_near_last targets order rows v [] s h k = and_from (is_near targets order rows v s.variable s.reason) true k refl
all_near_last targets order rows v (t ∷ ss) s h k =
    let p = and_parts (is_near targets order rows v t.variable t.reason) _ h in
    and_from (is_near targets order rows v t.variable t.reason) _ p.0 (all_near_last targets order rows v ss s p.1 k)

-- ---- the new value is near

less_not : (z w : ℤ) → w <ℤ z → z ≤ℤ w → ⊥
less_not z w h k = omega (arith, ints, h, k)

near_below : (targets : ℕ → ℤ) (order : List ℕ) (rows : List RowOf) (v : ℕ → ℤ) (x : ℕ) (z : ℤ) (reason : ℕ) (r : RowOf) → IsNormal r → row_at rows reason ≡ Some r → bounds_below order x r ≡ true → limit v x r ≡ Ok z → targets x <ℤ z → is_near targets order rows (with_value v x z) x reason ≡ true
near_below targets order rows v x z reason r nr at b l lt =
    let w = z -ℤ pos 1 in
    let no : Meets (with_value v x w) r → ⊥ = λ m. less_not z w (omega (arith, ints)) ((limit_below v x r z w nr (below_is order x r b) l).0 m) in
    let f : holds (with_value (with_value v x z) x w) r ≡ false = ap (λ (g : ℕ → ℤ). holds g r) (change_again v x z w) ∙ holds_not (with_value v x w) r no in
    let s : int_lt (targets x) z ≡ true = grind (arith, ints, lt) in
    let k : keeps_out targets order (with_value v x z) x (Some r) ≡ true =
    subst (λ (u : ℤ). (bounds_toward order x (targets x) u r && not (holds (with_value (with_value v x z) x (nearer (targets x) u)) r)) ≡ true) (sym (change_here v x z))
    (rw s (and_from (bounds_below order x r) _ b (ap not f))) in
    rw at (or_right (int_eq (with_value v x z x) (targets x)) _ k)

near_above : (targets : ℕ → ℤ) (order : List ℕ) (rows : List RowOf) (v : ℕ → ℤ) (x : ℕ) (z : ℤ) (reason : ℕ) (r : RowOf) → IsNormal r → row_at rows reason ≡ Some r → bounds_above order x r ≡ true → limit v x r ≡ Ok z → z <ℤ targets x → is_near targets order rows (with_value v x z) x reason ≡ true
near_above targets order rows v x z reason r nr at b l lt =
    let w = z +ℤ pos 1 in
    let no : Meets (with_value v x w) r → ⊥ = λ m. less_not w z (omega (arith, ints)) ((limit_above v x r z w nr (above_is order x r b) l).0 m) in
    let f : holds (with_value (with_value v x z) x w) r ≡ false = ap (λ (g : ℕ → ℤ). holds g r) (change_again v x z w) ∙ holds_not (with_value v x w) r no in
    let s : int_lt (targets x) z ≡ false = grind (arith, ints, lt) in
    let t : int_lt z (targets x) ≡ true = grind (arith, ints, lt) in
    let k : keeps_out targets order (with_value v x z) x (Some r) ≡ true =
    subst (λ (u : ℤ). (bounds_toward order x (targets x) u r && not (holds (with_value (with_value v x z) x (nearer (targets x) u)) r)) ≡ true) (sym (change_here v x z))
    (rw (s, t) (and_from (bounds_above order x r) _ b (ap not f))) in
    rw at (or_right (int_eq (with_value v x z x) (targets x)) _ k)

pub near_new : (targets : ℕ → ℤ) (order : List ℕ) (rows : List RowOf) (v : ℕ → ℤ) (x n : ℕ) (span : Span) (z : ℤ) (reason : ℕ) → ((m : ℕ) (r : RowOf) → row_at rows m ≡ Some r → IsNormal r) → IsSpan order rows v x n span → IsNearest (targets x) span z reason → is_near targets order rows (with_value v x z) x reason ≡ true
near_new targets order rows v x n span z reason normal s (inl e) =
    let f : int_eq (with_value v x z x) (targets x) ≡ true = ap (λ (w : ℤ). int_eq w (targets x)) (change_here v x z ∙ e) ∙ same_is (targets x) in
    rw f refl
  where
    same_is : (t : ℤ) → int_eq t t ≡ true
    same_is t = grind (arith, ints)
near_new targets order rows v x n span z reason normal s (inr (inl k)) =
    let q = s.low (mark_of z reason) k.1 in
    near_below targets order rows v x z reason q.0 (normal reason q.0 q.1) q.1 q.2 q.3 k.0
near_new targets order rows v x n span z reason normal s (inr (inr k)) =
    let q = s.up (mark_of z reason) k.1 in
    near_above targets order rows v x z reason q.0 (normal reason q.0 q.1) q.1 q.2 q.3 k.0
