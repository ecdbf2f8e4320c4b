-- Each step of the counter keeps the rule.
use Rattle.std.proofs.Common.{◌≡◌, ℕ, zero, suc, ◌+◌, ◌%◌, ◌^◌, ◌<◌, ◌≤◌, ◌≢◌, ◌⊎◌, min, Bool, true, false, eqb, ◌||◌, List, [], ◌∷◌, ◌++◌, get_or, set, sym, refl, ap, ◌∙◌, subst, inl, inr, ⊎_elim, arith, true≢false, mod-eq_of_lt, lt_of_not-le, if◌then◌else◌}
use borrow.Author.Tests.{lt-ltb, le-ltb}
use mathlib.Core.Logic.{dite}
use mathlib.Core.Option.{some, some-injective, some-ne-none}
use native.Mathlib.Decide.{dec_le, ℕ_discrete}
use lib.ListN.{get_elem?}
use Rattle.bg_base.specs.Totals.{total, weight, times, once_below}
use Rattle.bg_base.proofs.Totals.{total-set, total-snoc, total-append, total-member, total-alone, total-two, total-le, weight-other, below-one, below-none, below-most}
use Rattle.atomic_table.specs.Table.{State, Me, Step, step, keeps, stepped, opening, Allows, Splits, Joins}
use Rattle.atomic_table.proofs.Lists.{at_set, at_snoc, set_again}
use Rattle.bg_claims.specs.declared.view.ClaimView.{ClaimView}
use Rattle.bg_claims.specs.Claims.{newcomer, spent, Fits, Given, Kept, after, Claims, Told, Looks, without_part, one_part, joined}

abbrev St : Type 0
St = State (Unit {0}) ClaimView

abbrev Seated : Type 0
Seated = Me (Unit {0}) ClaimView

fits_new : (n k c parts : ℕ) → Fits n k c (newcomer n k parts)
fits_new n k c parts = record { limit = λ _. refl; seats = λ _. refl; idle = λ _. refl; stops = omega arith; going = λ _. refl; ended = λ e. absurd (true≢false (sym e)) }

pub opens : (n k : ℕ) → Given n k 0 (newcomer n k k ∷ [])
opens n k = record {
  parts = omega arith;
  numbers = λ x. sym (below-none x (min 0 n) (omega arith));
  counted = omega arith;
  each = λ i v e. open_at i v e;
} where
  open_at : (i : ℕ) (v : ClaimView) → get_elem? (newcomer n k k ∷ []) i ≡ some v → Fits n k 0 v
  open_at zero v e = subst (Fits n k 0) (some-injective (newcomer n k k) v e) (fits_new n k 0 k)
  open_at (suc i) v e = absurd (some-ne-none v (sym e))

-- the sum of the stops is at most the number of seats
stops_few : (n k c : ℕ) (views : List ClaimView) → Given n k c views → total (λ v. v.stops) views ≤ k
stops_few n k c views g = subst (λ (z : ℕ). total (λ v. v.stops) views ≤ z) g.parts (total-le (λ v. v.stops) (λ v. v.parts) views (λ i v e. (g.each i v e).stops))

-- a seat with a number stops only later
later : (n k c d : ℕ) (v : ClaimView) → c ≤ d → Fits n k c v → Fits n k d v
later n k c d v up f = record { limit = f.limit; seats = f.seats; idle = f.idle; stops = f.stops; going = f.going; ended = λ e. let r = f.ended e in omega arith }

-- what a seat has is below the counter
seen_below : (n k c : ℕ) (views : List ClaimView) → Given n k c views → (i : ℕ) (v : ClaimView) → get_elem? views i ≡ some v → (x : ℕ) → 1 ≤ times x v.numbers → (x < c) × (x < n)
seen_below n k c views g i v at x has = dite (dec_le (min c n) x)
    (λ far. let a = total-member (λ w. times x w.numbers) views i v at in let b = g.numbers x in let d = below-none x (min c n) far in absurd (omega arith))
    (λ near. let lt : x < min c n = lt_of_not-le near in (omega arith, omega arith))

module _ (n k c : ℕ) (views : List ClaimView) (g : Given n k c views) (i : ℕ) (v : ClaimView) (at : get_elem? views i ≡ some v) (going : v.ended ≡ false) (has : 0 < v.parts) where
  abbrev took : ClaimView
  took = record { limit = v.limit; seats = v.seats; parts = v.parts; stops = v.stops; ended = v.ended; numbers = v.numbers ++ c ∷ [] }

  abbrev stopped : ClaimView
  stopped = record { limit = v.limit; seats = v.seats; parts = v.parts; stops = suc v.stops; ended = true; numbers = v.numbers }

  takes : c < n → Given n k (c + 1) (set views i took)
  takes lt = let f = g.each i v at in record {
    parts = let s = total-set (λ w. w.parts) views i v took at in let p = g.parts in omega arith;
    numbers = λ x. let s = total-set (λ w. times x w.numbers) views i v took at in let p = g.numbers x in let t = total-snoc (λ y. weight (eqb y x)) v.numbers c in
        dite (ℕ_discrete c x)
        (λ same. let one : weight (eqb c x) ≡ 1 = ap weight (let e : eqb c x ≡ true = grind arith in e) in
        let a = below-one x (min (c + 1) n) (omega arith) in let b = below-none x (min c n) (omega arith) in omega arith)
        (λ other. let none_here = weight-other c x other in
        dite (dec_le (min c n) x)
        (λ far. let a = below-none x (min (c + 1) n) (omega arith) in let b = below-none x (min c n) far in omega arith)
        (λ near. let lt' : x < min c n = lt_of_not-le near in let a = below-one x (min (c + 1) n) (omega arith) in let b = below-one x (min c n) lt' in omega arith));
    counted = let s = total-set (λ w. w.stops) views i v took at in let p = g.counted in omega arith;
    each = λ j w e. ⊎_elim
        (λ (t : (j ≡ i) × (took ≡ w)). subst (Fits n k (c + 1)) t.1 record { limit = f.limit; seats = f.seats; idle = λ z. absurd (omega arith); stops = f.stops; going = f.going; ended = λ e'. absurd (true≢false (sym e' ∙ going)) })
        (λ (t : (j ≢ i) × (get_elem? views j ≡ some w)). later n k c (c + 1) w (omega arith) (g.each j w t.1))
        (at_set views i j took w e);
  }

  stops : n ≤ c → Given n k (c + 1) (set views i stopped)
  stops ge = let f = g.each i v at in record {
    parts = let s = total-set (λ w. w.parts) views i v stopped at in let p = g.parts in omega arith;
    numbers = λ x. let s = total-set (λ w. times x w.numbers) views i v stopped at in let p = g.numbers x in
        let same : min (c + 1) n ≡ min c n = omega arith in let q : once_below x (min (c + 1) n) ≡ once_below x (min c n) = ap (once_below x) same in omega arith;
    counted = let s = total-set (λ w. w.stops) views i v stopped at in let p = g.counted in omega arith;
    each = λ j w e. ⊎_elim
        (λ (t : (j ≡ i) × (stopped ≡ w)). subst (Fits n k (c + 1)) t.1 record { limit = f.limit; seats = f.seats; idle = f.idle; stops = let z = f.going going in omega arith; going = λ e'. absurd (true≢false e'); ended = λ _. omega arith })
        (λ (t : (j ≢ i) × (get_elem? views j ≡ some w)). later n k c (c + 1) w (omega arith) (g.each j w t.1))
        (at_set views i j stopped w e);
  }

  counts : Given n k (c + 1) (set views i (after v c))
  counts = let lim = (g.each i v at).limit has in dite (dec_le n c)
      (λ ge. let is : after v c ≡ stopped = ap (λ (b : Bool). if b then took else stopped) (le-ltb c v.limit (omega arith)) in subst (λ (w : ClaimView). Given n k (c + 1) (set views i w)) (sym is) (stops ge))
      (λ not. let lt : c < n = lt_of_not-le not in let is : after v c ≡ took = ap (λ (b : Bool). if b then took else stopped) (lt-ltb c v.limit (omega arith)) in subst (λ (w : ClaimView). Given n k (c + 1) (set views i w)) (sym is) (takes lt))

-- a step on the counter
pub claims : (n k slots id : ℕ) (me : Seated) (st : Step (Unit {0})) → n < 2 ^ 32 → k < 2 ^ 32 → me.0.ended ≡ false → 0 < me.0.parts
    → Allows (Kept n k) slots id me 0 (λ m. (m + 1) % 2 ^ 64) (Claims st me)
claims n k slots id me st small few going has s h _ at _ = let c : ℕ = h.0 in let g = h.2 in let few' = stops_few n k c s.views g in let up = g.counted in
    let found : get_or s.words 0 0 ≡ c = ap (λ (ws : List ℕ). get_or ws 0 0) h.1 in
    let wraps_not : (c + 1) % 2 ^ 64 ≡ c + 1 = mod-eq_of_lt (omega arith) in
    let F : ℕ → Type 0 = λ m. (w : ClaimView) × (a : Rattle.atomic_table.specs.Table.Act (Unit {0})) × Rattle.atomic_table.specs.Table.Valid s.homes me.1 a × Kept n k (stepped s 0 ((m + 1) % 2 ^ 64) id me.1 w a) × Claims st me m (w, Rattle.atomic_table.specs.Table.carried_after me.1 a) in
    subst F (sym found) (
      after me.0 c,
      keeps,
      tt,
      (c + 1, ap (λ (ws : List ℕ). set ws 0 ((c + 1) % 2 ^ 64)) h.1 ∙ ap (λ (m : ℕ). m ∷ []) wraps_not, counts n k c s.views g id me.0 at going has),
      (refl, λ x one. (seen_below n k c s.views g id me.0 at x one).0),
    )

told : (n k c : ℕ) (views : List ClaimView) → Given n k c views → (i : ℕ) (v : ClaimView) → get_elem? views i ≡ some v → 0 < v.parts → Told v
told n k c views g i v at has = let f = g.each i v at in let lim = f.limit has in let chairs = f.seats has in record {
  once = λ x. let a = total-member (λ w. times x w.numbers) views i v at in let b = g.numbers x in let d = below-most x (min c n) in omega arith;
  below = λ x one. let b = (seen_below n k c views g i v at x one).1 in omega arith;
  whole = λ all stop x. let up = f.ended stop in
      let alone = total-alone (λ w. times x w.numbers) views i v at (λ j w other at'.
      let two = total-two (λ u. u.parts) views i j v w at at' (λ e. other (sym e)) in let p = g.parts in
      let none_has = (g.each j w at').idle (omega arith) in ap (λ ys. times x ys) none_has) in
      let b = g.numbers x in let m : min c n ≡ v.limit = omega arith in let q : once_below x (min c n) ≡ once_below x v.limit = ap (once_below x) m in omega arith;
}

-- a look at the counter
pub looks : (n k slots id : ℕ) (me : Seated) (st : Step (Unit {0})) → 0 < me.0.parts → Allows (Kept n k) slots id me 0 (λ m. m) (Looks st me)
looks n k slots id me st has s h _ at _ = let g = h.2 in (
  me.0,
  keeps,
  tt,
  (h.0, ap (λ (ws : List ℕ). set ws 0 (get_or ws 0 0)) h.1, subst (Given n k h.0) (sym (set_again s.views id me.0 at)) g),
  (refl, told n k h.0 s.views g id me.0 at has),
)

-- a seat is cut off
pub splits : (n k id : ℕ) (v : ClaimView) → 1 < v.parts → v.stops ≡ 0 → Splits (Kept n k) id v (without_part v) (one_part v)
splits n k id v two fresh s h at = let g = h.2 in let c : ℕ = h.0 in let f = g.each id v at in let views : List ClaimView = s.views in
    let l : ClaimView = without_part v in let r : ClaimView = one_part v in
    let lim = f.limit (omega arith) in let chairs = f.seats (omega arith) in (
      c,
      h.1,
      record {
        parts = let a = total-set (λ w. w.parts) views id v l at in let b = total-snoc (λ w. w.parts) (set views id l) r in let p = g.parts in omega arith;
        numbers = λ x. let a = total-set (λ w. times x w.numbers) views id v l at in let b = total-snoc (λ w. times x w.numbers) (set views id l) r in let p = g.numbers x in omega arith;
        counted = let a = total-set (λ w. w.stops) views id v l at in let b = total-snoc (λ w. w.stops) (set views id l) r in let p = g.counted in omega arith;
        each = λ j w e. ⊎_elim
            (λ (old : get_elem? (set views id l) j ≡ some w). ⊎_elim
            (λ (t : (j ≡ id) × (l ≡ w)). subst (Fits n k c) t.1 record { limit = λ _. lim; seats = λ _. chairs; idle = λ z. absurd (omega arith); stops = omega arith; going = f.going; ended = f.ended })
            (λ (t : (j ≢ id) × (get_elem? views j ≡ some w)). g.each j w t.1)
            (at_set views id j l w old))
            (λ (new : r ≡ w). subst (Fits n k c) new record { limit = λ _. lim; seats = λ _. chairs; idle = λ _. refl; stops = omega arith; going = λ _. refl; ended = λ e'. absurd (true≢false (sym e')) })
            (at_snoc (set views id l) r w j e);
      },
    )

either_way : (a b : Bool) → a || b ≡ true → (a ≡ true) ⊎ (b ≡ true)
either_way true b e = inl refl
either_way false b e = inr e

neither : (a b : Bool) → a || b ≡ false → (a ≡ false) × (b ≡ false)
neither true b e = absurd (true≢false e)
neither false b e = (refl, e)

-- a seat is joined
pub joins : (n k id other : ℕ) (v w : ClaimView) → 0 < v.parts → Joins (Kept n k) id v other w (joined v w) spent
joins n k id other v w has s h at apart there = let g = h.2 in let c : ℕ = h.0 in let views : List ClaimView = s.views in let b : ClaimView = joined v w in
    let was : get_elem? views other ≡ some w = ⊎_elim (λ (t : (other ≡ id) × (b ≡ w)). absurd (apart t.0)) (λ (t : (other ≢ id) × (get_elem? views other ≡ some w)). t.1) (at_set views id other b w there) in
    let f = g.each id v at in let f' = g.each other w was in
    let lim = f.limit has in let chairs = f.seats has in (
      c,
      h.1,
      record {
        parts = let x = total-set (λ u. u.parts) views id v b at in let y = total-set (λ u. u.parts) (set views id b) other w spent there in let p = g.parts in omega arith;
        numbers = λ m. let x = total-set (λ u. times m u.numbers) views id v b at in let y = total-set (λ u. times m u.numbers) (set views id b) other w spent there in
            let z = total-append (λ y. weight (eqb y m)) v.numbers w.numbers in let p = g.numbers m in omega arith;
        counted = let x = total-set (λ u. u.stops) views id v b at in let y = total-set (λ u. u.stops) (set views id b) other w spent there in let p = g.counted in omega arith;
        each = λ j u e. ⊎_elim
            (λ (t : (j ≡ other) × (spent ≡ u)). subst (Fits n k c) t.1 record { limit = λ z. absurd (omega arith); seats = λ z. absurd (omega arith); idle = λ _. refl; stops = omega arith; going = λ _. refl; ended = λ e'. absurd (true≢false (sym e')) })
            (λ (t : (j ≢ other) × (get_elem? (set views id b) j ≡ some u)). ⊎_elim
            (λ (q : (j ≡ id) × (b ≡ u)). subst (Fits n k c) q.1 record {
              limit = λ _. lim;
              seats = λ _. chairs;
              idle = λ z. absurd (omega arith);
              stops = let x = f.stops in let y = f'.stops in omega arith;
              going = λ e'. let m = neither v.ended w.ended e' in let x = f.going m.0 in let y = f'.going m.1 in omega arith;
              ended = λ e'. ⊎_elim f.ended f'.ended (either_way v.ended w.ended e');
            })
            (λ (q : (j ≢ id) × (get_elem? views j ≡ some u)). g.each j u q.1)
            (at_set views id j b u t.1))
            (at_set (set views id b) other j spent u e);
      },
    )
