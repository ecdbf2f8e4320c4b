-- What pairing two kept rows does.
use Rattle.std.proofs.Common.{◌≡◌, ℕ, suc, ◌<◌, Bool, true, false, List, [], ◌∷◌, ◌++◌, length, ℤ, pos, negsuc, ◌/◌, ◌<ℤ◌, ◌⊎◌, inl, inr, refl, sym, ap, ◌∙◌, arith, subst, nat_eq, get_or, ◌+◌, ◌≤◌, ◌||◌, below_more}
use Rattle.std.specs.Prelude.{Some, Result, Ok, Err, unsigned_abs}
use Rattle.std.proofs.lemmas.Bool.{and_from, or_cases, eqb-true, lt-ltb}
use Rattle.std.proofs.lemmas.Int.{ints}
use Rattle.bg_base.specs.declared.exact.OutOfRange.{OutOfRange}
use Rattle.bg_base.specs.Exact.{gcd_of}
use Rattle.bg_rows.specs.Entries.{mentions, coefficient}
use Rattle.bg_rows.specs.declared.row.Row.{Row}
use Rattle.bg_rows.specs.declared.refused.Refused.{Refused}
use Rattle.bg_elim.specs.declared.work.Taken.{Taken}
use Rattle.bg_elim.specs.declared.work.Taken.TheVariants.{Done, False}
use Rattle.bg_elim.specs.declared.work.Paired.{Paired}
use Rattle.bg_elim.specs.declared.work.Paired.TheVariants.{Ready}
use Rattle.bg_elim.specs.declared.work.Round.{Round}
use Rattle.bg_elim.specs.declared.work.Round.TheVariants.{Whole}
use Rattle.bg_elim.specs.Work.{IsTaken, IsPaired, IsRound, Extends, GetsReady}
use Rattle.bg_rows.specs.Rows.{row_of, Told, RowOf, IsNormal, is_false, eliminated, multiplier, opposite}
use Rattle.bg_rows.specs.Steps.{row_at, ok_of}
use Rattle.bg_rows.proofs.Meaning.{first_of_two}
use Rattle.bg_rows.proofs.Normal.{still, gone}
use Rattle.bg_elim.specs.declared.order.Reason.TheVariants.{Eliminated}
use Rattle.bg_elim.specs.Kept.{is_in, none_before, may_eliminate, reason_row, entries_in, leaves_at}
use Rattle.bg_elim.specs.Work.{WorkOf, free, Placed, Grows, IsPair, PairReady, StaysPlaced, MakesFalse}
use Rattle.bg_elim.proofs.Orders.{is_in_last, free_none, free_from, before_last}
use Rattle.bg_elim.proofs.Rounds.{pair_met, pair_grows, grows_on, entries_none, entries_from}

eliminated_still : (y : ℕ) (r s t : RowOf) (x : ℕ) → IsNormal r → IsNormal s → eliminated r s x ≡ Ok t → mentions y r.entries ≡ false → mentions y s.entries ≡ false → mentions y t.entries ≡ false
eliminated_still y r s t x n m h a b =
    let i = unsigned_abs (coefficient x r.entries) in
    let j = unsigned_abs (coefficient x s.entries) in
    let one = first_of_two (multiplier (j / gcd_of i j)) _ t h in
    let two = first_of_two (multiplier (i / gcd_of i j)) _ t one.2 in
    still y r one.0 s two.0 t n m two.2 a b

-- a variable before x, in an order that ends with x
before_none : (done : List ℕ) (x y : ℕ) (r : RowOf) → is_in x done ≡ false → none_before (done ++ (x ∷ [])) x r ≡ true → is_in y done ≡ true → mentions y r.entries ≡ false
before_none done x y r n b i = free_none y done r (sym (before_last done x r n) ∙ b) i

eliminated_free : (done : List ℕ) (x : ℕ) (u l e : RowOf) → is_in x done ≡ false → IsNormal u → IsNormal l → pos 0 <ℤ coefficient x u.entries → coefficient x l.entries <ℤ pos 0 → none_before (done ++ (x ∷ [])) x u ≡ true → none_before (done ++ (x ∷ [])) x l ≡ true → eliminated u l x ≡ Ok e → free (done ++ (x ∷ [])) e ≡ true
eliminated_free done x u l e n nu nl pu pl bu bl h = free_from (done ++ (x ∷ [])) e (λ y i. by_place y (or_cases (is_in y done) (nat_eq y x) (rw is_in_last at i)))
  where
    by_place : (y : ℕ) → (is_in y done ≡ true) ⊎ (nat_eq y x ≡ true) → mentions y e.entries ≡ false
    by_place y (inl i) = eliminated_still y u l e x nu nl h (before_none done x y u n bu i) (before_none done x y l n bl i)
    by_place y (inr i) = let same : y ≡ x = eqb-true y x i in rw same (gone x u l e nu nl pu pl h)

eliminated_inside : (all : List ℕ) (x : ℕ) (u l e : RowOf) → IsNormal u → IsNormal l → entries_in all u.entries ≡ true → entries_in all l.entries ≡ true → eliminated u l x ≡ Ok e → entries_in all e.entries ≡ true
eliminated_inside all x u l e nu nl iu il h =
    entries_from all e.entries (λ y i. eliminated_still y u l e x nu nl h (entries_none all y u.entries iu i) (entries_none all y l.entries il i))

pub are_opposite : (a b : ℤ) → pos 0 <ℤ a → b <ℤ pos 0 → opposite a b ≡ true
are_opposite (pos a) (negsuc b) h k = lt-ltb 0 a (omega (arith, ints))
are_opposite (pos a) (pos b) h k = absurd (omega (arith, ints))
are_opposite (negsuc a) b h k = absurd (omega (arith, ints))

pub may_pair : (w : WorkOf) (x i j : ℕ) (p : IsPair w x i j) → may_eliminate w.order x p.up p.low ≡ true
may_pair w x i j p =
    and_from (opposite (coefficient x p.up.entries) (coefficient x p.low.entries)) _ (are_opposite _ _ p.above p.below)
    (and_from (none_before w.order x p.up) _ p.no_first p.no_second)

pub pair_reason : (given : List RowOf) (w : WorkOf) (x i j : ℕ) (p : IsPair w x i j) (e : RowOf) → eliminated p.up p.low x ≡ Ok e → reason_row given w.order w.rows (Eliminated i j x) ≡ Some e
pair_reason given w x i j p e h = rw (p.first, p.second) (rw (may_pair w x i j p) (ap ok_of h))

pub pair_ready : (w made : WorkOf) (x i j : ℕ) (p : IsPair w x i j) (e : RowOf) → eliminated p.up p.low x ≡ Ok e → StaysPlaced w e made → (all done : List ℕ) → w.order ≡ done ++ (x ∷ []) → is_in x done ≡ false → Placed all done w → Placed all done made × Grows w made × PairReady made x i j
pair_ready w made x i j p e h s all done o n placed =
    let nu = placed.normal i p.up p.first in
    let nl = placed.normal j p.low p.second in
    let f : free (done ++ (x ∷ [])) e ≡ true = eliminated_free done x p.up p.low e n nu nl p.above p.below (rw o at p.no_first) (rw o at p.no_second) h in
    let g : free w.order e ≡ true = rw o f in
    let inside = eliminated_inside all x p.up p.low e nu nl (placed.inside i p.up p.first) (placed.inside j p.low p.second) h in
    let t = s all done placed inside g in
    let mo : made.order ≡ done ++ (x ∷ []) = t.2.order ∙ o in
    let mf : free made.order e ≡ true = rw t.2.order g in
    (t.0, t.2, (p.up, p.low, t.2.stays i p.up p.first, t.2.stays j p.low p.second, λ v m. pair_met all done done x made p.up p.low e mo n t.0 mf t.1 p.above p.below h v m))

pub pair_false : (w : WorkOf) (x i j : ℕ) (p : IsPair w x i j) (e : RowOf) → eliminated p.up p.low x ≡ Ok e → is_false e ≡ true → MakesFalse w (Eliminated i j x)
pair_false w x i j p e h f = (e, f, λ given. pair_reason given w x i j p e h)

pub pair_false_at : (w made : WorkOf) (x i j : ℕ) (p : IsPair w x i j) (e : RowOf) → made ≡ w → eliminated p.up p.low x ≡ Ok e → is_false e ≡ true → MakesFalse made (Eliminated i j x)
pair_false_at w made x i j p e same h f = subst (λ (z : WorkOf). MakesFalse z (Eliminated i j x)) (sym same) (pair_false w x i j p e h f)

pub opposite_at : (r u s l : RowOf) (x : ℕ) → r ≡ u → s ≡ l → opposite (coefficient x u.entries) (coefficient x l.entries) ≡ true → opposite (coefficient x r.entries) (coefficient x s.entries) ≡ true
opposite_at r u s l x e f h =
    subst (λ (z : RowOf). opposite (coefficient x z.entries) (coefficient x s.entries) ≡ true) (sym e) (subst (λ (z : RowOf). opposite (coefficient x u.entries) (coefficient x z.entries) ≡ true) (sym f) h)

pub pair_leaves : (w : WorkOf) (x i j : ℕ) (p : IsPair w x i j) (e : OutOfRange) → eliminated p.up p.low x ≡ Err e → leaves_at w.order x e (row_at w.rows i) (row_at w.rows j)
pair_leaves w x i j p e h =
    let both : leaves_at w.order x e (Some p.up) (Some p.low) = (may_pair w x i j p, h) in
    rw (p.first, p.second) both

pub told_at : (r u s l : RowOf) (x : ℕ) (made : Result Row Refused) → r ≡ u → s ≡ l → Told row_of made (eliminated r s x) → Told row_of made (eliminated u l x)
told_at r u s l x made e f h =
    subst (λ (z : RowOf). Told row_of made (eliminated u z x)) f (subst (λ (z : RowOf). Told row_of made (eliminated z s x)) e h)

pub taken_done : (budget : ℕ) (w : WorkOf) (r : RowOf) (made : WorkOf) (t : Taken) → IsTaken budget w r made t → t ≡ Done → StaysPlaced w r made
taken_done budget w r made t h e = subst (IsTaken budget w r made) e h

pub taken_false : (budget : ℕ) (w : WorkOf) (r : RowOf) (made : WorkOf) (t : Taken) → IsTaken budget w r made t → t ≡ False → (made ≡ w) × (is_false r ≡ true)
taken_false budget w r made t h e = subst (IsTaken budget w r made) e h

-- ---- a row of pairs

pub is_pair_extends : (w made : WorkOf) (x i j : ℕ) → Extends w made → IsPair w x i j → IsPair made x i j
is_pair_extends w made x i j g p = record {
  up = p.up;
  low = p.low;
  first = g.stays i p.up p.first;
  second = g.stays j p.low p.second;
  above = p.above;
  below = p.below;
  no_first = rw g.order p.no_first;
  no_second = rw g.order p.no_second;
}

pub paired_ready : (budget : ℕ) (w : WorkOf) (x i j : ℕ) (made : WorkOf) (p : Paired) → IsPaired budget w x i j made p → p ≡ Ready → GetsReady w x made (PairReady made x i j)
paired_ready budget w x i j made p h e = subst (IsPaired budget w x i j made) e h

pub gets_as : (w : WorkOf) (x : ℕ) (made : WorkOf) (f g : Type 0) → (f → g) → GetsReady w x made f → GetsReady w x made g
gets_as w x made f g k h all done o n p = let r = h all done o n p in (r.0, r.1, k r.2)

pub gets_more : (w : WorkOf) (x : ℕ) (a b : WorkOf) (f g k : Type 0) → Extends w a → (Grows a b → f → g → k) → GetsReady w x a f → GetsReady a x b g → GetsReady w x b k
gets_more w x a b f g k ext join h s all done o n p =
    let r = h all done o n p in
    let t = s all done (ext.order ∙ o) n r.0 in
    (t.0, grows_on w a b r.1 t.1, join t.1 r.2 t.2)

pub in_place : (x : ℕ) (ys : List ℕ) → is_in x ys ≡ true → (k : ℕ) × (k < length ys) × (get_or ys k 0 ≡ x)
in_place x [] h = absurd (cc)
in_place x (y ∷ ys) h = by_test (nat_eq x y) refl h (λ g. in_place x ys g)
  where
    by_test : (b : Bool) → nat_eq x y ≡ b → (b || is_in x ys) ≡ true → (is_in x ys ≡ true → (k : ℕ) × (k < length ys) × (get_or ys k 0 ≡ x)) → (k : ℕ) × (k < length (y ∷ ys)) × (get_or (y ∷ ys) k 0 ≡ x)
    by_test true e g f = (0, omega arith, sym (eqb-true x y e))
    by_test false e g f = let r = f g in let lt = r.1 in (suc r.0, omega arith, r.2)

pub below_step : (P Q : ℕ → Type 0) (n : ℕ) → ((k : ℕ) → P k → Q k) → ((k : ℕ) → k < n → P k) → Q n → (k : ℕ) → k < n + 1 → Q k
below_step P Q n f h q = below_more Q n (λ k lt. f k (h k lt)) q

pub lower_step : (w : WorkOf) (x i : ℕ) (lows : List ℕ) (a b : WorkOf) (n : ℕ) → Extends w a → GetsReady w x a ((k : ℕ) → k < n → PairReady a x i (get_or lows k 0)) → GetsReady a x b (PairReady b x i (get_or lows n 0)) → GetsReady w x b ((k : ℕ) → k < n + 1 → PairReady b x i (get_or lows k 0))
lower_step w x i lows a b n ext h s =
    gets_more w x a b _ _ _ ext (λ g f last. below_step (λ k. PairReady a x i (get_or lows k 0)) (λ k. PairReady b x i (get_or lows k 0)) n (λ k p. pair_grows a b x i (get_or lows k 0) g p) f last) h s

pub all_in : (P : ℕ → Type 0) (ys : List ℕ) (n : ℕ) → length ys ≤ n → ((k : ℕ) → k < n → P (get_or ys k 0)) → (j : ℕ) → is_in j ys ≡ true → P j
all_in P ys n le h j i = let r = in_place j ys i in let lt = r.1 in subst P r.2 (h r.0 (omega arith))

pub round_whole : (budget : ℕ) (w : WorkOf) (x : ℕ) (made : WorkOf) (fact : Type 0) (r : Round) → IsRound budget w x made fact r → r ≡ Whole → GetsReady w x made fact
round_whole budget w x made fact r h e = subst (IsRound budget w x made fact) e h

abbrev pub WithAll : WorkOf → ℕ → ℕ → List ℕ → Type 0
WithAll w x i lows = (j : ℕ) → is_in j lows ≡ true → PairReady w x i j

with_all_grows : (a b : WorkOf) (x i : ℕ) (lows : List ℕ) → Grows a b → WithAll a x i lows → WithAll b x i lows
with_all_grows a b x i lows g h j m = pair_grows a b x i j g (h j m)

pub upper_step : (w : WorkOf) (x : ℕ) (ups lows : List ℕ) (a b : WorkOf) (n : ℕ) → Extends w a → GetsReady w x a ((k : ℕ) → k < n → WithAll a x (get_or ups k 0) lows) → GetsReady a x b (WithAll b x (get_or ups n 0) lows) → GetsReady w x b ((k : ℕ) → k < n + 1 → WithAll b x (get_or ups k 0) lows)
upper_step w x ups lows a b n ext h s =
    gets_more w x a b _ _ _ ext (λ g f last. below_step (λ k. WithAll a x (get_or ups k 0) lows) (λ k. WithAll b x (get_or ups k 0) lows) n (λ k p. with_all_grows a b x (get_or ups k 0) lows g p) f last) h s

pub all_in_rows : (P : ℕ → ℕ → Type 0) (ups lows : List ℕ) (n : ℕ) → length ups ≤ n → ((k : ℕ) → k < n → (j : ℕ) → is_in j lows ≡ true → P (get_or ups k 0) j) → (i : ℕ) → is_in i ups ≡ true → (j : ℕ) → is_in j lows ≡ true → P i j
all_in_rows P ups lows n le h i m = all_in (λ i. (j : ℕ) → is_in j lows ≡ true → P i j) ups n le h i m
