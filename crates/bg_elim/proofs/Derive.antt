-- Reasons as the steps of a derivation.
use Rattle.std.proofs.Common.{◌≡◌, ℕ, Bool, true, false, ◌&&◌, List, [], ◌∷◌, ◌++◌, ℤ, pos, ◌≤ℤ◌, refl, ap, ◌∙◌, arith, cond, subst}
use Rattle.std.specs.Prelude.{Option, Some, None, Result, Ok, Err, int_le}
use Rattle.std.proofs.lemmas.Bool.{and_parts, and_from}
use Rattle.std.proofs.lemmas.Int.{ints}
use Rattle.bg_base.specs.declared.exact.OutOfRange.{OutOfRange}
use Rattle.bg_rows.specs.declared.step.Step.{Step}
use Rattle.bg_rows.specs.declared.step.Step.TheVariants.{Sum}
use Rattle.bg_rows.specs.Entries.{coefficient}
use Rattle.bg_rows.specs.Rows.{RowOf, is_false, opposite, combined, eliminated}
use Rattle.bg_rows.specs.Steps.{row_at, ok_of, sum_row, step_row, derives}
use Rattle.bg_elim.specs.declared.order.Reason.{Reason}
use Rattle.bg_elim.specs.declared.order.Reason.TheVariants.{Eliminated}
use Rattle.bg_elim.specs.Kept.{may_eliminate, gone_of, reason_row, made_rows}
use Rattle.bg_elim.specs.Work.{WorkOf, Holds, FalseOf, IsStep, StepsFor}
use Rattle.bg_elim.proofs.Orders.{at_more}

pub record GoneParts (order : List ℕ) (x : ℕ) (a b : Option RowOf) (r : RowOf) : Type 0 where
  pub up : RowOf
  pub low : RowOf
  pub first : a ≡ Some up
  pub second : b ≡ Some low
  pub signs : opposite (coefficient x up.entries) (coefficient x low.entries) ≡ true
  pub is : eliminated up low x ≡ Ok r

ok_is : (x : Result RowOf OutOfRange) (r : RowOf) → ok_of x ≡ Some r → x ≡ Ok r
ok_is (Ok t) r h = cc
ok_is (Err e) r h = absurd (cc)

pub gone_parts : (order : List ℕ) (x : ℕ) (a b : Option RowOf) (r : RowOf) → gone_of order x a b ≡ Some r → GoneParts order x a b r
gone_parts order x None b r h = absurd (cc)
gone_parts order x (Some u) None r h = absurd (cc)
gone_parts order x (Some u) (Some l) r h = by_test (may_eliminate order x u l) refl h
  where
    by_test : (b : Bool) → may_eliminate order x u l ≡ b → cond b (ok_of (eliminated u l x)) None ≡ Some r → GoneParts order x (Some u) (Some l) r
    by_test true e g = record { up = u; low = l; first = refl; second = refl; signs = (and_parts (opposite (coefficient x u.entries) (coefficient x l.entries)) _ e).0; is = ok_is (eliminated u l x) r g }
    by_test false e g = absurd (cc)

at_least : (k : ℤ) → pos 0 ≤ℤ k → int_le (pos 0) k ≡ true
at_least k h = grind (arith, ints)

pub sum_is : (a b : Option RowOf) (u l r : RowOf) (p q : ℤ) → a ≡ Some u → b ≡ Some l → pos 0 ≤ℤ p → pos 0 ≤ℤ q → combined u p l q ≡ Ok r → sum_row a p b q ≡ Some r
sum_is a b u l r p q e f hp hq h =
    let s : (int_le (pos 0) p && int_le (pos 0) q) ≡ true = and_from (int_le (pos 0) p) _ (at_least p hp) (at_least q hq) in
    let t : sum_row (Some u) p (Some l) q ≡ Some r = rw s (ap ok_of h) in
    rw (e, f) t

-- ---- a list of reasons

made_prefix : (given : List RowOf) (order : List ℕ) (made : List RowOf) (reasons : List Reason) (rows : List RowOf) → made_rows given order made reasons ≡ Some rows → (n : ℕ) (s : RowOf) → row_at made n ≡ Some s → row_at rows n ≡ Some s
made_prefix given order made [] rows h n s e = let is : made ≡ rows = cc in rw (← is) e
made_prefix given order made (r ∷ reasons) rows h n s e = by_row (λ q g. made_prefix given order (made ++ (q ∷ [])) reasons rows g n s (at_more made q n s e)) (reason_row given order made r) h
  where
    by_row : ((q : RowOf) → made_rows given order (made ++ (q ∷ [])) reasons ≡ Some rows → row_at rows n ≡ Some s) → (x : Option RowOf) → (elim x [ None ↦ None | Some q ↦ made_rows given order (made ++ (q ∷ [])) reasons ]) ≡ Some rows → row_at rows n ≡ Some s
    by_row f None g = absurd (cc)
    by_row f (Some q) g = f q g

derive_all : (w : WorkOf) (given made : List RowOf) (last : Bool) (reasons : List Reason) (steps : List Step) (final : Reason) (step : Step) (r : RowOf) → made_rows given w.order made reasons ≡ Some w.rows → StepsFor w reasons steps → IsStep w final step → reason_row given w.order w.rows final ≡ Some r → is_false r ≡ true → derives given made last (steps ++ (step ∷ [])) ≡ true
derive_all w given made last [] [] final step r h s k e f =
    let is : made ≡ w.rows = cc in
    let g : reason_row given w.order made final ≡ Some r = rw is e in
    let t : step_row given made step ≡ Some r = k given made r (λ n q a. rw (← is) a) g in
    ends (step_row given made step) t
  where
    ends : (x : Option RowOf) → x ≡ Some r → (elim x [ None ↦ false | Some q ↦ is_false q ]) ≡ true
    ends None e = absurd (cc)
    ends (Some q) e = let same : q ≡ r = cc in rw same f
derive_all w given made last [] (x ∷ steps) final step r h s k e f = absurd s
derive_all w given made last (q ∷ reasons) [] final step r h s k e f = absurd s
derive_all w given made last (q ∷ reasons) (x ∷ steps) final step r h s k e f =
    by_row (λ t g. derive_all w given (made ++ (t ∷ [])) (is_false t) reasons steps final step r g s.1 k e f) (reason_row given w.order made q) refl h
  where
    starts : (y : Option RowOf) (t : RowOf) → y ≡ Some t → derives given (made ++ (t ∷ [])) (is_false t) (steps ++ (step ∷ [])) ≡ true → (elim y [ None ↦ false | Some q ↦ derives given (made ++ (q ∷ [])) (is_false q) (steps ++ (step ∷ [])) ]) ≡ true
    starts None t e g = absurd (cc)
    starts (Some q) t e g = let same : q ≡ t = cc in rw same g

    by_row : ((t : RowOf) → made_rows given w.order (made ++ (t ∷ [])) reasons ≡ Some w.rows → derives given (made ++ (t ∷ [])) (is_false t) (steps ++ (step ∷ [])) ≡ true) → (y : Option RowOf) → reason_row given w.order made q ≡ y → (elim y [ None ↦ None | Some t ↦ made_rows given w.order (made ++ (t ∷ [])) reasons ]) ≡ Some w.rows → derives given made last ((x ∷ steps) ++ (step ∷ [])) ≡ true
    by_row g None a b = absurd (cc)
    by_row g (Some t) a b =
        let whole = made_prefix given w.order made (q ∷ reasons) w.rows h in
        let c : step_row given made x ≡ Some t = s.0 given made t whole a in
        starts (step_row given made x) t c (g t b)

pub refutes : (w : WorkOf) (given : List RowOf) (steps : List Step) (final : Reason) (step : Step) → StepsFor w w.reasons steps → IsStep w final step → Holds given w → FalseOf given w final → derives given [] false (steps ++ (step ∷ [])) ≡ true
refutes w given steps final step s k h f = derive_all w given [] false w.reasons steps final step f.0 h.made s k f.2 f.1

-- one more step
pub steps_last : (w : WorkOf) (reasons : List Reason) (steps : List Step) (r : Reason) (s : Step) → StepsFor w reasons steps → IsStep w r s → StepsFor w (reasons ++ (r ∷ [])) (steps ++ (s ∷ []))
steps_last w [] [] r s h k = (k, tt)
steps_last w [] (x ∷ steps) r s h k = absurd h
steps_last w (q ∷ reasons) [] r s h k = absurd h
steps_last w (q ∷ reasons) (x ∷ steps) r s h k = (h.0, steps_last w reasons steps r s h.1 k)

-- ---- what the code finds, at the rows of a reason

pub step_sum : (w : WorkOf) (i j x : ℕ) (u l row : RowOf) (p q : ℤ) → row_at w.rows i ≡ Some u → row_at w.rows j ≡ Some l → pos 0 ≤ℤ p → pos 0 ≤ℤ q → combined u p l q ≡ Ok row → eliminated u l x ≡ Ok row → IsStep w (Eliminated i j x) (Sum i p j q)
step_sum w i j x u l row p q hi hj hp hq h k given made r same e =
    let g = gone_parts w.order x (row_at made i) (row_at made j) r e in
    let a = same i g.up g.first in
    let b = same j g.low g.second in
    let eu : g.up ≡ u = cc in
    let el : g.low ≡ l = cc in
    let f1 : row_at made i ≡ Some u = g.first ∙ ap Some eu in
    let f2 : row_at made j ≡ Some l = g.second ∙ ap Some el in
    let k2 : eliminated u l x ≡ Ok r = subst (λ (z : RowOf). eliminated u z x ≡ Ok r) el (subst (λ (z : RowOf). eliminated z g.low x ≡ Ok r) eu g.is) in
    let er : row ≡ r = cc in
    sum_is (row_at made i) (row_at made j) u l r p q f1 f2 hp hq (h ∙ ap Ok er)

-- where there are no two rows from which to eliminate, no step is asked for
pub step_none : (w : WorkOf) (i j x : ℕ) (step : Step) → ((u l r : RowOf) → row_at w.rows i ≡ Some u → row_at w.rows j ≡ Some l → opposite (coefficient x u.entries) (coefficient x l.entries) ≡ true → eliminated u l x ≡ Ok r → ⊥) → IsStep w (Eliminated i j x) step
step_none w i j x step none given made r same e =
    let g = gone_parts w.order x (row_at made i) (row_at made j) r e in
    absurd (none g.up g.low r (same i g.up g.first) (same j g.low g.second) g.signs g.is)

pub signs_clash : (a u b l : RowOf) (x : ℕ) → a ≡ u → b ≡ l → opposite (coefficient x a.entries) (coefficient x b.entries) ≡ false → opposite (coefficient x u.entries) (coefficient x l.entries) ≡ true → ⊥
signs_clash a u b l x e f n s =
    let m : opposite (coefficient x u.entries) (coefficient x l.entries) ≡ false = subst (λ (z : RowOf). opposite (coefficient x u.entries) (coefficient x z.entries) ≡ false) f (subst (λ (z : RowOf). opposite (coefficient x z.entries) (coefficient x b.entries) ≡ false) e n) in
    cc

pub refusal_clash : (a u b l r : RowOf) (x : ℕ) (o : OutOfRange) → a ≡ u → b ≡ l → eliminated a b x ≡ Err o → eliminated u l x ≡ Ok r → ⊥
refusal_clash a u b l r x o e f n s =
    let m : eliminated u l x ≡ Err o = subst (λ (z : RowOf). eliminated u z x ≡ Err o) f (subst (λ (z : RowOf). eliminated z b x ≡ Err o) e n) in
    cc
