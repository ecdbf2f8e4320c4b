-- A derivation of a false row refutes the rows of its path.
use Rattle.std.proofs.Common.{◌≡◌, ℕ, zero, suc, Bool, true, false, ◌&&◌, List, [], ◌∷◌, ◌++◌, ℤ, pos, ◌≤ℤ◌, ◌<ℤ◌, refl, arith}
use Rattle.std.specs.Prelude.{Option, Some, None, Result, Ok, Err, int_le, int_lt}
use Rattle.std.proofs.lemmas.Int.{ints}
use Rattle.std.proofs.lemmas.Bool.{and_parts}
use Rattle.bg_base.specs.declared.exact.OutOfRange.{OutOfRange}
use Rattle.bg_rows.specs.declared.entry.Entry.{Entry}
use Rattle.bg_rows.specs.declared.step.Step.{Step}
use Rattle.bg_rows.specs.declared.step.Step.TheVariants.{Path, Sum, Tight}
use Rattle.bg_rows.specs.Entries.{total}
use Rattle.bg_rows.specs.Rows.{RowOf, Meets, AllMeet, is_false, is_empty, combined, tightened}
use Rattle.bg_rows.specs.Steps.{row_at, ok_of, sum_row, tight_of, step_row, derives}
use Rattle.bg_rows.proofs.Meaning.{combined_follows}
use Rattle.bg_rows.proofs.Divisors.{tightened_keeps}

pub at_met : (v : ℕ → ℤ) (rs : List RowOf) (n : ℕ) (r : RowOf) → AllMeet v rs → row_at rs n ≡ Some r → Meets v r
at_met v [] n r a e = absurd (cc)
at_met v (q ∷ rs) zero r a e = let is : q ≡ r = cc in rw (← is) a.0
at_met v (q ∷ rs) (suc n) r a e = at_met v rs n r a.1 e

pub snoc_met : (v : ℕ → ℤ) (rs : List RowOf) (r : RowOf) → AllMeet v rs → Meets v r → AllMeet v (rs ++ (r ∷ []))
snoc_met v [] r a m = (m, tt)
snoc_met v (q ∷ rs) r a m = (a.0, snoc_met v rs r a.1 m)

at_least : (z : ℤ) → int_le (pos 0) z ≡ true → pos 0 ≤ℤ z
at_least z h = grind (arith, ints)

sum_met : (v : ℕ → ℤ) (x y : Option RowOf) (p q : ℤ) (r : RowOf) → ((s : RowOf) → x ≡ Some s → Meets v s) → ((s : RowOf) → y ≡ Some s → Meets v s) → sum_row x p y q ≡ Some r → Meets v r
sum_met v None y p q r hx hy e = absurd (cc)
sum_met v (Some a) None p q r hx hy e = absurd (cc)
sum_met v (Some a) (Some b) p q r hx hy e = by_signs (int_le (pos 0) p && int_le (pos 0) q) refl
  where
    by_sum : (x : Result RowOf OutOfRange) → combined a p b q ≡ x → ok_of x ≡ Some r → combined a p b q ≡ Ok r
    by_sum (Ok t) h k = cc
    by_sum (Err o) h k = absurd (cc)

    by_signs : (t : Bool) → (int_le (pos 0) p && int_le (pos 0) q) ≡ t → Meets v r
    by_signs true h =
        let u = and_parts (int_le (pos 0) p) (int_le (pos 0) q) h in
        let g = rw h at e in
        combined_follows v a p b q r (at_least _ u.0) (at_least _ u.1) (by_sum (combined a p b q) refl g) (hx a refl) (hy b refl)
    by_signs false h = absurd (let g = rw h at e in cc)

tight_met : (v : ℕ → ℤ) (x : Option RowOf) (r : RowOf) → ((s : RowOf) → x ≡ Some s → Meets v s) → tight_of x ≡ Some r → Meets v r
tight_met v None r h e = absurd (cc)
tight_met v (Some s) r h e = let is : tightened s ≡ r = cc in rw (← is) ((tightened_keeps v s).0 (h s refl))

step_met : (v : ℕ → ℤ) (path made : List RowOf) (s : Step) (r : RowOf) → AllMeet v path → AllMeet v made → step_row path made s ≡ Some r → Meets v r
step_met v path made (Path j) r a m e = at_met v path j r a e
step_met v path made (Sum i p j q) r a m e = sum_met v (row_at made i) (row_at made j) p q r (λ s g. at_met v made i s m g) (λ s g. at_met v made j s m g) e
step_met v path made (Tight i) r a m e = tight_met v (row_at made i) r (λ s g. at_met v made i s m g) e

false_entries : (v : ℕ → ℤ) (ts : List Entry) (b : ℤ) → (is_empty ts && int_lt b (pos 0)) ≡ true → total v ts ≤ℤ b → ⊥
false_entries v [] b h m = let k : b <ℤ pos 0 = grind (arith, ints) in omega (arith, ints)
false_entries v (t ∷ ts) b h m = cc

pub false_row : (v : ℕ → ℤ) (r : RowOf) → is_false r ≡ true → Meets v r → ⊥
false_row v r h m = false_entries v r.entries r.bound h m

derive_step : (v : ℕ → ℤ) (path made : List RowOf) (ss : List Step) (x : Option RowOf) → ((r : RowOf) → x ≡ Some r → derives path (made ++ (r ∷ [])) (is_false r) ss ≡ true → ⊥) → (elim x [ None ↦ false | Some r ↦ derives path (made ++ (r ∷ [])) (is_false r) ss ]) ≡ true → ⊥
derive_step v path made ss None f h = cc
derive_step v path made ss (Some r) f h = f r refl h

derives_refutes : (v : ℕ → ℤ) (path made : List RowOf) (last : Bool) (steps : List Step) → AllMeet v path → AllMeet v made → (last ≡ true → ⊥) → derives path made last steps ≡ true → ⊥
derives_refutes v path made last [] a m n h = n h
derives_refutes v path made last (s ∷ ss) a m n h =
    derive_step v path made ss (step_row path made s)
    (λ r e. derives_refutes v path (made ++ (r ∷ [])) (is_false r) ss a (snoc_met v made r m (step_met v path made s r a m e)) (λ f. false_row v r f (step_met v path made s r a m e)))
    h

pub refutes : (v : ℕ → ℤ) (path : List RowOf) (steps : List Step) → derives path [] false steps ≡ true → AllMeet v path → ⊥
refutes v path steps h a = derives_refutes v path [] false steps a tt (λ e. cc) h
