-- Truth values of atoms by pieces: those of truth incarnations, and of rows.
use Rattle.std.proofs.Common.{◌≡◌, ℕ, ℤ, zero, suc, ◌+◌, ◌<◌, Bool, false, List, [], ◌∷◌, Some, refl, ap, ◌∙◌, arith}
use Rattle.std.specs.Prelude.{slice_get}
use Rattle.bg_rows.specs.Rows.{holds}
use Rattle.bg_formula.specs.Atoms.{AtomOf, IsTruth, IsRow}
use Rattle.bg_formed.specs.Agree.{AreRows, RowsAgree}
use Rattle.bg_linear.specs.declared.scalar.Sort.{Sort}
use Rattle.bg_linear.specs.declared.scalar.Sort.TheVariants as sort
use Rattle.bg_linear.specs.Sorts.{scalar_value, scalar_values}
use Rattle.bg_ast.specs.Values.{Truth}
use Rattle.bg_atoms.specs.Ranks.{rank, truths}

-- those of truth incarnations by rank, and behind them those of another function
abbrev pub packed : List Sort → (ℕ → Bool) → (ℕ → Bool) → ℕ → Bool
packed [] t g a = g a
packed (sort.Truth ∷ ss) t g zero = t zero
packed (sort.Truth ∷ ss) t g (suc a) = packed ss (λ j. t (suc j)) g a
packed (sort.Number ∷ ss) t g a = packed ss (λ j. t (suc j)) g a
packed (sort.Other ∷ ss) t g a = packed ss (λ j. t (suc j)) g a

pub packed_at : (ss : List Sort) (t g : ℕ → Bool) (j a : ℕ) → slice_get ss j ≡ Some sort.Truth → a ≡ rank ss j → packed ss t g a ≡ t j
packed_at [] t g j a e r = absurd (let bad : ⊥ = cc in bad)
packed_at (sort.Truth ∷ ss) t g zero zero e r = refl
packed_at (sort.Truth ∷ ss) t g zero (suc a) e r = absurd (omega (arith, r))
packed_at (sort.Truth ∷ ss) t g (suc j) zero e r = absurd (omega (arith, r))
packed_at (sort.Truth ∷ ss) t g (suc j) (suc a) e r = packed_at ss (λ i. t (suc i)) g j a e (omega (arith, r))
packed_at (sort.Number ∷ ss) t g zero a e r = absurd (let bad : ⊥ = cc in bad)
packed_at (sort.Number ∷ ss) t g (suc j) a e r = packed_at ss (λ i. t (suc i)) g j a e (omega (arith, r))
packed_at (sort.Other ∷ ss) t g zero a e r = absurd (let bad : ⊥ = cc in bad)
packed_at (sort.Other ∷ ss) t g (suc j) a e r = packed_at ss (λ i. t (suc i)) g j a e (omega (arith, r))

pub packed_past : (ss : List Sort) (t g : ℕ → Bool) (j a : ℕ) → a ≡ truths ss + j → packed ss t g a ≡ g j
packed_past [] t g j a e = ap g (omega (arith, e))
packed_past (sort.Truth ∷ ss) t g j zero e = absurd (omega (arith, e))
packed_past (sort.Truth ∷ ss) t g j (suc a) e = packed_past ss (λ i. t (suc i)) g j a (omega (arith, e))
packed_past (sort.Number ∷ ss) t g j a e = packed_past ss (λ i. t (suc i)) g j a (omega (arith, e))
packed_past (sort.Other ∷ ss) t g j a e = packed_past ss (λ i. t (suc i)) g j a (omega (arith, e))

-- a truth incarnation's rank is below their number
pub rank_below : (ss : List Sort) (j : ℕ) → slice_get ss j ≡ Some sort.Truth → rank ss j < truths ss
rank_below [] j e = absurd (let bad : ⊥ = cc in bad)
rank_below (sort.Truth ∷ ss) zero e = omega arith
rank_below (sort.Truth ∷ ss) (suc j) e = let h = rank_below ss j e in omega (arith, h)
rank_below (sort.Number ∷ ss) zero e = absurd (let bad : ⊥ = cc in bad)
rank_below (sort.Number ∷ ss) (suc j) e = let h = rank_below ss j e in omega (arith, h)
rank_below (sort.Other ∷ ss) zero e = absurd (let bad : ⊥ = cc in bad)
rank_below (sort.Other ∷ ss) (suc j) e = let h = rank_below ss j e in omega (arith, h)

-- ---- rows

-- what each row is worth
abbrev pub row_worths : (ℕ → ℤ) → List AtomOf → ℕ → Bool
row_worths numbers [] j = false
row_worths numbers (IsTruth x ∷ rs) j = false
row_worths numbers (IsRow r d ∷ rs) zero = holds numbers r
row_worths numbers (IsRow r d ∷ rs) (suc j) = row_worths numbers rs j

pub rows_agree : (numbers : ℕ → ℤ) (truth : ℕ → Bool) (n : ℕ) (rows : List AtomOf) → AreRows rows → ((j a : ℕ) → a ≡ n + j → truth a ≡ row_worths numbers rows j) → RowsAgree numbers truth n rows
rows_agree numbers truth n [] h f = tt
rows_agree numbers truth n (IsTruth x ∷ rs) h f = absurd h
rows_agree numbers truth n (IsRow r d ∷ rs) h f =
    (f 0 n (omega arith), rows_agree numbers truth (suc n) rs h (λ j a e. f (suc j) a (omega (arith, e))))

-- ---- values of scalars

-- values depend on the truth values of truth incarnations alone
pub values_same : (ss : List Sort) (numbers : ℕ → ℤ) (t u : ℕ → Bool) → ((j : ℕ) → slice_get ss j ≡ Some sort.Truth → t j ≡ u j) → scalar_values numbers t ss ≡ scalar_values numbers u ss
values_same [] numbers t u f = refl
values_same (sort.Truth ∷ ss) numbers t u f =
    ap (λ b. Truth b ∷ scalar_values (λ j. numbers (suc j)) (λ j. t (suc j)) ss) (f 0 refl)
    ∙ ap (λ vs. Truth (u 0) ∷ vs) (values_same ss (λ j. numbers (suc j)) (λ j. t (suc j)) (λ j. u (suc j)) (λ j e. f (suc j) e))
values_same (s ∷ ss) numbers t u f =
    ap (λ vs. scalar_value s (numbers 0) (u 0) ∷ vs) (values_same ss (λ j. numbers (suc j)) (λ j. t (suc j)) (λ j. u (suc j)) (λ j e. f (suc j) e))
