-- The atoms of truth incarnations, and what reads them.
use Rattle.std.proofs.Common.{◌≡◌, ◌<◌, ◌≤◌, ◌+◌, ℕ, zero, suc, true, List, [], ◌∷◌, length, Option, Some, None, refl, sym, ap, ◌∙◌, arith, subst}
use Rattle.std.specs.Prelude.{slice_get}
use Rattle.bg_ast.specs.Syntax.{Ex, Read, Var, Local, Global}
use Rattle.bg_formula.specs.Atoms.{AtomOf}
use Rattle.bg_linear.specs.declared.scalar.Sort.{Sort}
use Rattle.bg_linear.specs.declared.scalar.Sort.TheVariants as sort
use Rattle.bg_linear.specs.Sorts.{kind_at, kind_ex, is_truth}
use Rattle.bg_atoms.specs.Ranks.{one_for, truths, rank, ranks_from, read_by, read_var}
use Rattle.bg_atoms.specs.Worlds.{Means}
use Rattle.bg_atoms.proofs.Reading.{is_below}

ranked : (sorts : List Sort) (j n : ℕ) → slice_get sorts j ≡ Some sort.Truth → slice_get (ranks_from n sorts) j ≡ Some (n + rank sorts j)
ranked [] j n h = absurd (let bad : ⊥ = cc in bad)
ranked (s ∷ ss) zero n h = ap Some (omega arith)
ranked (s ∷ ss) (suc j) n h = ranked ss j (n + one_for s) h ∙ ap Some (omega arith)

rank_below : (sorts : List Sort) (j : ℕ) → slice_get sorts j ≡ Some sort.Truth → rank sorts j < truths sorts
rank_below [] j h = absurd (let bad : ⊥ = cc in bad)
rank_below (s ∷ ss) zero h =
    let is : s ≡ sort.Truth = cc in
    subst (λ t. 0 < one_for t + truths ss) (sym is) (omega arith)
rank_below (s ∷ ss) (suc j) h = let m = rank_below ss j h in omega (arith, m)

truth_at : (s : Option Sort) → is_truth (kind_at s) ≡ true → s ≡ Some sort.Truth
truth_at None h = absurd (let bad : ⊥ = cc in bad)
truth_at (Some sort.Truth) h = refl
truth_at (Some sort.Number) h = absurd (let bad : ⊥ = cc in bad)
truth_at (Some sort.Other) h = absurd (let bad : ⊥ = cc in bad)

pub read_means : (sorts : List Sort) (n : ℕ) (rows : List AtomOf) (ranks : List ℕ) (j : ℕ) (x : Ex) → ranks ≡ ranks_from 0 sorts → truths sorts ≤ n → x ≡ read_by (slice_get ranks j) → is_truth (kind_at (slice_get sorts j)) ≡ true → Means sorts n rows (Read (Local j)) x
read_means sorts n rows ranks j x are below is h =
    let zero_more : 0 + rank sorts j ≡ rank sorts j = omega arith in
    let there = truth_at (slice_get sorts j) h in
    let place : x ≡ Read (Local (rank sorts j)) = is ∙ ap (λ l. read_by (slice_get l j)) are ∙ ap read_by (ranked sorts j 0 there ∙ ap Some zero_more) in
    let lt = rank_below sorts j there in
    subst (Means sorts n rows (Read (Local j))) (sym place) (record {
      fits = is_below (rank sorts j) (n + length rows) (omega (arith, lt, below));
      exact = sym place ∙ is ∙ ap (λ l. read_by (slice_get l j)) are;
      same = λ fine k g held. g.reads (rank sorts j) (omega (arith, lt, below)) ∙ sym (held.truth j there);
    })

pub variable_means : (sorts : List Sort) (n : ℕ) (rows : List AtomOf) (ranks : List ℕ) (v : Var) (e x : Ex) → ranks ≡ ranks_from 0 sorts → truths sorts ≤ n → e ≡ Read v → x ≡ read_var ranks v → is_truth (kind_ex sorts e) ≡ true → Means sorts n rows e x
variable_means sorts n rows ranks (Local j) e x are below node is h =
    subst (λ y. Means sorts n rows y x) (sym node) (read_means sorts n rows ranks j x are below is (subst (λ y. is_truth (kind_ex sorts y) ≡ true) node h))
variable_means sorts n rows ranks (Global k) e x are below node is h =
    absurd (let bad : is_truth None ≡ true = subst (λ y. is_truth (kind_ex sorts y) ≡ true) node h in let no_way : ⊥ = cc in no_way)
