-- Formulas of what is told of blocks.
use Rattle.std.proofs.Common.{◌≡◌, ℕ, suc, ◌+◌, ◌-◌, Bool, List, [], ◌∷◌, ◌++◌, map, length, refl, ap, ◌∙◌}
use Rattle.std.specs.Prelude.{Option}
use Rattle.bg_ast.specs.Execution.{Spot}
use Rattle.bg_sense.specs.Variables.{count_from}
use Rattle.bg_formula.specs.Atoms.{AtomOf, IsTruth}
use Rattle.bg_formula.specs.Formulas.{Formula}
use Rattle.bg_formed.specs.Formed.{FormBlock}
use Rattle.bg_slice.specs.Marks.{marked_rows}
use Rattle.bg_clause.specs.Tables.{table, marked}
use Rattle.bg_clause.specs.Told.{Told, entry_told}
use Rattle.bg_clause.specs.Whole.{formula}

pub count_marked : (ms : List Bool) (rows : List AtomOf) → length (marked_rows ms rows) ≡ length rows
count_marked ms [] = refl
count_marked [] (a ∷ rows) = ap (λ n. suc n) (count_marked [] rows)
count_marked (m ∷ ms) (a ∷ rows) = ap (λ n. suc n) (count_marked ms rows)

module _ (n : ℕ) (ms : List Bool) (terms : ℕ) (rows : List AtomOf) (t : Spot) (bs : List FormBlock) where
  abbrev made : ℕ → List (Option ℕ) → Told → Formula
  made k cs s =
      record {
        terms = terms;
        atoms = map IsTruth (count_from 0 n) ++ (rows ++ map IsTruth (count_from k (s.next - k)));
        clauses = s.clauses;
        candidates = cs;
      }

  pub formula_made : (k : ℕ) (cs : List (Option ℕ)) (free : ℕ) (s : Told) (atoms : List AtomOf) → k ≡ n + length rows → cs ≡ table k ms → free ≡ k + marked ms → s ≡ entry_told cs t free bs → atoms ≡ map IsTruth (count_from 0 n) ++ (rows ++ map IsTruth (count_from k (s.next - k))) → record { terms = terms; atoms = atoms; clauses = s.clauses; candidates = cs } ≡ formula n ms terms rows t bs
  formula_made k cs free s atoms hk hc hf hs ha =
      ap (λ l. record { terms = terms; atoms = l; clauses = s.clauses; candidates = cs }) ha
      ∙ (ap (made k cs) hs
      ∙ (ap (λ f. made k cs (entry_told cs t f bs)) hf
      ∙ (ap (λ x. made k x (entry_told x t (k + marked ms) bs)) hc
      ∙ ap (λ j. made j (table j ms) (entry_told (table j ms) t (j + marked ms) bs)) hk)))
