-- A point that nothing calls for.
use Rattle.std.proofs.Common.{◌≡◌, ℕ, ◌==◌, ◌&&◌, ◌||◌, arith, Bool, true, false, List, [], ◌∷◌, ℤ, pos, map, refl, inl, inr}
use Rattle.std.proofs.lemmas.Bool.Decides.{nat_tests}
use Rattle.bg_formula.specs.Meaning.{same}
use Rattle.bg_rows.specs.Rows.{RowOf, row_of}
use Rattle.bg_elim.specs.declared.order.Reason.TheVariants.{Given}
use Rattle.bg_elim.specs.Kept.{MeetBehind, BoundsAgree, Solves}
use Rattle.bg_elim.specs.Answers.{SolvedBy}
use Rattle.bg_point.specs.Points.{IsPoint}
use Rattle.bg_cert.specs.Certs.{root}
use Rattle.bg_cert.specs.Paths.{rows_on}
use Rattle.bg_pick.specs.Picks.{IsComplete}
use Rattle.bg_tree.specs.declared.outcome.Leaf.{Leaf}
use Rattle.bg_tree.specs.Once.{IsOnce}
use Rattle.bg_tree.specs.Ways.{IsWay}
use Rattle.bg_tree.specs.Wide.{all}
use Rattle.bg_tree.specs.Far.{multiple, doubled, far, far_path, IsFarLeaf}
use Rattle.bg_tree.proofs.Sided.{AreUp, up_at, up_no_gap, not_low}

abbrev rows : List RowOf
rows = multiple (pos 2) (pos 1) ∷ multiple (pos 2) (pos 0) ∷ multiple (pos 1) far ∷ []

given_rows : rows_on doubled.atoms far_path ≡ rows
given_rows = refl

up_rows : AreUp rows
up_rows = ((tt, tt), ((tt, tt), ((tt, tt), tt)))

agree : (v : ℕ → ℤ) (x : ℕ) → MeetBehind v (0 ∷ []) x rows → BoundsAgree v (0 ∷ []) x rows
agree v x m up low a b n k p q = absurd (not_low x low.entries (up_at rows b.0 low up_rows b.1) q)

solves : Solves rows (0 ∷ []) (Given 0 ∷ Given 1 ∷ Given 2 ∷ []) rows
solves =
    record {
      made = refl;
      fine = refl;
      once = refl;
      inside = refl;
      kept = (inr (inl (0, refl)), (inr (inl (1, refl)), (inr (inl (2, refl)), tt)));
      agree = agree;
    }

point : IsPoint (λ x. pos 0) (0 ∷ []) rows (record { variable = 0; value = far; reason = 2 } ∷ [])
point = record { variables = refl; near = refl; meets = refl }

complete : IsComplete doubled all far_path
complete = record { fine = refl; decided = refl }

once : IsOnce far_path
once a = by (a == 0) (a == 1) refl refl
  where
    by : (p q : Bool) → (a == 0) ≡ p → (a == 1) ≡ q → (((p && same true true) || ((q && same true false) || (false || false))) && ((p && same false true) || ((q && same false false) || (false || false)))) ≡ false
    by true true e f = absurd (let bad : ⊥ = grind (arith, nat_tests) in bad)
    by true false e f = refl
    by false true e f = refl
    by false false e f = refl

no_way : (targets : ℕ → ℤ) → IsWay targets doubled all (root doubled) far_path → ⊥
no_way targets w = up_no_gap targets (multiple (pos 2) (pos 1) ∷ multiple (pos 2) (pos 0) ∷ []) w.1.1.0.kept ((tt, tt), ((tt, tt), tt)) w.1.1.0.bound.gap

-- all that once was asked of a leaf holds
pub far_leaf : (targets : ℕ → ℤ) (l : Leaf) → IsFarLeaf l → IsComplete doubled all l.path.items × IsOnce l.path.items × SolvedBy (rows_on doubled.atoms l.path.items) l.order × IsPoint (λ x. pos 0) l.order.variables.items (map row_of l.order.rows.items) l.spots.items × (IsWay targets doubled all (root doubled) l.path.items → ⊥)
far_leaf targets l h =
    rw (h.path, h.variables, h.reasons, h.rows, h.spots) (complete, once, solves, point, no_way targets)
