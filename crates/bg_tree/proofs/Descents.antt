-- Turns of a walk down along proposed values.
use Rattle.std.proofs.Common.{◌≡◌, ◌⊎◌, ℕ, ◌<◌, Bool, true, false, List, [], ◌∷◌, ◌++◌, ℤ, length, inl, inr, refl, sym, subst}
use Rattle.bg_formula.specs.Formulas.{Formula}
use Rattle.bg_cert.specs.declared.cert.Decision.{Decision}
use Rattle.bg_cert.specs.declared.cert.Decision.TheVariants.{Atom, AtMost}
use Rattle.bg_cert.specs.Paths.{rows_on}
use Rattle.bg_cert.specs.Certs.{root}
use Rattle.bg_cert.specs.Walks.{path_of}
use Rattle.bg_pick.specs.declared.index.Index.{Index}
use Rattle.bg_pick.specs.Index.{IsIndex}
use Rattle.bg_pick.specs.Marks.{marks_of, IsMark, IsReady}
use Rattle.bg_pick.specs.Picks.{MaySplit, IsComplete}
use Rattle.bg_pick.proofs.Readies.{root_ready, child_ready}
use Rattle.bg_pick.proofs.Bounded.{bound_child}
use Rattle.bg_tree.specs.declared.descent.Descent.{Descent}
use Rattle.bg_tree.specs.declared.outcome.Budget.{Budget}
use Rattle.bg_tree.specs.declared.outcome.Halt.{Halt}
use Rattle.bg_tree.specs.declared.outcome.Halt.TheVariants.{Point, Rows, Range}
use Rattle.bg_tree.specs.declared.part.Kept.{Kept}
use Rattle.bg_tree.specs.Gaps.{KeepsGap}
use Rattle.bg_tree.specs.Ways.{IsWay, IsEndOf, HasGap}
use Rattle.bg_tree.specs.Ends.{outcome_of, IsHalt}
use Rattle.bg_tree.specs.Trees.{IsOutcome}
use Rattle.bg_tree.specs.Descents.{IsDescent}
use Rattle.bg_tree.proofs.Paths.{way_more, way_once}
use Rattle.bg_tree.proofs.Ends.{gap_may}

-- the root
pub first : (targets : ℕ → ℤ) (f : Formula) (set : ℕ → Bool) (i : Index) (d : Descent) → IsIndex f set i → length d.trail.counts.items ≡ length f.atoms → d.trail.decisions.items ≡ [] → marks_of d.guide ≡ record { row = 0; place = 0; clause = 0; atom = 0; look = 0; top = 0; from = 0; asked = 0; done = 0; reached = 0; unmet = 0; untrue = 0 } ∷ [] → IsDescent targets f set i d
first targets f set i d n z e g =
    record {
      sized = z;
      way = subst (IsWay targets f set (root f)) (sym e) tt;
      ready = rw (e, head_is g) (root_ready f set i n);
    }
  where
    head_is : marks_of d.guide ≡ record { row = 0; place = 0; clause = 0; atom = 0; look = 0; top = 0; from = 0; asked = 0; done = 0; reached = 0; unmet = 0; untrue = 0 } ∷ [] → d.guide.mark ≡ record { row = 0; place = 0; clause = 0; atom = 0; look = 0; top = 0; from = 0; asked = 0; done = 0; reached = 0; unmet = 0; untrue = 0 }
    head_is q = cc

-- behind an atom that may be split
pub atom_on : (targets : ℕ → ℤ) (f : Formula) (set : ℕ → Bool) (i : Index) (d : Descent) (ds : List Decision) (a : ℕ) (s : Bool) → IsIndex f set i → length d.trail.counts.items ≡ length f.atoms → IsWay targets f set (root f) ds → MaySplit f set ds a → IsMark f set i ds d.guide.mark → d.trail.decisions.items ≡ ds ++ (Atom a s ∷ []) → IsDescent targets f set i d
atom_on targets f set i d ds a s n z w m k e =
    record {
      sized = z;
      way = subst (IsWay targets f set (root f)) (sym e) (way_more targets f set ds (Atom a s) w (record { fine = m.fine; rule = m.rule }));
      ready = subst (λ (es : List Decision). IsReady f set i es d.guide.mark) (sym e) (child_ready f set i ds d.guide.mark a s n m.fine k);
    }

-- behind a bound at a gap
pub bound_on : (targets : ℕ → ℤ) (f : Formula) (set : ℕ → Bool) (i : Index) (d : Descent) (ds : List Decision) (kept : Kept) (e : Decision) → length d.trail.counts.items ≡ length f.atoms → IsWay targets f set (root f) ds → IsComplete f set ds → IsMark f set i ds d.guide.mark → KeepsGap targets (rows_on f.atoms ds) kept × (kept.gap.variable < f.terms) → (e ≡ AtMost kept.gap.variable kept.gap.below true) ⊎ (e ≡ AtMost kept.gap.variable kept.gap.below false) → d.trail.decisions.items ≡ ds ++ (e ∷ []) → IsDescent targets f set i d
bound_on targets f set i d ds kept e z w c k g sides h = by_side sides
  where
    gap : HasGap targets f set (path_of f ds) kept.gap.variable kept.gap.below
    gap = record { kept = kept; bound = gap_may targets f set ds kept c g; variable = refl; below = refl }

    on : (s : Bool) → e ≡ AtMost kept.gap.variable kept.gap.below s → IsDescent targets f set i d
    on s q =
        let r : d.trail.decisions.items ≡ ds ++ (AtMost kept.gap.variable kept.gap.below s ∷ []) = subst (λ (y : Decision). d.trail.decisions.items ≡ ds ++ (y ∷ [])) q h in
        record {
          sized = z;
          way = subst (IsWay targets f set (root f)) (sym r) (way_more targets f set ds (AtMost kept.gap.variable kept.gap.below s) w gap);
          ready = subst (λ (es : List Decision). IsReady f set i es d.guide.mark) (sym r) (bound_child f set i ds d.guide.mark kept.gap.variable kept.gap.below s c.fine k);
        }

    by_side : (e ≡ AtMost kept.gap.variable kept.gap.below true) ⊎ (e ≡ AtMost kept.gap.variable kept.gap.below false) → IsDescent targets f set i d
    by_side (inl q) = on true q
    by_side (inr q) = on false q

-- what the search may answer at the end of a walk
pub ended : (targets : ℕ → ℤ) (f : Formula) (set : ℕ → Bool) (budget : Budget) (d : Descent) (halt : Halt) → IsEndOf targets f set d.trail.decisions.items → IsHalt targets (rows_on f.atoms d.trail.decisions.items) budget.rows halt → IsOutcome targets f set budget (outcome_of d.trail.decisions halt)
ended targets f set budget d (Point order spots) e h = record {
  way = e.way;
  complete = e.complete;
  once = way_once targets f set d.trail.decisions.items e.way;
  solved = h.0;
  point = h.1;
}
ended targets f set budget d (Rows order) e h = (e, h)
ended targets f set budget d (Range beyond) e h = (e, h)
