-- Derivations from picked rows.
use Rattle.std.proofs.Common.{◌≡◌, ℕ, zero, suc, Bool, true, false, List, [], ◌∷◌, ◌++◌, map, get_or, refl, ◌∙◌}
use Rattle.std.specs.Prelude.{Option, Some, None}
use Rattle.bg_rows.specs.declared.step.Step.{Step}
use Rattle.bg_rows.specs.declared.step.Step.TheVariants.{Path, Sum, Tight}
use Rattle.bg_rows.specs.Rows.{RowOf, is_false}
use Rattle.bg_rows.specs.Steps.{row_at, step_row, derives}
use Rattle.bg_conflict.specs.Picked.{ArePicked, renumbered}

number_at : (given : List RowOf) (ns : List ℕ) (picked : List RowOf) (k d : ℕ) (r : RowOf) → ArePicked given ns picked → row_at picked k ≡ Some r → row_at given (get_or ns k d) ≡ Some r
number_at given [] [] k d r p h = absurd (cc)
number_at given [] (q ∷ picked) k d r p h = absurd p
number_at given (n ∷ ns) [] k d r p h = absurd p
number_at given (n ∷ ns) (q ∷ picked) zero d r p h = p.0 ∙ h
number_at given (n ∷ ns) (q ∷ picked) (suc k) d r p h = number_at given ns picked k d r p.1 h

step_from : (given : List RowOf) (ns : List ℕ) (picked made : List RowOf) (s : Step) (r : RowOf) → ArePicked given ns picked → step_row picked made s ≡ Some r → step_row given made (renumbered ns s) ≡ Some r
step_from given ns picked made (Path k) r p h = number_at given ns picked k k r p h
step_from given ns picked made (Sum i a j b) r p h = h
step_from given ns picked made (Tight i) r p h = h

-- a derivation from picked rows is one from those they were picked from
pub derives_from : (given : List RowOf) (ns : List ℕ) (picked made : List RowOf) (last : Bool) (ss : List Step) → ArePicked given ns picked → derives picked made last ss ≡ true → derives given made last (map (renumbered ns) ss) ≡ true
derives_from given ns picked made last [] p h = h
derives_from given ns picked made last (s ∷ ss) p h = by_row (λ r g. derives_from given ns picked (made ++ (r ∷ [])) (is_false r) ss p g) (step_row picked made s) (λ r e. step_from given ns picked made s r p e) h
  where
    by_row : ((r : RowOf) → derives picked (made ++ (r ∷ [])) (is_false r) ss ≡ true → derives given (made ++ (r ∷ [])) (is_false r) (map (renumbered ns) ss) ≡ true) → (x : Option RowOf) → ((r : RowOf) → x ≡ Some r → step_row given made (renumbered ns s) ≡ Some r) → (elim x [ None ↦ false | Some r ↦ derives picked (made ++ (r ∷ [])) (is_false r) ss ]) ≡ true → (elim (step_row given made (renumbered ns s)) [ None ↦ false | Some r ↦ derives given (made ++ (r ∷ [])) (is_false r) (map (renumbered ns) ss) ]) ≡ true
    by_row f None e g = absurd (cc)
    by_row f (Some r) e g = rw (e r refl) (f r g)
