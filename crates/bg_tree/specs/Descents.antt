-- A walk down along proposed values.
use Rattle.std.specs.Prelude.{◌≡◌, ℕ, ℤ, Bool, length}
use Rattle.bg_formula.specs.Formulas.{Formula}
use Rattle.bg_cert.specs.Paths.{rows_on}
use Rattle.bg_cert.specs.Certs.{root}
use Rattle.bg_pick.specs.declared.index.Index.{Index}
use Rattle.bg_pick.specs.Marks.{IsReady}
use Rattle.bg_tree.specs.declared.descent.Descent.{Descent}
use Rattle.bg_tree.specs.declared.descent.Turn.{Turn}
use Rattle.bg_tree.specs.declared.descent.Turn.TheVariants.{On, Lost, Ended}
use Rattle.bg_tree.specs.Ways.{IsWay, IsEndOf}
use Rattle.bg_tree.specs.Ends.{IsHalt}

-- the path is one that a search may go, its mark fits it, and its counts are of the formula's atoms
pub record IsDescent (targets : ℕ → ℤ) (f : Formula) (set : ℕ → Bool) (i : Index) (d : Descent) : Type 0 where
  pub sized : length d.trail.counts.items ≡ length f.atoms
  pub way : IsWay targets f set (root f) d.trail.decisions.items
  pub ready : IsReady f set i d.trail.decisions.items d.guide.mark

-- the walk goes on, or ends at a path that a search may keep
abbrev pub IsTurn : (ℕ → ℤ) → Formula → (ℕ → Bool) → Index → ℕ → Descent → Turn → Type 0
IsTurn targets f set i rows d On = IsDescent targets f set i d
IsTurn targets f set i rows d Lost = Unit {0}
IsTurn targets f set i rows d (Ended halt) = IsEndOf targets f set d.trail.decisions.items × IsHalt targets (rows_on f.atoms d.trail.decisions.items) rows halt
