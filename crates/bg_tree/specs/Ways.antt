-- Paths of the search: each decision is one that a node may make.
use Rattle.std.specs.Prelude.{◌≡◌, ℕ, ◌<◌, Bool, true, false, List, [], ◌∷◌, ◌++◌, length, ℤ}
use Rattle.bg_formula.specs.Formulas.{Formula}
use Rattle.bg_cert.specs.declared.cert.Decision.{Decision}
use Rattle.bg_cert.specs.declared.cert.Decision.TheVariants.{Atom, AtMost}
use Rattle.bg_cert.specs.Paths.{PathOf, rows_on, with_decision}
use Rattle.bg_cert.specs.Certs.{root}
use Rattle.bg_cert.specs.Causes.{any_false, may_split, may_bound, units_of}
use Rattle.bg_pick.specs.Picks.{IsComplete}
use Rattle.bg_tree.specs.declared.part.Kept.{Kept}
use Rattle.bg_tree.specs.Gaps.{KeepsGap}

-- no clause and no unit of the set is false on the path
abbrev pub IsFine : Formula → (ℕ → Bool) → PathOf → Type 0
IsFine f set p = any_false p.decided (p.clauses ++ units_of f set) ≡ false

-- an atom is split by the rule
pub record IsSplit (f : Formula) (set : ℕ → Bool) (p : PathOf) (a : ℕ) : Type 0 where
  pub fine : IsFine f set p
  pub rule : may_split (length p.atoms) a p.decided (p.clauses ++ units_of f set) ≡ true

-- a new bound of a term that is there is split where all is decided, at a gap of the path's rows
pub record IsBound (targets : ℕ → ℤ) (f : Formula) (set : ℕ → Bool) (p : PathOf) (k : Kept) : Type 0 where
  pub fine : IsFine f set p
  pub there : k.gap.variable < f.terms
  pub rule : may_bound (length p.atoms) k.gap.variable k.gap.below p.decided ≡ true
  pub gap : KeepsGap targets (rows_on p.atoms p.decided) k

-- a gap at which this bound may be split on the path
pub record HasGap (targets : ℕ → ℤ) (f : Formula) (set : ℕ → Bool) (p : PathOf) (x : ℕ) (k : ℤ) : Type 0 where
  pub kept : Kept
  pub bound : IsBound targets f set p kept
  pub variable : kept.gap.variable ≡ x
  pub below : kept.gap.below ≡ k

-- a node of the search may make this decision on the path
abbrev pub MayDecide : (ℕ → ℤ) → Formula → (ℕ → Bool) → PathOf → Decision → Type 0
MayDecide targets f set p (Atom a s) = IsSplit f set p a
MayDecide targets f set p (AtMost x k s) = HasGap targets f set p x k

-- each of these decisions may be made on the path behind those before it
abbrev pub IsWay : (ℕ → ℤ) → Formula → (ℕ → Bool) → PathOf → List Decision → Type 0
IsWay targets f set p [] = Unit {0}
IsWay targets f set p (d ∷ ds) = MayDecide targets f set p d × IsWay targets f set (with_decision p d) ds

-- a path that is kept where the search ends: one that a search may go, which decides every atom and makes nothing false
pub record IsEndOf (targets : ℕ → ℤ) (f : Formula) (set : ℕ → Bool) (ds : List Decision) : Type 0 where
  pub way : IsWay targets f set (root f) ds
  pub complete : IsComplete f set ds

-- each open path is one that a search may go
abbrev pub ArePaths : (ℕ → ℤ) → Formula → (ℕ → Bool) → List PathOf → Type 0
ArePaths targets f set [] = Unit {0}
ArePaths targets f set (p ∷ ps) = IsWay targets f set (root f) p.decided × ArePaths targets f set ps
