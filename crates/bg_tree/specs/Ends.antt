-- What the rows of a path tell that decides every atom.
use Rattle.std.specs.Prelude.{◌≡◌, ℕ, ℤ, ◌<◌, Bool, true, false, List, [], map, Some, Vec}
use Rattle.std.specs.declared.alloc.Global.{Global}
use Rattle.bg_rows.specs.Rows.{RowOf, row_of}
use Rattle.bg_rows.specs.Steps.{derives}
use Rattle.bg_elim.specs.Kept.{FillBudget, LeavesRange}
use Rattle.bg_elim.specs.Answers.{SolvedBy}
use Rattle.bg_point.specs.Points.{IsPoint, IsFar}
use Rattle.bg_formula.specs.Atoms.{AtomOf, IsTruth, at}
use Rattle.bg_formula.specs.Formulas.{Formula}
use Rattle.bg_formula.specs.Meaning.{Valuation}
use Rattle.bg_cert.specs.declared.cert.Decision.{Decision}
use Rattle.bg_cert.specs.Paths.{decides, rows_on}
use Rattle.bg_cert.specs.Certs.{root}
use Rattle.bg_pick.specs.Picks.{IsComplete}
use Rattle.bg_tree.specs.declared.outcome.Leaf.{Leaf}
use Rattle.bg_tree.specs.declared.outcome.Beyond.{Beyond}
use Rattle.bg_tree.specs.declared.outcome.Beyond.TheVariants.{Elimination, Value}
use Rattle.bg_tree.specs.declared.outcome.Halt.{Halt}
use Rattle.bg_tree.specs.declared.outcome.Halt.TheVariants.{Point, Rows, Range}
use Rattle.bg_tree.specs.declared.outcome.End.{End}
use Rattle.bg_tree.specs.declared.outcome.End.TheVariants.{Refuted, Split, Halted}
use Rattle.bg_tree.specs.declared.outcome.Outcome.{Outcome}
use Rattle.bg_tree.specs.declared.outcome.Why.TheVariants.{Rows as ByRows, Range as ByRange}
use Rattle.bg_tree.specs.declared.outcome.Outcome.TheVariants.{Leaf as Found, Unknown}
use Rattle.bg_tree.specs.Once.{IsOnce}
pub use Rattle.bg_tree.specs.Gaps.{KeepsGap}
use Rattle.bg_tree.specs.Ways.{IsWay}

-- an operation of a further elimination, or of the next near value, leaves the range
abbrev pub IsBeyond : (ℕ → ℤ) → List RowOf → Beyond → Type 0
IsBeyond targets given (Elimination o f) =
    LeavesRange given o.variables.items o.reasons.items f.first f.second f.variable f.operation
IsBeyond targets given (Value o spots far) =
    SolvedBy given o × IsFar targets o.variables.items (map row_of o.rows.items) spots.items far.variable far.row far.operation

-- a near point, the budget's number of different rows, or an operation that leaves the range
abbrev pub IsHalt : (ℕ → ℤ) → List RowOf → ℕ → Halt → Type 0
IsHalt targets given budget (Point o spots) = SolvedBy given o × IsPoint targets o.variables.items (map row_of o.rows.items) spots.items
IsHalt targets given budget (Rows o) = FillBudget given budget o.variables.items o.reasons.items
IsHalt targets given budget (Range beyond) = IsBeyond targets given beyond

-- a derivation of a false row, a gap at one of the first n terms, or an end
abbrev pub IsEnd : (ℕ → ℤ) → List RowOf → ℕ → ℕ → End → Type 0
IsEnd targets given n budget (Refuted steps) = derives given [] false steps.items ≡ true
IsEnd targets given n budget (Split k) = KeepsGap targets given k × (k.gap.variable < n)
IsEnd targets given n budget (Halted halt) = IsHalt targets given budget halt

-- the same where an order solves the rows
abbrev pub IsPlacedEnd : (ℕ → ℤ) → List RowOf → End → Type 0
IsPlacedEnd targets given (Refuted steps) = ⊥
IsPlacedEnd targets given (Split k) = KeepsGap targets given k
IsPlacedEnd targets given (Halted (Rows o)) = ⊥
IsPlacedEnd targets given (Halted (Range (Elimination o f))) = ⊥
IsPlacedEnd targets given (Halted (Point o spots)) = IsHalt targets given 0 (Point o spots)
IsPlacedEnd targets given (Halted (Range (Value o spots far))) = IsBeyond targets given (Value o spots far)

-- where the search ends at a path
abbrev pub outcome_of : Vec Decision Global → Halt → Outcome
outcome_of path (Point order spots) = Found (record { path = path; order = order; spots = spots })
outcome_of path (Rows order) = Unknown (ByRows path order)
outcome_of path (Range beyond) = Unknown (ByRange path beyond)

-- a complete leaf: a path that a search may go decides every atom, none both ways, nothing is false, and a near point meets the path's rows
pub record IsLeaf (targets : ℕ → ℤ) (f : Formula) (set : ℕ → Bool) (l : Leaf) : Type 0 where
  pub way : IsWay targets f set (root f) l.path.items
  pub complete : IsComplete f set l.path.items
  pub once : IsOnce l.path.items
  pub solved : SolvedBy (rows_on f.atoms l.path.items) l.order
  pub point : IsPoint targets l.order.variables.items (map row_of l.order.rows.items) l.spots.items

-- a valuation agrees with the truth variables that a path decides
abbrev pub TruthsAgree : Valuation → List AtomOf → List Decision → Type 0
TruthsAgree v atoms ds =
    (a x : ℕ) (s : Bool) → at atoms a ≡ Some (IsTruth x) → decides a s ds ≡ true → v.truths x ≡ s
