-- The trees that the search makes.
use Rattle.std.specs.Prelude.{◌≡◌, ℕ, ℤ, ◌+◌, ◌-◌, ◌*◌, ◌^◌, ◌<◌, ◌⊎◌, Bool, true, false, List, [], ◌∷◌, ◌++◌, map, reverse, Option, Some, None}
use Rattle.bg_formula.specs.Formulas.{Formula}
use Rattle.bg_cert.specs.declared.cert.Node.TheVariants.{Split}
use Rattle.bg_cert.specs.declared.cert.Decision.TheVariants.{Atom, AtMost}
use Rattle.bg_cert.specs.Paths.{PathOf, rows_on, with_decision}
use Rattle.bg_cert.specs.Certs.{NodeOf, Bounds, node_of, root, cert_of, closes, accepts, Accepts}
use Rattle.bg_cert.specs.declared.walk.Walk.{Walk}
use Rattle.bg_cert.specs.Walks.{no_instance, stack_of, others_of, IsWalk, paths_open, decided_on, atoms_on}
use Rattle.bg_elim.specs.Kept.{FillBudget}
use Rattle.bg_pick.specs.declared.index.Index.{Index}
use Rattle.bg_pick.specs.declared.guide.Guide.{Guide}
use Rattle.bg_pick.specs.Marks.{AllReady}
use Rattle.bg_pick.specs.Picks.{IsComplete}
use Rattle.bg_tree.specs.declared.part.Part.{Part}
use Rattle.bg_tree.specs.declared.part.Part.TheVariants.{Open, Plain, Bound}
use Rattle.bg_tree.specs.declared.step.Search.{Search}
use Rattle.bg_tree.specs.declared.outcome.Budget.{Budget}
use Rattle.bg_tree.specs.declared.outcome.Halt.{Halt}
use Rattle.bg_tree.specs.declared.outcome.Outcome.{Outcome}
use Rattle.bg_tree.specs.declared.outcome.Why.{Why}
use Rattle.bg_tree.specs.declared.outcome.Why.TheVariants.{Nodes, Rows, Range}
use Rattle.bg_tree.specs.declared.outcome.Outcome.TheVariants.{Closed, Leaf, Unknown}
pub use Rattle.bg_tree.specs.Ways.{IsFine, IsSplit, IsBound}
use Rattle.bg_tree.specs.Ways.{ArePaths, IsEndOf}
use Rattle.bg_tree.specs.Ends.{IsBeyond, IsHalt, IsLeaf}
use Rattle.bg_tree.specs.Counts.{Alone, counted, IsUsedUp}
use Rattle.bg_tree.specs.Books.{besides, value, IsBook, IsLate}

-- the parts are one tree for each path, with n inner nodes together, and an open leaf where none was `seen` before
abbrev pub AreTrees : (ℕ → ℤ) → Formula → (ℕ → Bool) → ℕ → Bool → List PathOf → List Part → Type 0
AreTrees targets f set n seen [] [] = (n ≡ 0) × (seen ≡ true)
AreTrees targets f set n seen [] (part ∷ rest) = ⊥
AreTrees targets f set n seen (p ∷ ps) [] = ⊥
AreTrees targets f set n seen (p ∷ ps) (Open ∷ rest) = IsFine f set p × AreTrees targets f set n true ps rest
AreTrees targets f set n seen (p ∷ ps) (Plain (Split a) ∷ rest) =
    IsSplit f set p a × (0 < n) ×
    AreTrees targets f set (n - 1) seen (with_decision p (Atom a true) ∷ with_decision p (Atom a false) ∷ ps) rest
AreTrees targets f set n seen (p ∷ ps) (Bound k ∷ rest) =
    IsBound targets f set p k × (0 < n) ×
    AreTrees targets f set (n - 1) seen (with_decision p (AtMost k.gap.variable k.gap.below true) ∷ with_decision p (AtMost k.gap.variable k.gap.below false) ∷ ps) rest
AreTrees targets f set n seen (p ∷ ps) (Plain leaf ∷ rest) = (closes f set p (node_of leaf) ≡ true) × AreTrees targets f set n seen ps rest

-- the nodes of a tree, in order
abbrev pub nodes_of : List Part → List NodeOf
nodes_of [] = []
nodes_of (Open ∷ rest) = nodes_of rest
nodes_of (Plain n ∷ rest) = node_of n ∷ nodes_of rest
nodes_of (Bound k ∷ rest) = Bounds k.gap.variable k.gap.below ∷ nodes_of rest

-- what is kept of a formula with the units of a set that is left unknown: a tree that uses the budget of nodes up; or a path that a
-- search may go, which decides every atom and makes nothing false, with the budget's number of rows, or an operation that leaves the range
abbrev pub IsCause : (ℕ → ℤ) → Formula → (ℕ → Bool) → Budget → Why → Type 0
IsCause targets f set budget (Nodes parts kept) =
    (kept ≡ budget.nodes) × (n : ℕ) × (AreTrees targets f set n false (root f ∷ []) parts.items × IsUsedUp budget.nodes n (counted (Alone ∷ []) parts.items))
IsCause targets f set budget (Rows path o) =
    IsEndOf targets f set path.items × FillBudget (rows_on f.atoms path.items) budget.rows o.variables.items o.reasons.items
IsCause targets f set budget (Range path beyond) =
    IsEndOf targets f set path.items × IsBeyond targets (rows_on f.atoms path.items) beyond

-- what each answer of the search claims
abbrev pub IsOutcome : (ℕ → ℤ) → Formula → (ℕ → Bool) → Budget → Outcome → Type 0
IsOutcome targets f set budget (Closed cert) = Accepts f set no_instance (cert_of cert)
IsOutcome targets f set budget (Leaf leaf) = IsLeaf targets f set leaf
IsOutcome targets f set budget (Unknown why) = IsCause targets f set budget why

-- ---- steps

-- the marks of the paths that wait fit them
abbrev pub OthersReady : Formula → (ℕ → Bool) → Index → Walk → Guide → Type 0
OthersReady f set i walk guide = AllReady f set i (others_of f walk) (reverse guide.marks.items)

-- what bounds the steps
abbrev pub work : Search → ℕ
work s = 2 * s.inner + paths_open s.walk

abbrev pub inner_of : Part → ℕ
inner_of Open = 0
inner_of (Plain (Split a)) = 1
inner_of (Plain leaf) = 0
inner_of (Bound k) = 1

-- no more nodes can count, or there can be no more inner ones
abbrev pub IsSpent : Search → Type 0
IsSpent s = (s.book.left ≡ 0) ⊎ (s.inner ≡ 0)

-- the search knows which nodes may count yet; once a leaf was left open, none may, and all that waits are second children
pub record KeepsCount (f : Formula) (set : ℕ → Bool) (s : Search) : Type 0 where
  pub book : IsBook f set (stack_of f s.walk) s.book
  pub small : value s.book < 2 ^ 32
  pub spent : s.seen ≡ true → IsSpent s
  pub late : s.seen ≡ true → IsLate (stack_of f s.walk) s.book.head

-- what follows a part is accepted for the paths behind it exactly where it is with the part for those before it
abbrev pub Continues : Formula → (ℕ → Bool) → Search → Search → Part → Type 0
Continues f set old new part =
    (old.seen ≡ false) ×
    ((rest : List NodeOf) → accepts f set no_instance (stack_of f old.walk) (nodes_of (part ∷ []) ++ rest) ≡ accepts f set no_instance (stack_of f new.walk) rest)

-- one more part is made, and what follows it says of the paths after what it says with the part of those before
pub record Moves (targets : ℕ → ℤ) (f : Formula) (set : ℕ → Bool) (old new : Search) : Type 0 where
  pub walks : IsWalk new.walk
  pub sized : atoms_on new.walk ≡ atoms_on old.walk
  pub part : Part
  pub made : new.parts.items ≡ old.parts.items ++ (part ∷ [])
  pub tells : (n : ℕ) (rest : List Part) → AreTrees targets f set n new.seen (stack_of f new.walk) rest → AreTrees targets f set (n + inner_of part) old.seen (stack_of f old.walk) (part ∷ rest)
  pub inner : new.inner + inner_of part ≡ old.inner
  pub counts : (rest : List Part) → counted (besides (stack_of f old.walk) old.book) (part ∷ rest) + value new.book ≡ counted (besides (stack_of f new.walk) new.book) rest + value old.book
  pub whole : new.seen ≡ false → Continues f set old new part
  pub paths : ArePaths targets f set (stack_of f old.walk) → ArePaths targets f set (stack_of f new.walk)
  pub smaller : work new < work old
  pub kept : KeepsCount f set new

-- a look at what another decision makes false changes nothing
pub record IsSame (old new : Search) : Type 0 where
  pub walks : IsWalk new.walk
  pub sized : atoms_on new.walk ≡ atoms_on old.walk
  pub decided : decided_on new.walk ≡ decided_on old.walk
  pub waiting : new.walk.waiting ≡ old.walk.waiting
  pub is_open : new.walk.is_open ≡ old.walk.is_open
  pub parts : new.parts ≡ old.parts
  pub inner : new.inner ≡ old.inner
  pub book : new.book ≡ old.book
  pub seen : new.seen ≡ old.seen

-- a step: nothing changed at the end, else one more part
abbrev pub Steps : (ℕ → ℤ) → Formula → (ℕ → Bool) → ℕ → Search → Search → Option Halt → Type 0
Steps targets f set rows old new (Some halt) =
    IsComplete f set (decided_on old.walk) × IsHalt targets (rows_on f.atoms (decided_on old.walk)) rows halt × (new ≡ old)
Steps targets f set rows old new None = Moves targets f set old new
