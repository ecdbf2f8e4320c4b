-- Which inner nodes of a tree count: each of which not exactly one child is a closed leaf.
use Rattle.std.specs.Prelude.{◌≡◌, ℕ, ◌+◌, ◌*◌, ◌≤◌, Bool, true, false, cond, List, [], ◌∷◌, ◌⊎◌}
use Rattle.bg_formula.specs.Meaning.{same}
use Rattle.bg_cert.specs.declared.cert.Node.TheVariants.{Split}
use Rattle.bg_tree.specs.declared.part.Part.{Part}
use Rattle.bg_tree.specs.declared.part.Part.TheVariants.{Open, Plain, Bound}

-- what is known of the other child of an open path's node: nothing at the root and at first children; at second children
-- whether the first is a closed leaf
pub data Beside : Type 0 where
  Alone : Beside
  After : Bool → Beside

-- whether a node counts whose second child is a closed leaf or isn't one
abbrev pub cost : Beside → Bool → ℕ
cost Alone c = 0
cost (After b) c = cond (same b c) 1 0

-- where a first child is a closed leaf, the second is told
abbrev pub passed : Beside → Bool → List Beside → List Beside
passed Alone true (After b ∷ bs) = After true ∷ bs
passed _ c bs = bs

-- how many nodes count of those that the parts' second children tell, over the open paths
abbrev pub counted : List Beside → List Part → ℕ
counted [] parts = 0
counted (b ∷ bs) [] = 0
counted (b ∷ bs) (Open ∷ rest) = cost b false + counted (passed b false bs) rest
counted (b ∷ bs) (Plain (Split a) ∷ rest) = cost b false + counted (Alone ∷ After false ∷ bs) rest
counted (b ∷ bs) (Bound k ∷ rest) = cost b false + counted (Alone ∷ After false ∷ bs) rest
counted (b ∷ bs) (Plain leaf ∷ rest) = cost b true + counted (passed b true bs) rest

-- the budget is used up: so many nodes count, and there are at most 20 times as many inner nodes; or there are just as many of these
abbrev pub IsUsedUp : ℕ → ℕ → ℕ → Type 0
IsUsedUp budget inner c = ((c ≡ budget) × (inner ≤ 20 * budget)) ⊎ ((inner ≡ 20 * budget) × (c ≤ budget))
