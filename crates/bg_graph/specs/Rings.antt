-- A walk along the edges that finds which nodes reach themselves. A node is fresh, held, or settled; the held ones stand in a list,
-- which is cut into parts, by the places where these start: the nodes of a part reach each other.
use Rattle.std.specs.Prelude.{◌≡◌, ℕ, ◌<◌, ◌≤◌, ◌+◌, ◌-◌, ◌⊎◌, List, length, slice_index, slice_index_or, take, drop, Contains}
use Rattle.std.specs.List.{sum_by}
use Rattle.bg_graph.specs.declared.rings.Spot.{Spot}
use Rattle.bg_graph.specs.declared.rings.Spot.TheVariants.{Fresh, Held, Settled}
use Rattle.bg_graph.specs.Graphs.{Graph, IsEdge, Reaches}

-- the spot of a node: fresh where there is no such node
abbrev pub spot_of : List Spot → ℕ → Spot
spot_of spots v = slice_index_or spots v Fresh

abbrev pub fresh : Spot → ℕ
fresh Fresh = 1
fresh (Held i) = 0
fresh Settled = 0

-- each place is greater than those before
abbrev pub Rises : List ℕ → Type 0
Rises xs = (j k : ℕ) → j < k → k < length xs → slice_index xs j < slice_index xs k

-- xs are the first of ys
pub record IsFront (xs ys : List ℕ) : Type 0 where
  pub short : length xs ≤ length ys
  pub same : (k : ℕ) → k < length xs → slice_index xs k ≡ slice_index ys k

-- the row names a held node in front of this place
abbrev pub NamesBefore : List Spot → List ℕ → ℕ → Type 0
NamesBefore spots row b = (t : ℕ) × (i : ℕ) × Contains row t × (spot_of spots t ≡ Held i) × (i < b)

-- settled, or held where no part starts behind
abbrev pub IsInside : Spot → List ℕ → Type 0
IsInside spot starts = (spot ≡ Settled) ⊎ ((i : ℕ) × (spot ≡ Held i) × ((k : ℕ) → k < length starts → slice_index starts k ≤ i))

-- the part has more than one node, or the node of this row names itself
abbrev pub IsRing : List ℕ → List ℕ → ℕ → Type 0
IsRing part row node = (1 < length part) ⊎ Contains row node

-- the last part starts at this place
abbrev pub IsLast : List ℕ → ℕ → Type 0
IsLast starts place = (0 < length starts) × (slice_index starts (length starts - 1) ≡ place)

-- the last part is settled; first is the least of it, if it is a ring, and of the first before
pub record Closes (spots : List Spot) (held starts row : List ℕ) (node at first : ℕ) (spots' : List Spot) (held' starts' : List ℕ) (first' : ℕ) : Type 0 where
  pub front : IsFront starts' starts
  pub fewer_parts : length starts' + 1 ≡ length starts
  pub rest : held' ≡ take at held
  pub settled : (v : ℕ) → Contains (drop at held) v → v < length spots → spot_of spots' v ≡ Settled
  pub kept : (v : ℕ) → (Contains (drop at held) v → ⊥) → spot_of spots' v ≡ spot_of spots v
  pub fewer : sum_by fresh spots' ≤ sum_by fresh spots
  pub low : first' ≤ first
  pub least : IsRing (drop at held) row node → (v : ℕ) → Contains (drop at held) v → first' ≤ v
  pub one : (first' ≡ first) ⊎ (IsRing (drop at held) row node × Contains (drop at held) first')

-- between walks no node is held, settled nodes lead to settled ones, and first is the least of the settled ones that reach
-- themselves, or less and reaches itself
pub record Calm (g : Graph) (spots : List Spot) (first : ℕ) : Type 0 where
  pub free : (v i : ℕ) → spot_of spots v ≡ Held i → ⊥
  pub closed : (v t : ℕ) → spot_of spots v ≡ Settled → IsEdge g v t → spot_of spots t ≡ Settled
  pub least : (v : ℕ) → spot_of spots v ≡ Settled → Reaches g v v → first ≤ v
  pub reaches : Reaches g first first
  pub long : length spots ≡ length g

abbrev pub StillFresh : List Spot → List Spot → Type 0
StillFresh before spots = (v : ℕ) → spot_of spots v ≡ Fresh → spot_of before v ≡ Fresh
