-- Directed graphs: for each node, counted from 0, the list of the nodes that it names.
use Rattle.std.specs.Prelude.{◌≡◌, ℕ, ◌<◌, List, [], length, map, slice_index, slice_index_or, Contains, Vec}
use Rattle.std.specs.declared.alloc.Global.{Global}

abbrev pub Graph : Type 0
Graph = List (List ℕ)

-- how the program's lists are read
abbrev pub graph_of : List (Vec ℕ Global) → Graph
graph_of rows = map (λ row. row.items) rows

-- the nodes that f names: none where there is no such node
abbrev pub targets : Graph → ℕ → List ℕ
targets g f = slice_index_or g f []

-- an edge goes from f to t
abbrev pub IsEdge : Graph → ℕ → ℕ → Type 0
IsEdge g f t = Contains (targets g f) t

-- each edge goes to a node of the graph
abbrev pub IsGraph : Graph → Type 0
IsGraph g = (f t : ℕ) → IsEdge g f t → t < length g

-- f reaches t: by a path of one edge or more
pub data Reaches (g : Graph) : ℕ → ℕ → Type 0 where
  edge : (f t : ℕ) → IsEdge g f t → Reaches g f t
  through : (f m t : ℕ) → IsEdge g f m → Reaches g m t → Reaches g f t

-- no node reaches itself
abbrev pub IsAcyclic : Graph → Type 0
IsAcyclic g = (f : ℕ) → Reaches g f f → ⊥

-- f reaches itself, and no smaller node does
abbrev pub IsFirstOnCycle : Graph → ℕ → Type 0
IsFirstOnCycle g f = Reaches g f f × ((e : ℕ) → e < f → Reaches g e e → ⊥)

-- a rank for each node, below the number of nodes; each edge goes from a node to one of smaller rank
pub record IsRanking (g : Graph) (ranks : List ℕ) : Type 0 where
  pub long : length ranks ≡ length g
  pub small : (f : ℕ) → f < length g → slice_index ranks f < length g
  pub falls : (f t : ℕ) → IsEdge g f t → slice_index ranks t < slice_index ranks f
