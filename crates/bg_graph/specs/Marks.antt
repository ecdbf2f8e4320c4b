-- How far a walk along the edges has come with each node.
use Rattle.std.specs.Prelude.{◌≡◌, ℕ, ◌<◌, ◌+◌, List, length, slice_index_or}
use Rattle.std.specs.List.{sum_by}
use Rattle.bg_graph.specs.declared.marks.Mark.{Mark}
use Rattle.bg_graph.specs.declared.marks.Mark.TheVariants.{Fresh, Open, Done}
use Rattle.bg_graph.specs.declared.visit.Visit.{Visit}
use Rattle.bg_graph.specs.declared.visit.Visit.TheVariants.{Ended, Cycle}
use Rattle.bg_graph.specs.Graphs.{Graph, IsEdge, Reaches}

-- the mark of a node: fresh where there is no such node
abbrev pub mark_of : List Mark → ℕ → Mark
mark_of marks v = slice_index_or marks v Fresh

-- a node that is done has a rank
abbrev pub IsDone : List Mark → ℕ → Type 0
IsDone marks v = (r : ℕ) × (mark_of marks v ≡ Done r)

abbrev pub rank_of : Mark → ℕ
rank_of Fresh = 0
rank_of Open = 0
rank_of (Done r) = r

abbrev pub undone : Mark → ℕ
undone Fresh = 1
undone Open = 1
undone (Done r) = 0

abbrev pub unseen : Mark → ℕ
unseen Fresh = 1
unseen Open = 0
unseen (Done r) = 0

-- each edge of a node that is done goes to a node that is done, of smaller rank
abbrev pub Falls : Graph → List Mark → Type 0
Falls g marks = (v r t : ℕ) → mark_of marks v ≡ Done r → IsEdge g v t → (s : ℕ) × (mark_of marks t ≡ Done s) × (s < r)

-- the ranks that are given are those below next
pub record Settled (g : Graph) (marks : List Mark) (next : ℕ) : Type 0 where
  pub falls : Falls g marks
  pub below : (v r : ℕ) → mark_of marks v ≡ Done r → r < next
  pub counted : next + sum_by undone marks ≡ length g
  pub long : length marks ≡ length g

abbrev pub NoneOpen : List Mark → Type 0
NoneOpen marks = (v : ℕ) → mark_of marks v ≡ Open → ⊥

-- what is fresh was fresh before
abbrev pub StillFresh : List Mark → List Mark → Type 0
StillFresh before marks = (v : ℕ) → mark_of marks v ≡ Fresh → mark_of before v ≡ Fresh

-- a visit of a root: all that it reaches is done, or a node reaches itself
abbrev pub Visited : Graph → List Mark → List Mark → ℕ → Visit → Type 0
Visited g before marks root (Ended next) = Settled g marks next × NoneOpen marks × StillFresh before marks × (mark_of marks root ≡ Fresh → ⊥)
Visited g before marks root (Cycle t) = Reaches g t t
