-- What is known of functions' bodies: how many nodes they have of their own, and how often they read each parameter.
use Rattle.std.specs.Prelude.{◌≡◌, ℕ, ◌+◌, ◌*◌, List, [], ◌∷◌, Option, Some, None, slice_get}
use Rattle.bg_ast.specs.Resolved.{Ex, Fun}
use Rattle.bg_places.specs.Counts.{capped, nodes}
use Rattle.bg_expanded.specs.Weights.{Weigher, plain, weight, opened_weigher}
use Rattle.bg_expanded.specs.declared.count.Count.{Count}

-- equal, as far as one is too many
abbrev pub IsAlike : ℕ → ℕ → Type 0
IsAlike a b = capped a ≡ capped b

-- each so often; what is past the second list counts 1
abbrev pub product : List ℕ → List ℕ → ℕ
product [] ws = 0
product (r ∷ rs) [] = r + product rs []
product (r ∷ rs) (w ∷ ws) = r * w + product rs ws

-- each so often, as far as both lists go
abbrev pub paired : List ℕ → List ℕ → ℕ
paired [] ws = 0
paired (r ∷ rs) [] = 0
paired (r ∷ rs) (w ∷ ws) = r * w + paired rs ws

-- the nodes that were counted, where the parameters have so many
abbrev pub worth : Count → List ℕ → ℕ
worth c ws = c.own + product c.reads.items ws

abbrev pub worth_of : Option Count → List ℕ → ℕ
worth_of None ws = plain ws
worth_of (Some c) ws = worth c ws

abbrev pub known_in : Option (Option Count) → Option Count
known_in None = None
known_in (Some c) = c

-- applications by what a table knows of the functions' bodies
abbrev pub weigher : List (Option Count) → Weigher
weigher table f ws = worth_of (known_in (slice_get table f)) ws

-- so many nodes were added, whatever the parameters have
abbrev pub Adds : Count → Count → (List ℕ → ℕ) → Type 0
Adds old new n = (ws : List ℕ) → IsAlike (worth new ws) (worth old ws + n ws)

-- a table knows bodies that are opened so deep
abbrev pub IsTable : List Fun → ℕ → List (Option Count) → Type 0
IsTable fs depth table = (f : ℕ) (ws : List ℕ) → IsAlike (weigher table f ws) (opened_weigher fs depth f ws)

-- the nodes of expressions that this changes are those that a table tells
abbrev pub IsCountOf : List (Option Count) → (Ex → Ex) → Type 0
IsCountOf table o = (e : Ex) → IsAlike (nodes (o e)) (weight (weigher table) [] e)

-- so many nodes of changed expressions were added, where each parameter is one
abbrev pub AddsNodes : List (Option Count) → Count → Count → ((Ex → Ex) → ℕ) → Type 0
AddsNodes table old new n = (o : Ex → Ex) → IsCountOf table o → IsAlike (worth new []) (worth old [] + n o)
