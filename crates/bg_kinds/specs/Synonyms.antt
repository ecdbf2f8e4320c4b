-- Which declared types a synonym names, and cyclic ones.
use Rattle.std.specs.Prelude.{◌≡◌, ℕ, List, [], ◌∷◌, ◌++◌, map, Option, Some, None, slice_get}
use Rattle.bg_graph.specs.Graphs.{Graph, IsFirstOnCycle}
use Rattle.bg_ast.specs.Values as v
use Rattle.bg_ast.specs.Resolved as r
use Rattle.bg_kinds.specs.Kinds.{Kind, kind_in, synonym_or}
use Rattle.bg_kinds.specs.Faults.{Fault, CyclicSynonym}

abbrev mutual
  -- the declared types that a written type names
  pub mentions : r.Ty → List ℕ
  mentions (r.DeclaredType p k) = k ∷ []
  mentions (r.InParens p t) = mentions t
  mentions (r.MapType is t) = mentioned_in is ++ mentions t
  mentions _ = []

  pub mentioned_in : r.Indices → List ℕ
  mentioned_in r.NoIndex = []
  mentioned_in (r.Index p ts is) = all_mentions ts ++ mentioned_in is

  pub all_mentions : r.Tys → List ℕ
  all_mentions r.NoType = []
  all_mentions (r.OneType t ts) = mentions t ++ all_mentions ts

abbrev pub synonym_mentions : Option r.Ty → List ℕ
synonym_mentions None = []
synonym_mentions (Some t) = mentions t

abbrev pub type_mentions : r.TypeName → List ℕ
type_mentions d = synonym_mentions d.synonym

-- an edge goes from a synonym to each declared type that its right side names
abbrev pub synonym_graph : List r.TypeName → Graph
synonym_graph ds = map type_mentions ds

-- the first synonym that reaches itself, at its name
pub record IsCyclic (ds : List r.TypeName) (fault : Fault) : Type 0 where
  pub number : ℕ
  pub declared : r.TypeName
  pub is_there : slice_get ds number ≡ Some declared
  pub first : IsFirstOnCycle (synonym_graph ds) number
  pub named : fault ≡ CyclicSynonym declared.name

-- a declared type stands for itself, a synonym for what its right side stands for
abbrev pub IsUnfolded : List r.TypeName → (ℕ → Kind) → Type 0
IsUnfolded ds named = (k : ℕ) → named k ≡ synonym_or (Some (v.UserTy k)) (kind_in named) (slice_get ds k)
