-- Paths: what each edge keeps, each path keeps.
use Rattle.std.proofs.Common.{ℕ, ◌<◌, List, slice_index, arith}
use Rattle.bg_graph.specs.Graphs.{Graph, IsEdge, Reaches, IsRanking, IsAcyclic}
use Rattle.bg_graph.specs.Graphs.Reaches.{edge, through}

module _ (g : Graph) where
  -- one edge more at the end
  pub longer : (f m t : ℕ) → Reaches g f m → IsEdge g m t → Reaches g f t
  longer f m t (edge _ _ d) e = through f m t d (edge m t e)
  longer f m t (through _ n _ d p) e = through f n t d (longer n m t p e)

  pub joined : (f m t : ℕ) → Reaches g f m → Reaches g m t → Reaches g f t
  joined f m t p (edge _ _ e) = longer f m t p e
  joined f m t p (through _ n _ e q) = joined f n t (longer f m n p e) q

module _ (g : Graph) (ranks : List ℕ) (h : (f t : ℕ) → IsEdge g f t → slice_index ranks t < slice_index ranks f) where
  falling : (f t : ℕ) → Reaches g f t → slice_index ranks t < slice_index ranks f
  falling f t (edge _ _ e) = h f t e
  falling f t (through _ m _ e p) = let a = h f m e in let b = falling m t p in omega arith

pub ranked_acyclic : (g : Graph) (ranks : List ℕ) → IsRanking g ranks → IsAcyclic g
ranked_acyclic g ranks k f p = let l = falling g ranks k.falls f f p in absurd (omega arith)
