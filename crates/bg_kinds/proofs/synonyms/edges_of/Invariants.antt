use Rattle.std.proofs.Common.{◌≡◌, ◌++◌, map, drop}
use Rattle.bg_graph.specs.Graphs.{graph_of}
use Rattle.bg_ast.specs.Views.{type_name_of}
use Rattle.bg_kinds.specs.Synonyms.{synonym_graph}
use Rattle.bg_kinds.proofs.synonyms.edges_of.Given as goal

abbrev pub invariant-loop-d : goal.invariant-loop-d
invariant-loop-d l = (graph_of l.made.items ++ synonym_graph (map type_name_of (drop l.d-index l.ds))) ≡ synonym_graph (map type_name_of l.ds)
