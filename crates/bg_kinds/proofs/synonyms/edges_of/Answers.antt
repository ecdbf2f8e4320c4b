use Rattle.std.proofs.Common.{sym, ◌∙◌, append-nil, map, ◌++◌}
use Rattle.std.proofs.lemmas.List.{at_drop_all}
use Rattle.bg_kinds.specs.Synonyms.{synonym_graph}
use Rattle.bg_ast.specs.Views.{type_name_of}
use Rattle.bg_graph.specs.Graphs.{graph_of}
use Rattle.bg_kinds.proofs.synonyms.edges_of.Goals as goal

pub returns : goal.returns
returns c =
    let made = graph_of c.loop-d.made.items in
    sym (append-nil made) ∙ sym (at_drop_all (λ l. made ++ synonym_graph (map type_name_of l)) c.args.ds.now c.loop-d.d-index c.loop-d-test.false) ∙ c.loop-d.invariant
