use Rattle.std.proofs.Common.{sym, ◌∙◌, append-nil, map, ◌++◌}
use Rattle.std.proofs.lemmas.List.{at_drop_all}
use Rattle.bg_names.specs.Views.{listed}
use Rattle.bg_resolve.specs.Calls.{calls_of, fun_in}
use Rattle.bg_graph.specs.Graphs.{graph_of}
use Rattle.bg_resolve.proofs.recursion.rows.Goals as goal

pub returns-clause-ok : goal.returns-clause-ok
returns-clause-ok c =
    let made = graph_of c.loop-f.out.items in
    sym (append-nil made) ∙ sym (at_drop_all (λ l. made ++ map (calls_of (listed c.args.functions.now)) (map fun_in l)) c.args.fs.now c.loop-f.f-index c.loop-f-test.false) ∙ c.loop-f.invariant
