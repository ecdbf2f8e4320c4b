use Rattle.std.proofs.Common.{◌≡◌, ◌++◌, drop, map, length}
use Rattle.bg_graph.specs.Graphs.{graph_of}
use Rattle.bg_ast.specs.Views.{fun_of}
use Rattle.bg_expanded.specs.Applied.{applied_by}
use Rattle.bg_expanded.proofs.applied.rows.Given as goal

abbrev pub invariant-loop-f : goal.invariant-loop-f
invariant-loop-f l =
    graph_of l.made.items ++ map (λ f. applied_by (length l.functions) f.body) (map fun_of (drop l.f-index l.functions))
    ≡ map (λ f. applied_by (length l.functions) f.body) (map fun_of l.functions)
