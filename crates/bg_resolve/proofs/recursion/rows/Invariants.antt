use Rattle.std.proofs.Common.{◌≡◌, ◌++◌, map, drop}
use Rattle.bg_graph.specs.Graphs.{graph_of}
use Rattle.bg_resolve.specs.Calls.{calls_of, fun_in}
use Rattle.bg_names.specs.Views.{listed}
use Rattle.bg_resolve.proofs.recursion.rows.Given as goal

abbrev pub invariant-loop-f : goal.invariant-loop-f
invariant-loop-f l = graph_of l.out.items ++ map (calls_of (listed l.functions)) (map fun_in (drop l.f-index l.fs)) ≡ map (calls_of (listed l.functions)) (map fun_in l.fs)
