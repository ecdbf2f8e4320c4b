use Rattle.std.proofs.Common.{◌≡◌, ◌++◌, drop, map}
use Rattle.bg_ast.specs.Resolved.{Ex}
use Rattle.bg_ast.specs.Views.{proc_of}
use Rattle.bg_places.specs.Counts.{capped, spec_nodes}
use Rattle.bg_opened.specs.Written.{opened_proc}
use Rattle.bg_expanded.specs.Bodies.{IsCountOf}
use Rattle.bg_expanded.proofs.expanded.sizes.Given as goal

abbrev pub invariant-loop-q : goal.invariant-loop-q
invariant-loop-q l =
    (o : Ex → Ex) → IsCountOf l.table o →
    l.made.items ++ map capped (map spec_nodes (map (opened_proc o) (map proc_of (drop l.q-index l.procedures))))
    ≡ map capped (map spec_nodes (map (opened_proc o) (map proc_of l.procedures)))
