use Rattle.std.proofs.Common.{◌≤◌, map}
use Rattle.bg_ast.specs.Views.{fun_of}
use Rattle.bg_expanded.specs.Chains.{most_bodies}
use Rattle.bg_expanded.specs.Bodies.{IsTable}
use Rattle.bg_expanded.proofs.bodies.bodies.Given as goal

abbrev pub invariant-loop-depth : goal.invariant-loop-depth
invariant-loop-depth l = record {
  within : l._depth ≤ most_bodies;
  table : IsTable (map fun_of l.functions) l._depth l.table.items;
}
