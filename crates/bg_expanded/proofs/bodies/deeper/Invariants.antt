use Rattle.std.proofs.Common.{◌≡◌, ℕ, ◌<◌, List, map, length}
use Rattle.bg_ast.specs.Views.{fun_of}
use Rattle.bg_opened.specs.Changed.{bodies_in}
use Rattle.bg_expanded.specs.Weights.{weigh_body}
use Rattle.bg_expanded.specs.Bodies.{IsAlike, weigher}
use Rattle.bg_expanded.proofs.bodies.deeper.Given as goal

abbrev pub invariant-loop-f : goal.invariant-loop-f
invariant-loop-f l = record {
  long : length l.made.items ≡ l.f-index;
  is : (k : ℕ) (ws : List ℕ) → k < l.f-index → IsAlike (weigher l.made.items k ws) (weigh_body (weigher l.table) (bodies_in (map fun_of l.functions) k) ws);
}
