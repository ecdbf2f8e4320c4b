use Rattle.std.proofs.Common.{ℕ, List, map, Option, sym, subst, arith, add-one}
use Rattle.bg_ast.specs.Views.{fun_of}
use Rattle.bg_opened.specs.Changed.{bodies_in}
use Rattle.bg_expanded.specs.Weights.{weigh_body}
use Rattle.bg_expanded.specs.Bodies.{IsAlike, weigher, IsTable}
use Rattle.bg_expanded.specs.declared.count.Count.{Count}
use Rattle.bg_expanded.proofs.Same.{table_deeper}
use Rattle.bg_expanded.proofs.bodies.bodies.Goals as goal

pub loop-depth-preserved : goal.loop-depth-preserved
loop-depth-preserved c =
    let fs = map fun_of c.args.functions.now in
    let made = c.in_ok-table.table.items in
    let Deeper : List (Option Count) → Type 0 = λ l. (f : ℕ) (ws : List ℕ) → IsAlike (weigher made f ws) (weigh_body (weigher l) (bodies_in fs f) ws) in
    let Known : ℕ → Type 0 = λ n. IsTable fs n made in
    record {
      within = omega (arith, c.loop-depth-test.true);
      table = subst Known (sym (add-one c.loop-depth._depth)) (table_deeper fs c.loop-depth._depth c.loop-depth.table.items made c.loop-depth.invariant.table (subst Deeper c.deref.ensures.value c.in_ok-table.ensures));
    }
