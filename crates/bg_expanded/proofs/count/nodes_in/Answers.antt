use Rattle.std.proofs.Common.{ap, arith}
use Rattle.bg_expanded.specs.Weights.{total}
use Rattle.bg_expanded.proofs.Products.{past}
use Rattle.bg_expanded.proofs.count.nodes_in.Goals as goal

pub returns : goal.returns
returns c =
    let e = past c.args.count.now.reads.items in
    let d = ap total c.deref.ensures.value in
    omega (arith, c.rest_of.ensures)
