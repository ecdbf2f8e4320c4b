use Rattle.std.proofs.Common.{arith, ◌∙◌, ap, drop}
use Rattle.bg_graph.proofs.Parts.{closes}
use Rattle.bg_graph.proofs.rings.close.Goals as goal

pub returns : goal.returns
returns c =
    closes c.args.spots.now c.settle.new.spots c.args.held.now.items c.truncate.new.self.items c.args.starts.now.items c.pop-start.new.self.items c.args.row.now c.rest_of-part.result.now c.args.leg.node c.args.leg.at c.args.first c.least_of_ring-found.result _ (omega (arith, c.requires.last.0, c.args.starts.now.ok.0)) c.pop-start.ensures.rest (c.rest_of-part.ensures ∙ ap (λ l. drop c.args.leg.at l) c.deref.ensures.value) c.truncate.ensures.items c.settle.ensures.settled c.settle.ensures.kept c.settle.ensures.fewer c.least_of_ring-found.ensures.low c.least_of_ring-found.ensures.least c.least_of_ring-found.ensures.one
