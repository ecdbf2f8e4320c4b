use Rattle.std.proofs.Common.{subst, map}
use Rattle.std.proofs.lemmas.List.{take_all}
use Rattle.bg_passive.specs.Passive.{Edge}
use Rattle.bg_incarnate.specs.Views.{edge_of}
use Rattle.bg_incarnate.specs.declared.blocks.Edge as code
use Rattle.bg_term_table.specs.Views.{terms_in, incs_of}
use Rattle.bg_flatten.specs.Numbered.{edge_behind, edge_numbered}
use Rattle.bg_flatten.specs.Made.{AreMade}
use Rattle.bg_flatten.proofs.Lists.{made_step}
use Rattle.bg_flatten.proofs.blocks.edges.Goals as goal

pub loop-e-preserved : goal.loop-e-preserved
loop-e-preserved c =
    λ fs g.
    let n = incs_of c.args.around in
    made_step Edge (edge_behind fs n) (edge_numbered fs n) code.Edge edge_of (terms_in fs c.args.terms.now.terms.items) (terms_in fs c.loop-e.terms.terms.items) (terms_in fs c.edge.new.terms.terms.items) c.args.es.now c.loop-e.e-index c.e-item.result c.loop-e.made.items c.push.new.self.items c.in_ok-e.e c.loop-e-test.true c.e-item.is c.in_ok-push.ensures.items (c.loop-e.invariant fs g) (c.in_ok-e.ensures fs g)

pub returns : goal.returns
returns c =
    λ fs g.
    let n = incs_of c.args.around in
    subst (λ l. AreMade (edge_behind fs n) (edge_numbered fs n) (map edge_of l) (terms_in fs c.args.terms.now.terms.items) (map edge_of c.loop-e.made.items) (terms_in fs c.loop-e.terms.terms.items)) (take_all c.loop-e.e-index c.args.es.now c.loop-e-test.false) (c.loop-e.invariant fs g)
