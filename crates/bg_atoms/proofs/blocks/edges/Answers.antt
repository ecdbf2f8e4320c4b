use Rattle.std.proofs.Common.{map, subst, refl}
use Rattle.std.proofs.lemmas.List.{take_all}
use Rattle.bg_incarnate.specs.Views.{edge_of}
use Rattle.bg_formed.specs.Views.{form_edge_of}
use Rattle.bg_atoms.specs.Told.{EdgesTold, EdgeTold}
use Rattle.bg_atoms.specs.Listed.{with_edges}
use Rattle.bg_atoms.specs.Growing.{Grows}
use Rattle.bg_atoms.proofs.Lists.{begins_on, pairs_none, pairs_more}
use Rattle.bg_atoms.proofs.Listing.{begins_cmds, begins_grown, edges_more}
use Rattle.bg_atoms.proofs.blocks.edges.Goals as goal

pub loop-e-init : goal.loop-e-init
loop-e-init c =
    let names = c.args.names.now in
    (record { table = c.requires.table; rows = refl }, λ all b. pairs_none (EdgeTold names.sorts.items names.base all) edge_of form_edge_of c.new-made.result.items c.new-made.ensures.items)

pub loop-e-preserved : goal.loop-e-preserved
loop-e-preserved c =
    let names = c.args.names.now in (
      edges_more names.sorts.items names.base c.args.es.now c.loop-e.e-index c.e-item.result _ _ _ c.loop-e-test.true c.e-item.is c.loop-e.invariant.0 c.in_ok-x.ensures.grows,
      λ all b. pairs_more (EdgeTold names.sorts.items names.base all) edge_of form_edge_of c.args.es.now c.loop-e.e-index c.e-item.result c.loop-e.made.items c.push.new.self.items _ c.loop-e-test.true c.e-item.is c.in_ok-push.ensures.items (c.loop-e.invariant.1 all (begins_on _ _ _ (begins_grown (begins_cmds names.sorts.items (edge_of c.e-item.result).cmds) c.in_ok-x.ensures.grows) b)) (c.in_ok-x.ensures.told all b),
    )

pub returns-clause-told : goal.returns-clause-told
returns-clause-told c =
    λ all b. subst (λ l. EdgesTold c.args.names.now.sorts.items c.args.names.now.base all (map edge_of l) (map form_edge_of c.loop-e.made.items)) (take_all c.loop-e.e-index c.args.es.now c.loop-e-test.false) (c.loop-e.invariant.1 all b)

pub returns-clause-grows : goal.returns-clause-grows
returns-clause-grows c =
    subst (λ l. Grows c.args.names.now.base (with_edges c.args.names.now.sorts.items (map edge_of l)) c.args.table.now c.loop-e.table) (take_all c.loop-e.e-index c.args.es.now c.loop-e-test.false) c.loop-e.invariant.0
