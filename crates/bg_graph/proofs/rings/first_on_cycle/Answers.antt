use Rattle.std.proofs.Common.{ℕ, arith, drop, length, replicate, ap, sym, ◌∙◌}
use Rattle.std.proofs.lemmas.List.{take_at, length-map}
use Rattle.bg_graph.specs.Graphs.{graph_of}
use Rattle.bg_graph.specs.declared.rings.Spot.TheVariants.{Fresh}
use Rattle.bg_graph.proofs.Walks.{nothing_yet, next_root, the_first, is_node}
use Rattle.bg_graph.proofs.rings.first_on_cycle.Goals as goal

pub walk-requires-clause-node : goal.walk-requires-clause-node
walk-requires-clause-node c =
    let n = length-map c.args.edges.now (λ row. row.items) in
    let l = is_node (graph_of c.args.edges.now) c.args.last c.args.last c.requires.reaches in omega arith

pub loop-root-preserved : goal.loop-root-preserved
loop-root-preserved c =
    let spots = c.walk.new.spots in
    let e = c.in_ok-first.ensures in
    let same = take_at spots (drop (length spots) c.loop-root.spots.items) c.loop-root.spots.len (omega (arith, c.walk.auto.spots, c.deref_mut.ensures.len)) in
    next_root (graph_of c.args.edges.now) c.loop-root.spots.items c.deref_mut.result.now spots _ c.loop-root.root c.args.last c.loop-root.first c.in_ok-first.first c.loop-root.invariant c.deref_mut.ensures.value same e.calm e.still e.root e.low

pub loop-root-init : goal.loop-root-init
loop-root-init c =
    let n = length-map c.args.edges.now (λ row. row.items) in
    nothing_yet (graph_of c.args.edges.now) c.in_ok-spots.spots.items c.args.last (c.in_ok-spots.ensures.items_if_clones_equal (λ x e. e) ∙ ap (λ (k : ℕ). replicate k Fresh) (sym n)) c.requires.reaches

pub returns : goal.returns
returns c = the_first (graph_of c.args.edges.now) c.loop-root.spots.items c.loop-root.root c.args.last c.loop-root.first c.loop-root.invariant c.loop-root-test.false
