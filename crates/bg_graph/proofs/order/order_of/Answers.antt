use Rattle.std.proofs.Common.{arith, ◌∙◌, drop, length, ap, map}
use Rattle.std.proofs.lemmas.List.{take_at, length-map}
use Rattle.bg_graph.specs.Graphs.{graph_of}
use Rattle.bg_graph.specs.Marks.{rank_of}
use Rattle.bg_graph.proofs.Orders.{walk_on, answer}
use Rattle.bg_graph.proofs.order.order_of.Goals as goal

pub loop-root-preserved : goal.loop-root-preserved
loop-root-preserved c =
    let marks = c.visit_root.new.marks in
    let same = take_at marks (drop (length marks) c.loop-root.marks.items) c.loop-root.marks.len (omega (arith, c.visit_root.auto.marks, c.deref_mut.ensures.len)) in
    walk_on (graph_of c.args.edges.now) c.loop-root.marks.items c.deref_mut.result.now marks _ c.loop-root.next c.in-Ended.after c.loop-root.root c.in_ok-after.field-0 c.loop-root.invariant c.deref_mut.ensures.value same c.in_ok-after.ensures c.in-Ended.is

pub returns : goal.returns
returns c =
    let long = length-map c.args.edges.now (λ row. row.items) in
    answer (graph_of c.args.edges.now) c.loop-root.marks.items c.loop-root.next c.loop-root.root c.loop-root.invariant (omega arith) c.in_ok-ranks_of.field-0.items (c.in_ok-ranks_of.ensures ∙ ap (λ l. map rank_of l) c.deref.ensures.value)
