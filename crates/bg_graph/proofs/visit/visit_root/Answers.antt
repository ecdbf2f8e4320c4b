use Rattle.std.proofs.Common.{arith, sym}
use Rattle.std.proofs.lemmas.List.{length-map}
use Rattle.bg_graph.specs.Graphs.{graph_of}
use Rattle.bg_graph.proofs.Visits.{begun, cycled, left_on, put_on, put_fewer}
use Rattle.bg_graph.proofs.visit.visit_root.Goals as goal

pub loop-top-init : goal.loop-top-init
loop-top-init c =
    let long = length-map c.args.edges.now (λ row. row.items) in
    begun (graph_of c.args.edges.now) c.args.marks.now c.enter.new.marks c.args.next c.args.root c.new-stack.result.items c.enter.new.stack.items (sym c.in-Fresh.ensures) (omega arith) c.requires.settled c.requires.none c.in_ok-enter.ensures.mark c.new-stack.ensures.items c.in_ok-enter.ensures.frame

pub loop-top-preserved-in-None : goal.loop-top-preserved-in-None
loop-top-preserved-in-None c =
    left_on (graph_of c.args.edges.now) c.args.marks.now c.loop-top.marks c.loop-top.stack.items c.pop.new.self.items c.in-Some.top c.loop-top.next c.args.root c.next_undone-from.result c.targets-row.result.now c.loop-top.invariant c.in-Some.ensures.items c.targets-row.ensures c.next_undone-from.ensures.passed c.in-None.ensures c.set_mark.new.marks c.set_mark.ensures

pub returns-in-Open : goal.returns-in-Open
returns-in-Open c =
    cycled (graph_of c.args.edges.now) c.args.marks.now c.loop-top.marks c.loop-top.stack.items c.pop.new.self.items c.in-Some.top c.loop-top.next c.args.root c.next_undone-from.result c.targets-row.result.now c.loop-top.invariant c.in-Some.ensures.items c.targets-row.ensures c.in-Some-item_of.target c.in-Some-item_of.ensures.0 c.in-Some-item_of.ensures.1 (sym c.in-Open.ensures)

pub loop-top-smaller : goal.loop-top-smaller
loop-top-smaller c =
    put_fewer (graph_of c.args.edges.now) c.args.marks.now c.loop-top.marks c.loop-top.stack.items c.pop.new.self.items c.in-Some.top c.loop-top.next c.args.root c.next_undone-from.result c.targets-row.result.now c.loop-top.invariant c.in-Some.ensures.items c.targets-row.ensures c.next_undone-from.ensures.passed c.in-Some-item_of.target c.in-Some-item_of.ensures.0 c.in-Some-item_of.ensures.1 (sym c.in-Fresh-mark_of.ensures) c.requires.graph c.enter-in-Fresh-mark_of.new.marks c.in_ok-enter-in-Fresh-mark_of.ensures.mark

pub loop-top-preserved : goal.loop-top-preserved
loop-top-preserved c =
    put_on (graph_of c.args.edges.now) c.args.marks.now c.loop-top.marks c.loop-top.stack.items c.pop.new.self.items c.in-Some.top c.loop-top.next c.args.root c.next_undone-from.result c.targets-row.result.now c.loop-top.invariant c.in-Some.ensures.items c.targets-row.ensures c.next_undone-from.ensures.passed c.in-Some-item_of.target c.in-Some-item_of.ensures.0 c.in-Some-item_of.ensures.1 (sym c.in-Fresh-mark_of.ensures) c.requires.graph c.enter-in-Fresh-mark_of.new.marks c.push.new.self.items c.enter-in-Fresh-mark_of.new.stack.items c.in_ok-enter-in-Fresh-mark_of.ensures.mark c.in_ok-push-in-Fresh-mark_of.ensures.items c.in_ok-enter-in-Fresh-mark_of.ensures.frame
