use Rattle.std.proofs.Common.{◌≡◌, List, arith, reverse, length, [], subst, sym}
use Rattle.std.proofs.lemmas.List.{length-map, nil_from_length}
use mathlib.Core.Logic.{dite}
use native.Mathlib.Decide.{dec_le}
use Rattle.bg_graph.specs.Graphs.{graph_of}
use Rattle.bg_graph.specs.declared.rings.Leg.{Leg}
use Rattle.bg_graph.proofs.Walks.{Walking, begun, at_within, entered, entered_fresh, entered_less, left_on, left_fresh, ends}
use Rattle.bg_graph.proofs.rings.walk.Goals as goal

pub loop-leg-init : goal.loop-leg-init
loop-leg-init c =
    let n = length-map c.args.edges.now (λ row. row.items) in
    let e = c.in_ok-enter.ensures in
    let r = begun (graph_of c.args.edges.now) c.args.spots.now c.enter.new.spots c.new-held.result.items c.enter.new.held.items c.new-starts.result.items c.enter.new.starts.items c.new-legs.result.items c.enter.new.legs.items c.args.first c.args.root c.requires.calm (sym c.in-Fresh.ensures) (omega arith) c.new-held.ensures.items c.new-starts.ensures.items c.new-legs.ensures.items e.spots e.held e.starts e.legs in
    record { walking = r.0; started = r.1 }

pub loop-leg-smaller : goal.loop-leg-smaller
loop-leg-smaller c =
    entered_less (graph_of c.args.edges.now) c.args.spots.now c.loop-leg.spots c.loop-leg.held.items c.loop-leg.starts.items c.loop-leg.legs.items c.pop.new.self.items c.in-Some.leg c.args.first c.loop-leg.first c.pass-place.result c.targets-row.result.now c.pass-place.new.starts.items c.loop-leg.invariant.walking c.in-Some.ensures.items c.targets-row.ensures c.pass-place.ensures.front c.pass-place.ensures.gone c.pass-place.ensures.passed c.in-Some-item_of.target c.requires.graph c.in-Some-item_of.ensures.0 c.in-Some-item_of.ensures.1 c.pass-place.ensures.fresh
    c.enter-in-Some-item_of.new.spots c.push.new.self.items c.enter-in-Some-item_of.new.legs.items c.in_ok-enter-in-Some-item_of.ensures.spots c.in_ok-push-in-Some-item_of.ensures.items c.in_ok-enter-in-Some-item_of.ensures.legs

pub loop-leg-preserved : goal.loop-leg-preserved
loop-leg-preserved c = record {
  walking = entered (graph_of c.args.edges.now) c.args.spots.now c.loop-leg.spots c.loop-leg.held.items c.loop-leg.starts.items c.loop-leg.legs.items c.pop.new.self.items c.in-Some.leg c.args.first c.loop-leg.first c.pass-place.result c.targets-row.result.now c.pass-place.new.starts.items c.loop-leg.invariant.walking c.in-Some.ensures.items c.targets-row.ensures c.pass-place.ensures.front c.pass-place.ensures.gone c.pass-place.ensures.passed c.in-Some-item_of.target c.requires.graph c.in-Some-item_of.ensures.0 c.in-Some-item_of.ensures.1 c.pass-place.ensures.fresh
      c.enter-in-Some-item_of.new.spots c.enter-in-Some-item_of.new.held.items c.enter-in-Some-item_of.new.starts.items c.push.new.self.items c.enter-in-Some-item_of.new.legs.items c.in_ok-enter-in-Some-item_of.ensures.spots c.in_ok-enter-in-Some-item_of.ensures.held c.in_ok-enter-in-Some-item_of.ensures.starts c.in_ok-push-in-Some-item_of.ensures.items c.in_ok-enter-in-Some-item_of.ensures.legs;
  started = λ x. c.loop-leg.invariant.started (entered_fresh (graph_of c.args.edges.now) c.args.spots.now c.loop-leg.spots c.loop-leg.held.items c.loop-leg.starts.items c.loop-leg.legs.items c.pop.new.self.items c.in-Some.leg c.args.first c.loop-leg.first c.pass-place.result c.targets-row.result.now c.pass-place.new.starts.items c.loop-leg.invariant.walking c.in-Some.ensures.items c.targets-row.ensures c.pass-place.ensures.front c.pass-place.ensures.gone c.pass-place.ensures.passed c.in-Some-item_of.target c.requires.graph c.in-Some-item_of.ensures.0 c.in-Some-item_of.ensures.1 c.pass-place.ensures.fresh
      c.enter-in-Some-item_of.new.spots c.args.root c.in_ok-enter-in-Some-item_of.ensures.spots x);
}

pub leave-first-requires : goal.leave-first-requires
leave-first-requires c = record { held = at_within (graph_of c.args.edges.now) c.args.spots.now c.loop-leg.spots c.loop-leg.held.items c.loop-leg.starts.items c.loop-leg.legs.items c.pop.new.self.items c.in-Some.leg c.args.first c.loop-leg.first c.pass-place.result c.targets-row.result.now c.pass-place.new.starts.items c.loop-leg.invariant.walking c.in-Some.ensures.items c.targets-row.ensures c.pass-place.ensures.front c.pass-place.ensures.gone c.pass-place.ensures.passed }

pub loop-leg-preserved-in-None : goal.loop-leg-preserved-in-None
loop-leg-preserved-in-None c = record {
  walking = left_on (graph_of c.args.edges.now) c.args.spots.now c.loop-leg.spots c.loop-leg.held.items c.loop-leg.starts.items c.loop-leg.legs.items c.pop.new.self.items c.in-Some.leg c.args.first c.loop-leg.first c.pass-place.result c.targets-row.result.now c.pass-place.new.starts.items c.loop-leg.invariant.walking c.in-Some.ensures.items c.targets-row.ensures c.pass-place.ensures.front c.pass-place.ensures.gone c.pass-place.ensures.passed c.in-None.ensures
      c.leave-first.new.spots c.leave-first.new.held.items c.leave-first.new.starts.items c.leave-first.result c.leave-first.auto.spots c.leave-first.ensures.stays c.leave-first.ensures.closes;
  started = λ x. c.loop-leg.invariant.started (left_fresh (graph_of c.args.edges.now) c.args.spots.now c.loop-leg.spots c.loop-leg.held.items c.loop-leg.starts.items c.loop-leg.legs.items c.pop.new.self.items c.in-Some.leg c.args.first c.loop-leg.first c.pass-place.result c.targets-row.result.now c.pass-place.new.starts.items c.loop-leg.invariant.walking c.in-Some.ensures.items c.targets-row.ensures c.pass-place.ensures.front c.pass-place.ensures.gone c.pass-place.ensures.passed c.in-None.ensures
      c.leave-first.new.spots c.leave-first.new.held.items c.leave-first.new.starts.items c.leave-first.result c.leave-first.auto.spots c.leave-first.ensures.stays c.leave-first.ensures.closes c.args.root x);
}

pub returns-clause-calm : goal.returns-clause-calm
returns-clause-calm c =
    let legs : c.loop-leg.legs.items ≡ [] = nil_from_length c.loop-leg.legs.items (dite (dec_le 1 (length c.loop-leg.legs.items))
    (λ some. absurd (c.in_default-pop.not-Some _ (c.pop.ensures.value (record { node = 0; at = 0; from = 0 }) (omega (arith, c.loop-leg.legs.ok.0)))))
    (λ none. omega arith)) in
    let P : List Leg → Type 0 = λ l. Walking (graph_of c.args.edges.now) c.args.spots.now c.loop-leg.spots c.loop-leg.held.items c.loop-leg.starts.items (reverse l) c.args.first c.loop-leg.first in
    ends (graph_of c.args.edges.now) c.args.spots.now c.loop-leg.spots c.loop-leg.held.items c.loop-leg.starts.items c.args.first c.loop-leg.first (subst P legs c.loop-leg.invariant.walking)

pub returns-clause-still : goal.returns-clause-still
returns-clause-still c = c.loop-leg.invariant.walking.still

pub returns-clause-root : goal.returns-clause-root
returns-clause-root c = c.loop-leg.invariant.started

pub returns-clause-low : goal.returns-clause-low
returns-clause-low c = c.loop-leg.invariant.walking.low
