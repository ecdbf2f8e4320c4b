use Rattle.std.proofs.Common.{◌≡◌, ◌<◌, ◌-◌, length, map, arith, refl, subst, rules, ap, ◌∙◌}
use Rattle.bg_rows.specs.Rows.{row_of}
use Rattle.bg_point.specs.Points.{value_of, target_of}
use Rattle.bg_point.specs.Spans.{IsNext}
use Rattle.bg_point.specs.declared.span.Next.TheVariants.{Value, Empty, Refused}
use Rattle.bg_point.specs.Shelves.{place_in}
use Rattle.bg_point.proofs.Shelved.{place_at}
use Rattle.bg_point.proofs.Upto.{Upto, turn_of, at_start, at_end, value_step, gap_step, far_step, ordered_from}
use Rattle.bg_point.proofs.find.point.Goals as goal

pub loop-i-init : goal.loop-i-init
loop-i-init c =
    let o = ordered_from c.requires.solved.0 c.args.order.now c.requires.solved.1 in
    let n : c.len-i.result ≡ length c.args.order.now.variables.items = search rules in
    let e = c.new-spots.ensures.items in
    record { within = omega arith; upto = rw (n, e) (at_start (target_of c.args.targets.now) c.args.order.now.variables.items (map row_of c.args.order.now.rows.items) o) }

pub loop-i-preserved : goal.loop-i-preserved
loop-i-preserved c =
    let order = c.args.order.now.variables.items in
    let rows = map row_of c.args.order.now.rows.items in
    let o = ordered_from c.requires.solved.0 c.args.order.now c.requires.solved.1 in
    let i = c.loop-i.invariant in
    let x = c.index-x.result.now in
    let spots = c.loop-i.spots.items in
    let p : 0 < c.loop-i.i = omega arith in
    let t = turn_of order c.loop-i.i (c.loop-i.i - 1) x p i.within refl c.index-x.ensures in
    let n = subst (λ ss. IsNext (target_of c.args.targets.now) order rows (value_of ss) x (Value c.in-Value.spot)) c.deref-in-loop-i.ensures.value c.in-Value.ensures in
    let w = i.within in
    record { within = omega arith; upto = rw c.in_ok-push-in-Value.ensures.items (value_step (target_of c.args.targets.now) order rows c.loop-i.i x (c.loop-i.i - 1) spots c.in-Value.spot o t i.upto n) }

pub returns-in-Empty : goal.returns-in-Empty
returns-in-Empty c =
    let order = c.args.order.now.variables.items in
    let rows = map row_of c.args.order.now.rows.items in
    let o = ordered_from c.requires.solved.0 c.args.order.now c.requires.solved.1 in
    let i = c.loop-i.invariant in
    let x = c.index-x.result.now in
    let spots = c.loop-i.spots.items in
    let p : 0 < c.loop-i.i = omega arith in
    let t = turn_of order c.loop-i.i (c.loop-i.i - 1) x p i.within refl c.index-x.ensures in
    let n = subst (λ ss. IsNext (target_of c.args.targets.now) order rows (value_of ss) x (Empty c.in-Empty.gap)) c.deref-in-loop-i.ensures.value c.in-Empty.ensures in
    gap_step (target_of c.args.targets.now) order rows c.loop-i.i x (c.loop-i.i - 1) spots c.in-Empty.gap o t i.upto n

pub returns-in-Refused : goal.returns-in-Refused
returns-in-Refused c =
    let order = c.args.order.now.variables.items in
    let rows = map row_of c.args.order.now.rows.items in
    let o = ordered_from c.requires.solved.0 c.args.order.now c.requires.solved.1 in
    let i = c.loop-i.invariant in
    let x = c.index-x.result.now in
    let spots = c.loop-i.spots.items in
    let p : 0 < c.loop-i.i = omega arith in
    let t = turn_of order c.loop-i.i (c.loop-i.i - 1) x p i.within refl c.index-x.ensures in
    let n = subst (λ ss. IsNext (target_of c.args.targets.now) order rows (value_of ss) x (Refused c.in-Refused.far)) c.deref-in-loop-i.ensures.value c.in-Refused.ensures in
    far_step (target_of c.args.targets.now) order rows c.loop-i.i x (c.loop-i.i - 1) spots c.in-Refused.far o t i.upto n

pub returns : goal.returns
returns c =
    let z : c.loop-i.i ≡ 0 = omega arith in
    let u = subst (λ k. Upto (target_of c.args.targets.now) c.args.order.now.variables.items (map row_of c.args.order.now.rows.items) k c.loop-i.spots.items) z c.loop-i.invariant.upto in
    at_end (target_of c.args.targets.now) c.args.order.now.variables.items (map row_of c.args.order.now.rows.items) c.loop-i.spots.items u

pub next-requires-clause-here : goal.next-requires-clause-here
next-requires-clause-here c =
    let order = c.args.order.now.variables.items in
    let o = ordered_from c.requires.solved.0 c.args.order.now c.requires.solved.1 in
    let i = c.loop-i.invariant in
    let x = c.index-x.result.now in
    let p : 0 < c.loop-i.i = omega arith in
    let t = turn_of order c.loop-i.i (c.loop-i.i - 1) x p i.within refl c.index-x.ensures in
    ap (place_in order) t.here ∙ place_at order (c.loop-i.i - 1) o.once t.below
