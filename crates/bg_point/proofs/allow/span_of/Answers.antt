use Rattle.std.proofs.Common.{◌≡◌, ◌<◌, ◌≤◌, length, map, arith, sym, ◌∙◌, subst, get_or}
use Rattle.std.proofs.lemmas.List.{length-map}
use Rattle.bg_rows.specs.Rows.{row_of}
use Rattle.bg_elim.proofs.Begins.{given_at}
use Rattle.bg_point.specs.Points.{value_of}
use Rattle.bg_point.specs.Shelves.{place_in}
use Rattle.bg_point.proofs.Marks.{span_step, span_ok, refused_from}
use Rattle.bg_point.proofs.Shelved.{span_on, span_none, none_from_stand, first_lead, next_lead}
use Rattle.bg_point.proofs.allow.span_of.Goals as goal

pub loop-n-init : goal.loop-n-init
loop-n-init c =
    let order = c.args.order.now in
    let rows = map row_of c.args.rows.now in
    let v = value_of c.args.spots.now in
    let lead = first_lead order rows c.args.shelves.now c.args.p c.index-n.result.now c.requires.shelved c.requires.there c.index-n.ensures in
    record {
      within = let w = lead.within in rw length-map at w;
      span = span_on order rows v c.args.x c.args.p 0 _ _ c.requires.here lead (span_none order rows v c.args.x);
      on = λ r at. lead.on r at;
    }

pub widen-requires : goal.widen-requires
widen-requires c =
    let order = c.args.order.now in
    let lt : c.loop-n.n < length c.args.rows.now = omega arith in
    let at = given_at c.args.rows.now c.loop-n.n c.index-rows-n.result lt c.index-rows-n.is in
    let st = c.loop-n.invariant.on _ at in
    let here = c.requires.here in
    none_from_stand order c.args.x (row_of c.index-rows-n.result) (st ∙ sym here) (subst (λ z. z < length order) (sym here) c.requires.there)

pub returns-in-Err : goal.returns-in-Err
returns-in-Err c =
    let lt : c.loop-n.n < length c.args.rows.now = omega arith in
    let at = given_at c.args.rows.now c.loop-n.n c.index-rows-n.result lt c.index-rows-n.is in
    let v = value_of c.args.spots.now in (
      refused_from v c.args.order.now c.args.x c.in-Err.e _ (row_of c.index-rows-n.result) at c.in-Err.ensures,
      span_ok c.args.order.now (map row_of c.args.rows.now) v c.args.x c.loop-n.n c.loop-n.span c.loop-n.invariant.span,
    )

pub loop-n-preserved : goal.loop-n-preserved
loop-n-preserved c =
    let order = c.args.order.now in
    let rows = map row_of c.args.rows.now in
    let v = value_of c.args.spots.now in
    let n = c.loop-n.n in
    let lt : n < length c.args.rows.now = omega arith in
    let r = row_of c.index-rows-n.result in
    let at = given_at c.args.rows.now n c.index-rows-n.result lt c.index-rows-n.is in
    let i = c.loop-n.invariant in
    let lead = next_lead order rows c.args.shelves.now c.args.p n c.index-n-in-loop-n.result.now r c.requires.shelved c.requires.there at (i.on r at) c.index-n-in-loop-n.ensures in
    record {
      within = let w = lead.within in rw length-map at w;
      span = span_on order rows v c.args.x c.args.p _ _ _ c.requires.here lead (span_step order rows v c.args.x n r c.loop-n.span c.in-Ok.made at i.span c.in-Ok.ensures);
      on = λ q g. lead.on q g;
    }

pub loop-n-smaller : goal.loop-n-smaller
loop-n-smaller c =
    let n = c.loop-n.n in
    let lt : n < length c.args.rows.now = omega arith in
    let r = row_of c.index-rows-n.result in
    let at = given_at c.args.rows.now n c.index-rows-n.result lt c.index-rows-n.is in
    let lead = next_lead c.args.order.now (map row_of c.args.rows.now) c.args.shelves.now c.args.p n c.index-n-in-loop-n.result.now r c.requires.shelved c.requires.there at (c.loop-n.invariant.on r at) c.index-n-in-loop-n.ensures in
    let low = lead.low in
    omega (arith, low, lt)
