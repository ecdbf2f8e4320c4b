use Rattle.std.proofs.Common.{◌≡◌, ◌<◌, ◌≤◌, ◌+◌, ◌-◌, length, map, arith, rules, subst, sym, ap, ◌∙◌, replicate, get_or, refl}
use Rattle.std.proofs.lemmas.List.{length-map}
use Rattle.bg_rows.specs.declared.row.Row.{Row}
use Rattle.bg_rows.specs.Rows.{row_of}
use Rattle.bg_elim.proofs.Begins.{given_at}
use Rattle.bg_point.specs.Shelves.{stand}
use Rattle.bg_point.proofs.Shelved.{Half, half_start, past_turn, put_turn}
use Rattle.bg_point.proofs.shelves.shelve.Goals as goal

pub loop-n-init : goal.loop-n-init
loop-n-init c =
    let h = c.in_ok-heads.ensures.items_if_clones_equal (λ x e. e) in
    let k = c.in_ok-nexts.ensures.items_if_clones_equal (λ x e. e) in
    record {
      within = omega arith;
      half = half_start c.args.order.now (map row_of c.args.rows.now) c.in_ok-heads.heads.items c.in_ok-nexts.nexts.items _ (rw length-map refl) h (rw length-map k);
    }

pub loop-n-preserved-then-p-len : goal.loop-n-preserved-then-p-len
loop-n-preserved-then-p-len c =
    let order = c.args.order.now in
    let rows = c.args.rows.now in
    let i = c.loop-n.invariant in
    let w = i.within in
    let p : 0 < c.loop-n.n = omega arith in
    let lt : c.loop-n.n - 1 < length rows = omega (arith, w) in
    let r = c.index-rows-n.result in
    let at = given_at rows (c.loop-n.n - 1) r lt c.index-rows-n.is in
    let e : c.stand-p.result ≡ stand order r.entries.items = c.stand-p.ensures ∙ ap (stand order) c.deref.ensures.value ∙ ap (λ (z : Row). stand order z.entries.items) (sym c.index-rows-n.is) in
    let there : c.stand-p.result < length c.loop-n.heads.items = search rules in
    record {
      within = omega (arith, w);
      half = put_turn order (map row_of rows) c.loop-n.heads.items c.loop-n.nexts.items c.loop-n.n c.stand-p.result c.index.result.now (row_of r) p at e there c.index.ensures i.half;
    }

pub loop-n-preserved : goal.loop-n-preserved
loop-n-preserved c =
    let order = c.args.order.now in
    let rows = c.args.rows.now in
    let i = c.loop-n.invariant in
    let w = i.within in
    let p : 0 < c.loop-n.n = omega arith in
    let lt : c.loop-n.n - 1 < length rows = omega (arith, w) in
    let r = c.index-rows-n.result in
    let at = given_at rows (c.loop-n.n - 1) r lt c.index-rows-n.is in
    let e : c.stand-p.result ≡ stand order r.entries.items = c.stand-p.ensures ∙ ap (stand order) c.deref.ensures.value ∙ ap (λ (z : Row). stand order z.entries.items) (sym c.index-rows-n.is) in
    let off : length c.loop-n.heads.items ≤ c.stand-p.result = search rules in
    record {
      within = omega (arith, w);
      half = past_turn order (map row_of rows) c.loop-n.heads.items c.loop-n.nexts.items c.loop-n.n c.stand-p.result (row_of r) p at e off i.half;
    }
