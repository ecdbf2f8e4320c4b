use Rattle.std.proofs.Common.{◌≡◌, ◌+◌, arith, rules, sym, ◌∙◌}
use Rattle.std.specs.Prelude.{Some, None}
use Rattle.std.specs.Ordering.{nat_cmp}
use Rattle.std.specs.BTreeMap.{get}
use Rattle.bg_point.proofs.Shelved.{found_place, no_place}
use Rattle.bg_point.proofs.shelves.place_of.Goals as goal

pub returns-in-Some : goal.returns-in-Some
returns-in-Some c =
    let e : get nat_cmp c.args.places.now c.args.x ≡ Some c.in-Some.p.now = search rules in
    let f = found_place c.args.order.now c.args.x 0 c.in-Some.p.now (sym (c.requires c.args.x) ∙ e) in
    omega (arith, f)

pub returns-in-None : goal.returns-in-None
returns-in-None c =
    let e : get nat_cmp c.args.places.now c.args.x ≡ None = search rules in
    no_place c.args.order.now c.args.x 0 (sym (c.requires c.args.x) ∙ e)
