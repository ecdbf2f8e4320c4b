use Rattle.std.proofs.Common.{◌++◌, ◌<◌, ◌≤◌, length, map, refl, arith, rules}
use Rattle.std.proofs.lemmas.List.{length-map}
use Rattle.bg_kinds.specs.Views.{ref_in}
use Rattle.bg_task.specs.Targets.{spread_from}
use Rattle.bg_task.specs.Spread.{both}
use Rattle.bg_task.proofs.Numbering.{one_spread, none_spread}
use Rattle.bg_task.proofs.targets.spread.Goals as goal

pub loop-i-preserved : goal.loop-i-preserved
loop-i-preserved c =
    let tys = map ref_in c.args.kinds.now in
    let many = length-map c.args.kinds.now ref_in in
    let here : c.loop-i.i < length c.args.kinds.now = search rules in
    let lt : c.loop-i.i < length tys = omega (arith, here, many) in
    let kt : c.loop-i.i < length c.args.marks.now = omega (arith, here, c.requires) in
    one_spread tys c.args.marks.now c.loop-i.i c.loop-i.s.made.items c.add.new.s.made.items c.loop-i.s.next c.add.new.s.next _ c.is_apart-apart.result (c.args.s.now.made.items ++ spread_from c.args.s.now.next (both tys c.args.marks.now)) lt kt c.loop-i.invariant c.is_apart-apart.ensures refl c.in_ok-add.ensures.made c.in_ok-add.ensures.next

pub returns : goal.returns
returns c =
    let tys = map ref_in c.args.kinds.now in
    let many = length-map c.args.kinds.now ref_in in
    let past : length c.args.kinds.now ≤ c.loop-i.i = search rules in
    let over : length tys ≤ c.loop-i.i = omega (arith, past, many) in
    none_spread tys c.args.marks.now c.loop-i.i c.loop-i.s.made.items c.loop-i.s.next _ over c.loop-i.invariant
