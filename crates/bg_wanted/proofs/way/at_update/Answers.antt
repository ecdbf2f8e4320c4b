use Rattle.std.proofs.Common.{sym, ◌∙◌, arith}
use Rattle.std.proofs.lemmas.Bool.{eqb-true}
use Rattle.bg_wanted.proofs.Leading.{update_below, way_fits}
use Rattle.bg_wanted.proofs.way.at_update.Goals as goal

pub returns-then-not-is_below : goal.returns-then-not-is_below
returns-then-not-is_below c = λ is at fs incs si way. way

pub returns-then-not-is_one : goal.returns-then-not-is_one
returns-then-not-is_one c = λ is at fs incs si way. way

pub returns-then-is_last : goal.returns-then-is_last
returns-then-is_last c =
    let high = c.is_below.ensures c.if-not-is_below.false in
    λ is at fs incs si way.
    c.in_ok-is_last.ensures.told is high fs incs si way

pub returns-in-None : goal.returns-in-None
returns-in-None c =
    let high = c.is_below.ensures c.if-not-is_below.false in
    λ is at fs incs si way.
    c.in_ok-is_last.ensures.told is high fs incs si way

pub returns-in_ok-at_map-in-Some : goal.returns-in_ok-at_map-in-Some
returns-in_ok-at_map-in-Some c =
    let high = c.is_below.ensures c.if-not-is_below.false in
    let same = c.in_ok-is_last.ensures.same in
    λ is at fs incs si way.
    c.in_ok-at_map-in-Some.ensures fs incs si (update_below fs incs c.args.sight si c.args.update is) (omega (arith, high, same)) (way_fits fs incs c.args.sight si c.args.update is c.args.x at (eqb-true c.args.x.maps c.args.update.maps (sym c.is_one.ensures ∙ c.if-not-is_one.false)) c.in-Some.map (sym (c.map_of.ensures fs) ∙ c.in-Some.is)) (c.in_ok-is_last.ensures.told is high fs incs si way)
