use Rattle.std.proofs.Common.{◌∷◌, [], map, ap, ◌∙◌}
use Rattle.std.proofs.lemmas.List.{map-append}
use Rattle.bg_typing.specs.SideViews.{waiting_of}
use Rattle.bg_typing.proofs.Forms.{unwind_side, unwind_best}
use Rattle.bg_typing.proofs.exprs.unwind.Goals as goal

pub loop-x-preserved : goal.loop-x-preserved
loop-x-preserved c =
    let split = ap (map waiting_of) c.in-Some.ensures.items ∙ map-append waiting_of c.pop.new.self.items (c.in-Some.x ∷ []) in
    record {
      best = unwind_best _ _ _ _ _ _ _ _ split c.join-side.ensures.side c.join-side.ensures.best ∙ c.loop-x.invariant.best;
      side = unwind_side _ _ _ _ _ _ split c.join-side.ensures.side ∙ c.loop-x.invariant.side;
    }
