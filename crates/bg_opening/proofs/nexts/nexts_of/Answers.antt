use Rattle.std.proofs.Common.{ap, refl, sym, ◌∙◌}
use Rattle.bg_opening.specs.Nexts.{type_code, code_of, kept}
use Rattle.bg_opening.proofs.NextSteps.{none_done, one_done, all_done}
use Rattle.bg_opening.proofs.nexts.nexts_of.Goals as goal

pub loop-done-init : goal.loop-done-init
loop-done-init c = none_done c.args.told.now (kept c.new-later.result) c.new-made.result.items c.new-later.ensures c.new-made.ensures.items

pub loop-done-preserved : goal.loop-done-preserved
loop-done-preserved c =
    let x = c.index-told-place.result in
    one_done c.args.told.now c.loop-done.done _ x c.type_code-code.result c.at.result (kept c.loop-done.later) (kept c.put.new.self) c.loop-done.made.items c.push.new.self.items c.loop-done-test.true refl c.index-told-place.is (c.type_code-code.ensures ∙ (ap (type_code 0) c.as_ref.ensures ∙ ap code_of (sym c.index-told-place.is))) c.at.ensures c.in_ok-put.ensures c.in_ok-push.ensures.items c.loop-done.invariant

pub returns : goal.returns
returns c = all_done c.args.told.now c.loop-done.done (kept c.loop-done.later) c.loop-done.made.items c.loop-done-test.false c.loop-done.invariant
