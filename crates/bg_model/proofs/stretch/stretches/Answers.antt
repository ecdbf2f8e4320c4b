use Rattle.std.proofs.Common.{[], ◌∷◌, ◌++◌, map, ap, ◌∙◌}
use Rattle.bg_model.specs.Behind.{stretch_of}
use Rattle.bg_model.proofs.Stretches.{none_behind, first_behind, next_behind, all_behind}
use Rattle.bg_model.proofs.stretch.stretches.Goals as goal

pub returns-in_default : goal.returns-in_default
returns-in_default c =
    ap (map stretch_of) c.new-made.ensures.items ∙ none_behind c.args.front c.args.forms.now c.in_default.ensures.cases

pub loop-b-init : goal.loop-b-init
loop-b-init c =
    first_behind c.args.front c.args.forms.now c.in-Some.first.now c.in-Some.rest.now c.push.new.self.items c.part.result c.in-Some.ensures.cases.0 (c.in_ok-push.ensures.items ∙ ap (λ xs. xs ++ c.part.result ∷ []) c.new-made.ensures.items) c.part.ensures

pub loop-b-preserved : goal.loop-b-preserved
loop-b-preserved c =
    next_behind c.in-Some.rest.now c.loop-b.b-index c.b-item.result c.loop-b.made.items c.push-in-loop-b.new.self.items c.part-in-loop-b.result _ c.loop-b-test.true c.b-item.is c.in_ok-push-2.ensures.items c.part-in-loop-b.ensures c.loop-b.invariant

pub returns : goal.returns
returns c = all_behind c.in-Some.rest.now c.loop-b.b-index c.loop-b.made.items _ c.loop-b-test.false c.loop-b.invariant
