use Rattle.std.proofs.Common.{map, flat_map, sym, ap, ◌∙◌}
use Rattle.std.proofs.lemmas.List.{take_all, at_drop_all}
use Rattle.bg_text.specs.Views as v
use Rattle.bg_ast.specs.Views.{target_of}
use Rattle.bg_names.specs.Inside.{named_target, target_faults}
use Rattle.bg_names.specs.Faults.{better}
use Rattle.bg_names.specs.Views.{inside_of, first_of}
use Rattle.bg_names.proofs.Firsts.{better_step, made_step}
use Rattle.bg_names.proofs.changes.targets.Goals as goal

pub loop-x-preserved : goal.loop-x-preserved
loop-x-preserved c =
    let s = inside_of c.args.inside.now in
    (made_step target_of (λ x. named_target s (v.target_of x)) _ _ c.args.xs.now c.loop-x.x-index c.x-item.result c.in_ok-x.x c.loop-x-test.true c.x-item.is c.loop-x.invariant.0 c.in_ok-x.ensures.made c.in_ok-push.ensures.items, better_step (λ x. target_faults s (v.target_of x)) _ _ c.args.xs.now c.loop-x.x-index c.x-item.result _ c.loop-x-test.true c.x-item.is c.loop-x.invariant.1 c.in_ok-x.ensures.first)

pub returns-clause-made : goal.returns-clause-made
returns-clause-made c =
    let s = inside_of c.args.inside.now in
    c.loop-x.invariant.0 ∙ ap (map (λ x. named_target s (v.target_of x))) (take_all c.loop-x.x-index c.args.xs.now c.loop-x-test.false)

pub returns-clause-first : goal.returns-clause-first
returns-clause-first c =
    let s = inside_of c.args.inside.now in
    sym (at_drop_all (λ l. better (first_of c.loop-x.notes) (flat_map (λ x. target_faults s (v.target_of x)) l)) c.args.xs.now c.loop-x.x-index c.loop-x-test.false) ∙ c.loop-x.invariant.1
