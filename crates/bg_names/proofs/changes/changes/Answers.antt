use Rattle.std.proofs.Common.{map, flat_map, sym, ap, ◌∙◌}
use Rattle.std.proofs.lemmas.List.{take_all, at_drop_all}
use Rattle.bg_text.specs.Views as v
use Rattle.bg_ast.specs.Views.{placed_of}
use Rattle.bg_names.specs.Inside.{placed, id_faults}
use Rattle.bg_names.specs.Faults.{better}
use Rattle.bg_names.specs.Views.{inside_of, first_of}
use Rattle.bg_names.proofs.Firsts.{better_step, made_step}
use Rattle.bg_names.proofs.changes.changes.Goals as goal

pub loop-name-preserved : goal.loop-name-preserved
loop-name-preserved c =
    let s = inside_of c.args.inside.now in
    (made_step placed_of (λ x. placed s (v.id_of x)) _ _ c.args.names.now c.loop-name.name-index c.name-item.result c.in_ok-x.x c.loop-name-test.true c.name-item.is c.loop-name.invariant.0 c.in_ok-x.ensures.made c.in_ok-push.ensures.items, better_step (λ x. id_faults s (v.id_of x)) _ _ c.args.names.now c.loop-name.name-index c.name-item.result _ c.loop-name-test.true c.name-item.is c.loop-name.invariant.1 c.in_ok-x.ensures.first)

pub returns-clause-made : goal.returns-clause-made
returns-clause-made c =
    let s = inside_of c.args.inside.now in
    c.loop-name.invariant.0 ∙ ap (map (λ x. placed s (v.id_of x))) (take_all c.loop-name.name-index c.args.names.now c.loop-name-test.false)

pub returns-clause-first : goal.returns-clause-first
returns-clause-first c =
    let s = inside_of c.args.inside.now in
    sym (at_drop_all (λ l. better (first_of c.loop-name.notes) (flat_map (λ x. id_faults s (v.id_of x)) l)) c.args.names.now c.loop-name.name-index c.loop-name-test.false) ∙ c.loop-name.invariant.1
