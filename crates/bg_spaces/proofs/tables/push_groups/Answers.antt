use Rattle.std.proofs.Common.{sym, ap, ◌∙◌, refl, append-nil, map, flat_map, ◌++◌}
use Rattle.std.proofs.lemmas.List.{at_drop_all}
use Rattle.bg_names.specs.Views.{id_in}
use Rattle.bg_text.specs.Views as v
use Rattle.bg_spaces.proofs.Gathered.{gathered_step}
use Rattle.bg_spaces.proofs.tables.push_groups.Goals as goal

pub returns-clause-ok : goal.returns-clause-ok
returns-clause-ok c =
    let made = map id_in c.loop-g.out.items in
    sym (append-nil made) ∙ sym (at_drop_all (λ l. made ++ flat_map (λ g. map v.id_of g.names.items) l) c.args.gs.now c.loop-g.g-index c.loop-g-test.false) ∙ c.loop-g.invariant

pub loop-g-preserved : goal.loop-g-preserved
loop-g-preserved c = gathered_step (flat_map (λ g. map v.id_of g.names.items)) (λ g. map v.id_of g.names.items) (λ x xs. refl) _ _ c.args.gs.now c.loop-g.g-index c.g-item.result _ c.loop-g-test.true c.g-item.is c.loop-g.invariant (c.in_ok-push_names.ensures.ok ∙ ap (λ l. map id_in c.loop-g.out.items ++ map v.id_of l) c.deref.ensures.value)
