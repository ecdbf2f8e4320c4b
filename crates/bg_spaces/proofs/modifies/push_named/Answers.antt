use Rattle.std.proofs.Common.{sym, ◌∙◌, refl, append-nil, map, flat_map, ◌++◌}
use Rattle.std.proofs.lemmas.List.{at_drop_all}
use Rattle.bg_names.specs.Views.{listed}
use Rattle.bg_spaces.specs.Declarations.{global_in, value_of}
use Rattle.bg_text.specs.Views as v
use Rattle.bg_spaces.proofs.Gathered.{gathered_step}
use Rattle.bg_spaces.proofs.modifies.push_named.Goals as goal

pub returns-clause-ok : goal.returns-clause-ok
returns-clause-ok c =
    let made = c.loop-name.out.items in
    sym (append-nil made) ∙ sym (at_drop_all (λ l. made ++ flat_map (λ x. global_in (value_of (listed c.args.values.now.names) c.args.values.now.meanings.items x.text)) (map v.id_of l)) c.args.names.now c.loop-name.name-index c.loop-name-test.false) ∙ c.loop-name.invariant

pub loop-name-preserved : goal.loop-name-preserved
loop-name-preserved c =
    let values = c.args.values.now in
    gathered_step (λ l. flat_map (λ x. global_in (value_of (listed values.names) values.meanings.items x.text)) (map v.id_of l)) (λ x. global_in (value_of (listed values.names) values.meanings.items (v.id_of x).text)) (λ x xs. refl) _ _ c.args.names.now c.loop-name.name-index c.name-item.result _ c.loop-name-test.true c.name-item.is c.loop-name.invariant c.in_ok-push_global.ensures.ok
