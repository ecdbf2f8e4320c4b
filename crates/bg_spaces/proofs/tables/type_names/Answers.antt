use Rattle.std.proofs.Common.{sym, ◌∙◌, refl, append-nil, map, flat_map, ◌++◌}
use Rattle.std.proofs.lemmas.List.{at_drop_all}
use Rattle.bg_names.specs.Views.{id_in}
use Rattle.bg_spaces.specs.Declarations.{type_ids_of}
use Rattle.bg_text.specs.Views as v
use Rattle.bg_spaces.proofs.Gathered.{gathered_step}
use Rattle.bg_spaces.proofs.tables.type_names.Goals as goal

pub returns-clause-ok : goal.returns-clause-ok
returns-clause-ok c =
    let made = map id_in c.loop-d.out.items in
    sym (append-nil made) ∙ sym (at_drop_all (λ l. made ++ flat_map (λ d. type_ids_of (v.decl_of d)) l) c.args.decls.now c.loop-d.d-index c.loop-d-test.false) ∙ c.loop-d.invariant

pub loop-d-preserved : goal.loop-d-preserved
loop-d-preserved c = gathered_step (flat_map (λ d. type_ids_of (v.decl_of d))) (λ d. type_ids_of (v.decl_of d)) (λ x xs. refl) _ _ c.args.decls.now c.loop-d.d-index c.d-item.result _ c.loop-d-test.true c.d-item.is c.loop-d.invariant c.in_ok-push_type_names.ensures.ok
