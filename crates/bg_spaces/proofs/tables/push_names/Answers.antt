use Rattle.std.proofs.Common.{sym, ap, ◌∙◌, refl, append-nil, map, ◌++◌, ◌∷◌, []}
use Rattle.std.proofs.lemmas.List.{at_drop_all, map-append}
use Rattle.bg_names.specs.Views.{id_in}
use Rattle.bg_text.specs.Views as v
use Rattle.bg_spaces.proofs.Gathered.{gathered_step}
use Rattle.bg_spaces.proofs.tables.push_names.Goals as goal

pub returns-clause-ok : goal.returns-clause-ok
returns-clause-ok c =
    let made = map id_in c.loop-name.out.items in
    sym (append-nil made) ∙ sym (at_drop_all (λ l. made ++ map v.id_of l) c.args.names.now c.loop-name.name-index c.loop-name-test.false) ∙ c.loop-name.invariant

pub loop-name-preserved : goal.loop-name-preserved
loop-name-preserved c = gathered_step (map v.id_of) (λ x. v.id_of x ∷ []) (λ x xs. refl) _ _ c.args.names.now c.loop-name.name-index c.name-item.result _ c.loop-name-test.true c.name-item.is c.loop-name.invariant (ap (map id_in) c.in_ok-push.ensures.items ∙ map-append id_in c.loop-name.out.items _)
