use Rattle.std.proofs.Common.{refl, map, flat_map}
use Rattle.bg_text.specs.Views as v
use Rattle.bg_names.specs.Views.{listed}
use Rattle.bg_spaces.specs.Declarations.{modified_in}
use Rattle.bg_spaces.proofs.Gathered.{gathered_step}
use Rattle.bg_spaces.proofs.modifies.modifies.Goals as goal

pub loop-spec-preserved : goal.loop-spec-preserved
loop-spec-preserved c =
    let f = modified_in (listed c.args.values.now.names) c.args.values.now.meanings.items in
    gathered_step (λ l. flat_map f (map v.spec_of l)) (λ x. f (v.spec_of x)) (λ x xs. refl) _ _ c.args.specs.now c.loop-spec.spec-index c.spec-item.result _ c.loop-spec-test.true c.spec-item.is c.loop-spec.invariant c.in_ok-push_modified.ensures.ok
