use Rattle.std.proofs.Common.{refl, map}
use Rattle.bg_text.specs.Views as v
use Rattle.bg_spaces.specs.Declarations.{global_ids, global_ids_of}
use Rattle.bg_spaces.proofs.Gathered.{gathered_step}
use Rattle.bg_spaces.proofs.entries.global_names.Goals as goal

pub loop-d-preserved : goal.loop-d-preserved
loop-d-preserved c = gathered_step (λ l. global_ids (map v.decl_of l)) (λ d. global_ids_of (v.decl_of d)) (λ x xs. refl) _ _ c.args.decls.now c.loop-d.d-index c.d-item.result _ c.loop-d-test.true c.d-item.is c.loop-d.invariant c.in_ok-push_global_names.ensures.ok
