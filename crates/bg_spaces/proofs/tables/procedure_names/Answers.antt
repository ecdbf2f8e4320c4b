use Rattle.std.proofs.Common.{refl, flat_map, arith}
use Rattle.bg_text.specs.Views as v
use Rattle.bg_spaces.specs.Declarations.{procedure_ids_of}
use Rattle.bg_spaces.proofs.Gathered.{gathered_step, gathered}
use Rattle.bg_spaces.proofs.tables.procedure_names.Goals as goal

pub loop-d-preserved : goal.loop-d-preserved
loop-d-preserved c = gathered_step (flat_map (λ d. procedure_ids_of (v.decl_of d))) (λ d. procedure_ids_of (v.decl_of d)) (λ x xs. refl) _ _ c.args.decls.now c.loop-d.d-index c.d-item.result _ c.loop-d-test.true c.d-item.is c.loop-d.invariant c.in_ok-push_procedure_name.ensures.ok

pub returns-clause-ok : goal.returns-clause-ok
returns-clause-ok c = gathered (flat_map (λ d. procedure_ids_of (v.decl_of d))) refl _ _ c.args.decls.now c.loop-d.d-index (omega (arith, c.loop-d-test.false)) c.loop-d.invariant
