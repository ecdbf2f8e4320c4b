use Rattle.std.proofs.Common.{refl, map, flat_map, arith}
use Rattle.bg_text.specs.Views as v
use Rattle.bg_names.specs.Views.{listed}
use Rattle.bg_spaces.specs.Declarations.{changes_of}
use Rattle.bg_spaces.proofs.Gathered.{gathered_step, gathered}
use Rattle.bg_spaces.proofs.modifies.changes.Goals as goal

pub loop-d-preserved : goal.loop-d-preserved
loop-d-preserved c =
    let f = changes_of (listed c.args.values.now.names) c.args.values.now.meanings.items c.args.globals in
    gathered_step (λ l. flat_map f (map v.decl_of l)) (λ d. f (v.decl_of d)) (λ x xs. refl) _ _ c.args.decls.now c.loop-d.d-index c.d-item.result _ c.loop-d-test.true c.d-item.is c.loop-d.invariant c.in_ok-push_changes.ensures.ok

pub returns-clause-ok : goal.returns-clause-ok
returns-clause-ok c =
    let f = changes_of (listed c.args.values.now.names) c.args.values.now.meanings.items c.args.globals in
    gathered (λ l. flat_map f (map v.decl_of l)) refl _ _ c.args.decls.now c.loop-d.d-index (omega (arith, c.loop-d-test.false)) c.loop-d.invariant
