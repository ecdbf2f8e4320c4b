use Rattle.std.proofs.Common.{◌+◌, map, drop, refl, ◌∙◌, sym, append-nil, ◌++◌}
use Rattle.std.proofs.lemmas.List.{at_drop_all}
use Rattle.bg_kinds.specs.FaultViews.{best_of}
use Rattle.bg_kinds.specs.Faults.{first_of}
use Rattle.bg_ast.specs.Views.{proc_of}
use Rattle.bg_kinds.specs.Kinds.{named_by}
use Rattle.bg_types.specs.Programs.{procedure_shape, two_lists_faults, procedures_faults}
use Rattle.bg_kinds.specs.KindViews.{kinds_in}
use Rattle.bg_typing.specs.SideViews.{shape_of}
use Rattle.bg_kinds.proofs.Loops.{dropped, step_best, step_made}
use Rattle.bg_types.proofs.tables.procedures.Goals as goal

pub loop-q-preserved : goal.loop-q-preserved
loop-q-preserved c =
    let named = named_by (kinds_in c.args.named.now) in
    let x = c.q-item.result in
    let rest = drop (c.loop-q.q-index + 1) c.args.qs.now in
    let at = dropped c.args.qs.now c.loop-q.q-index x c.loop-q-test.true c.q-item.is in
    record {
      best = step_best (λ l. procedures_faults named (map proc_of l)) (two_lists_faults named (proc_of x).params (proc_of x).results) _ rest x _ _ at refl c.in_ok-shape_of_procedure.ensures.best ∙ c.loop-q.invariant.best;
      shapes = step_made (λ l. map (procedure_shape named) (map proc_of l)) shape_of (procedure_shape named (proc_of x)) c.loop-q.made.items _ c.in_ok-shape_of_procedure.field-0 _ rest x at refl c.in_ok-push.ensures.items c.in_ok-shape_of_procedure.ensures.shape ∙ c.loop-q.invariant.shapes;
    }

pub returns-clause-best : goal.returns-clause-best
returns-clause-best c =
    sym (at_drop_all (λ l. first_of (best_of c.loop-q.best) (procedures_faults (named_by (kinds_in c.args.named.now)) (map proc_of l))) c.args.qs.now c.loop-q.q-index c.loop-q-test.false) ∙ c.loop-q.invariant.best

pub returns-clause-shapes : goal.returns-clause-shapes
returns-clause-shapes c =
    let made = map shape_of c.loop-q.made.items in
    sym (append-nil made) ∙ sym (at_drop_all (λ l. made ++ map (procedure_shape (named_by (kinds_in c.args.named.now))) (map proc_of l)) c.args.qs.now c.loop-q.q-index c.loop-q-test.false) ∙ c.loop-q.invariant.shapes
