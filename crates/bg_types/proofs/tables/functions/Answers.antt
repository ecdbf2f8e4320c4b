use Rattle.std.proofs.Common.{◌+◌, map, drop, refl, ◌∙◌, sym, append-nil, ◌++◌}
use Rattle.std.proofs.lemmas.List.{at_drop_all}
use Rattle.bg_kinds.specs.FaultViews.{best_of}
use Rattle.bg_kinds.specs.Faults.{first_of}
use Rattle.bg_ast.specs.Views.{fun_of}
use Rattle.bg_kinds.specs.Kinds.{named_by}
use Rattle.bg_types.specs.Programs.{function_shape, shape_faults, functions_faults}
use Rattle.bg_kinds.specs.KindViews.{kinds_in}
use Rattle.bg_typing.specs.SideViews.{shape_of}
use Rattle.bg_kinds.proofs.Loops.{dropped, step_best, step_made}
use Rattle.bg_types.proofs.tables.functions.Goals as goal

pub loop-f-preserved : goal.loop-f-preserved
loop-f-preserved c =
    let named = named_by (kinds_in c.args.named.now) in
    let x = c.f-item.result in
    let rest = drop (c.loop-f.f-index + 1) c.args.fs.now in
    let at = dropped c.args.fs.now c.loop-f.f-index x c.loop-f-test.true c.f-item.is in
    record {
      best = step_best (λ l. functions_faults named (map fun_of l)) (shape_faults named (fun_of x)) _ rest x _ _ at refl c.in_ok-shape_of_function.ensures.best ∙ c.loop-f.invariant.best;
      shapes = step_made (λ l. map (function_shape named) (map fun_of l)) shape_of (function_shape named (fun_of x)) c.loop-f.made.items _ c.in_ok-shape_of_function.field-0 _ rest x at refl c.in_ok-push.ensures.items c.in_ok-shape_of_function.ensures.shape ∙ c.loop-f.invariant.shapes;
    }

pub returns-clause-best : goal.returns-clause-best
returns-clause-best c =
    sym (at_drop_all (λ l. first_of (best_of c.loop-f.best) (functions_faults (named_by (kinds_in c.args.named.now)) (map fun_of l))) c.args.fs.now c.loop-f.f-index c.loop-f-test.false) ∙ c.loop-f.invariant.best

pub returns-clause-shapes : goal.returns-clause-shapes
returns-clause-shapes c =
    let made = map shape_of c.loop-f.made.items in
    sym (append-nil made) ∙ sym (at_drop_all (λ l. made ++ map (function_shape (named_by (kinds_in c.args.named.now))) (map fun_of l)) c.args.fs.now c.loop-f.f-index c.loop-f-test.false) ∙ c.loop-f.invariant.shapes
