use Rattle.std.proofs.Common.{◌+◌, ◌<◌, ◌∷◌, length, map, drop, ap, sym, arith, ◌∙◌}
use Rattle.bg_text.specs.Views.{option_of}
use Rattle.bg_ast.specs.Views.{ex_of, fun_of}
use Rattle.bg_kinds.specs.Faults.{first_of}
use Rattle.bg_kinds.specs.FaultViews.{best_of}
use Rattle.bg_types.specs.Programs.{body_faults}
use Rattle.bg_types.specs.Checks.{bodies_by}
use Rattle.bg_typing.specs.SideViews.{scope_of, shape_of}
use Rattle.bg_kinds.proofs.Loops.{dropped, step_on}
use Rattle.bg_types.proofs.checks.check_bodies.Goals as goal

pub loop-i-preserved : goal.loop-i-preserved
loop-i-preserved c =
    let g = scope_of c.args.g in
    let i = c.loop-i.i in
    let s = c.index-shapes-i.result in
    let f = c.index-fs-i.result in
    let near : i < length c.args.fs.now = c.loop-i-test.true in
    let near_shape : i < length c.args.shapes.now = omega arith in
    let shapes = dropped c.args.shapes.now i s near_shape c.index-shapes-i.is in
    let fs = dropped c.args.fs.now i f near c.index-fs-i.is in
    let whole = ap (λ l. bodies_by g (map shape_of l) (map fun_of (drop i c.args.fs.now))) shapes ∙ ap (λ l. bodies_by g (map shape_of (s ∷ drop (i + 1) c.args.shapes.now)) (map fun_of l)) fs in
    step_on (body_faults g (shape_of s) (option_of ex_of f.body)) _ _ _ _ whole (c.in_ok-check_body.ensures ∙ ap (λ y. first_of (best_of c.loop-i.best) (body_faults g (shape_of s) (option_of ex_of y.body))) (sym c.index-fs-i.is)) ∙ c.loop-i.invariant
