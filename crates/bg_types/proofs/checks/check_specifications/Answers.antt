use Rattle.std.proofs.Common.{◌+◌, ◌<◌, ◌∷◌, length, map, drop, ap, arith, ◌∙◌}
use Rattle.bg_ast.specs.Views.{proc_of}
use Rattle.bg_types.specs.Checks.{specification_by, specifications_by}
use Rattle.bg_typing.specs.SideViews.{scope_of, shape_of}
use Rattle.bg_types.specs.Tables.{frame_of}
use Rattle.bg_kinds.proofs.Loops.{dropped, step_on}
use Rattle.bg_types.proofs.checks.check_specifications.Goals as goal

pub loop-i-preserved : goal.loop-i-preserved
loop-i-preserved c =
    let g = scope_of c.args.g in
    let i = c.loop-i.i in
    let s = c.index-shapes-i.result in
    let f = c.index-frames-i.result in
    let q = c.index-qs-i.result in
    let near : i < length c.args.qs.now = c.loop-i-test.true in
    let near_shape : i < length c.args.shapes.now = omega arith in
    let near_frame : i < length c.args.frames.now = omega arith in
    let shapes = dropped c.args.shapes.now i s near_shape c.index-shapes-i.is in
    let frames = dropped c.args.frames.now i f near_frame c.index-frames-i.is in
    let qs = dropped c.args.qs.now i q near c.index-qs-i.is in
    let whole =
    ap (λ l. specifications_by g (map shape_of l) (map frame_of (drop i c.args.frames.now)) (map proc_of (drop i c.args.qs.now))) shapes
    ∙ (ap (λ l. specifications_by g (map shape_of (s ∷ drop (i + 1) c.args.shapes.now)) (map frame_of l) (map proc_of (drop i c.args.qs.now))) frames
    ∙ ap (λ l. specifications_by g (map shape_of (s ∷ drop (i + 1) c.args.shapes.now)) (map frame_of (f ∷ drop (i + 1) c.args.frames.now)) (map proc_of l)) qs)
    in
    step_on (specification_by g (shape_of s) (frame_of f) (proc_of q)) _ _ _ _ whole c.in_ok-check_specification.ensures ∙ c.loop-i.invariant
