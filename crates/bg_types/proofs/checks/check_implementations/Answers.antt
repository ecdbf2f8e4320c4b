use Rattle.std.proofs.Common.{◌+◌, ◌<◌, ◌∷◌, length, map, drop, ap, arith, ◌∙◌}
use Rattle.bg_ast.specs.Views.{impl_of}
use Rattle.bg_types.specs.Checks.{implementation_by, implementations_by}
use Rattle.bg_typing.specs.SideViews.{scope_of}
use Rattle.bg_types.specs.Tables.{frame_of}
use Rattle.bg_kinds.proofs.Loops.{dropped, step_on}
use Rattle.bg_types.proofs.checks.check_implementations.Goals as goal

pub loop-i-preserved : goal.loop-i-preserved
loop-i-preserved c =
    let g = scope_of c.args.g in
    let i = c.loop-i.i in
    let f = c.index-frames-i.result in
    let m = c.index-ms-i.result in
    let near : i < length c.args.ms.now = c.loop-i-test.true in
    let near_frame : i < length c.args.frames.now = omega arith in
    let frames = dropped c.args.frames.now i f near_frame c.index-frames-i.is in
    let ms = dropped c.args.ms.now i m near c.index-ms-i.is in
    let whole = ap (λ l. implementations_by g (map frame_of l) (map impl_of (drop i c.args.ms.now))) frames ∙ ap (λ l. implementations_by g (map frame_of (f ∷ drop (i + 1) c.args.frames.now)) (map impl_of l)) ms in
    step_on (implementation_by g (frame_of f) (impl_of m)) _ _ _ _ whole c.in_ok-check_implementation.ensures ∙ c.loop-i.invariant
