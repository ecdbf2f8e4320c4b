use Rattle.std.proofs.Common.{◌+◌, map, drop, refl, ◌∙◌, sym, append-nil, ◌++◌}
use Rattle.std.proofs.lemmas.List.{at_drop_all}
use Rattle.bg_ast.specs.Views.{proc_of}
use Rattle.bg_kinds.specs.Kinds.{named_by}
use Rattle.bg_types.specs.Programs.{procedure_frame}
use Rattle.bg_kinds.specs.KindViews.{kinds_in}
use Rattle.bg_types.specs.Tables.{frame_of}
use Rattle.bg_kinds.proofs.Loops.{dropped, step_made}
use Rattle.bg_types.proofs.tables.procedure_frames.Goals as goal

pub loop-q-preserved : goal.loop-q-preserved
loop-q-preserved c =
    let named = named_by (kinds_in c.args.named.now) in
    let x = c.q-item.result in
    let rest = drop (c.loop-q.q-index + 1) c.args.qs.now in
    let at = dropped c.args.qs.now c.loop-q.q-index x c.loop-q-test.true c.q-item.is in
    record {
      frames = step_made (λ l. map (procedure_frame named) (map proc_of l)) frame_of (procedure_frame named (proc_of x)) c.loop-q.made.items _ c.in_ok-procedure_frame.field-0 _ rest x at refl c.in_ok-push.ensures.items c.in_ok-procedure_frame.ensures ∙ c.loop-q.invariant.frames;
    }

pub returns : goal.returns
returns c =
    let made = map frame_of c.loop-q.made.items in
    sym (append-nil made) ∙ sym (at_drop_all (λ l. made ++ map (procedure_frame (named_by (kinds_in c.args.named.now))) (map proc_of l)) c.args.qs.now c.loop-q.q-index c.loop-q-test.false) ∙ c.loop-q.invariant.frames
