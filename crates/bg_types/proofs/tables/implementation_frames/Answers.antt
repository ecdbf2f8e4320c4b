use Rattle.std.proofs.Common.{◌+◌, map, drop, refl, ◌∙◌, sym, append-nil, ◌++◌}
use Rattle.std.proofs.lemmas.List.{at_drop_all}
use Rattle.bg_kinds.specs.FaultViews.{best_of}
use Rattle.bg_kinds.specs.Faults.{first_of}
use Rattle.bg_ast.specs.Views.{impl_of}
use Rattle.bg_kinds.specs.Kinds.{named_by}
use Rattle.bg_types.specs.Programs.{frame_faults, implementations_faults, implementation_frame}
use Rattle.bg_kinds.specs.KindViews.{kinds_in}
use Rattle.bg_types.specs.Tables.{frame_of}
use Rattle.bg_kinds.proofs.Loops.{dropped, step_best, step_made}
use Rattle.bg_types.proofs.tables.implementation_frames.Goals as goal

pub loop-m-preserved : goal.loop-m-preserved
loop-m-preserved c =
    let named = named_by (kinds_in c.args.named.now) in
    let x = c.m-item.result in
    let rest = drop (c.loop-m.m-index + 1) c.args.ms.now in
    let at = dropped c.args.ms.now c.loop-m.m-index x c.loop-m-test.true c.m-item.is in
    record {
      best = step_best (λ l. implementations_faults named (map impl_of l)) (frame_faults named (impl_of x).params (impl_of x).results (impl_of x).locals) _ rest x _ _ at refl c.in_ok-implementation_frame.ensures.best ∙ c.loop-m.invariant.best;
      frames = step_made (λ l. map (implementation_frame named) (map impl_of l)) frame_of (implementation_frame named (impl_of x)) c.loop-m.made.items _ c.in_ok-implementation_frame.field-0 _ rest x at refl c.in_ok-push.ensures.items c.in_ok-implementation_frame.ensures.kinds ∙ c.loop-m.invariant.frames;
    }

pub returns-clause-best : goal.returns-clause-best
returns-clause-best c =
    sym (at_drop_all (λ l. first_of (best_of c.loop-m.best) (implementations_faults (named_by (kinds_in c.args.named.now)) (map impl_of l))) c.args.ms.now c.loop-m.m-index c.loop-m-test.false) ∙ c.loop-m.invariant.best

pub returns-clause-frames : goal.returns-clause-frames
returns-clause-frames c =
    let made = map frame_of c.loop-m.made.items in
    sym (append-nil made) ∙ sym (at_drop_all (λ l. made ++ map (implementation_frame (named_by (kinds_in c.args.named.now))) (map impl_of l)) c.args.ms.now c.loop-m.m-index c.loop-m-test.false) ∙ c.loop-m.invariant.frames
