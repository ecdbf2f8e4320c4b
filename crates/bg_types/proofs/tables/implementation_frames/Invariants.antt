use Rattle.std.proofs.Common.{◌≡◌, ◌++◌, map, drop}
use Rattle.bg_ast.specs.Views.{impl_of}
use Rattle.bg_kinds.specs.Faults.{first_of}
use Rattle.bg_kinds.specs.Kinds.{named_by}
use Rattle.bg_types.specs.Programs.{implementations_faults, implementation_frame}
use Rattle.bg_kinds.specs.FaultViews.{best_of}
use Rattle.bg_kinds.specs.KindViews.{kinds_in}
use Rattle.bg_types.specs.Tables.{frame_of}
use Rattle.bg_types.proofs.tables.implementation_frames.Given as goal

abbrev pub invariant-loop-m : goal.invariant-loop-m
invariant-loop-m l =
    record {
      best : first_of (best_of l.best) (implementations_faults (named_by (kinds_in l.named)) (map impl_of (drop l.m-index l.ms))) ≡ first_of (best_of l.fn.best) (implementations_faults (named_by (kinds_in l.named)) (map impl_of l.ms));
      frames : (map frame_of l.made.items ++ map (implementation_frame (named_by (kinds_in l.named))) (map impl_of (drop l.m-index l.ms))) ≡ map (implementation_frame (named_by (kinds_in l.named))) (map impl_of l.ms);
    }
