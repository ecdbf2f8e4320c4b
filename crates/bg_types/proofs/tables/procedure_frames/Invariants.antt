use Rattle.std.proofs.Common.{◌≡◌, ◌++◌, map, drop}
use Rattle.bg_ast.specs.Views.{proc_of}
use Rattle.bg_kinds.specs.Kinds.{named_by}
use Rattle.bg_types.specs.Programs.{procedure_frame}
use Rattle.bg_kinds.specs.KindViews.{kinds_in}
use Rattle.bg_types.specs.Tables.{frame_of}
use Rattle.bg_types.proofs.tables.procedure_frames.Given as goal

abbrev pub invariant-loop-q : goal.invariant-loop-q
invariant-loop-q l =
    record {
      frames : (map frame_of l.made.items ++ map (procedure_frame (named_by (kinds_in l.named))) (map proc_of (drop l.q-index l.qs))) ≡ map (procedure_frame (named_by (kinds_in l.named))) (map proc_of l.qs);
    }
