use Rattle.std.proofs.Common.{◌≡◌, ◌++◌, map, drop}
use Rattle.bg_ast.specs.Views.{fun_of}
use Rattle.bg_kinds.specs.Faults.{first_of}
use Rattle.bg_kinds.specs.Kinds.{named_by}
use Rattle.bg_types.specs.Programs.{function_shape, functions_faults}
use Rattle.bg_kinds.specs.FaultViews.{best_of}
use Rattle.bg_kinds.specs.KindViews.{kinds_in}
use Rattle.bg_typing.specs.SideViews.{shape_of}
use Rattle.bg_types.proofs.tables.functions.Given as goal

abbrev pub invariant-loop-f : goal.invariant-loop-f
invariant-loop-f l =
    record {
      best : first_of (best_of l.best) (functions_faults (named_by (kinds_in l.named)) (map fun_of (drop l.f-index l.fs))) ≡ first_of (best_of l.fn.best) (functions_faults (named_by (kinds_in l.named)) (map fun_of l.fs));
      shapes : (map shape_of l.made.items ++ map (function_shape (named_by (kinds_in l.named))) (map fun_of (drop l.f-index l.fs))) ≡ map (function_shape (named_by (kinds_in l.named))) (map fun_of l.fs);
    }
