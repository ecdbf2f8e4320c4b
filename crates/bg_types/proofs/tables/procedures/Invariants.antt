use Rattle.std.proofs.Common.{◌≡◌, ◌++◌, map, drop}
use Rattle.bg_ast.specs.Views.{proc_of}
use Rattle.bg_kinds.specs.Faults.{first_of}
use Rattle.bg_kinds.specs.Kinds.{named_by}
use Rattle.bg_types.specs.Programs.{procedure_shape, procedures_faults}
use Rattle.bg_kinds.specs.FaultViews.{best_of}
use Rattle.bg_kinds.specs.KindViews.{kinds_in}
use Rattle.bg_typing.specs.SideViews.{shape_of}
use Rattle.bg_types.proofs.tables.procedures.Given as goal

abbrev pub invariant-loop-q : goal.invariant-loop-q
invariant-loop-q l =
    record {
      best : first_of (best_of l.best) (procedures_faults (named_by (kinds_in l.named)) (map proc_of (drop l.q-index l.qs))) ≡ first_of (best_of l.fn.best) (procedures_faults (named_by (kinds_in l.named)) (map proc_of l.qs));
      shapes : (map shape_of l.made.items ++ map (procedure_shape (named_by (kinds_in l.named))) (map proc_of (drop l.q-index l.qs))) ≡ map (procedure_shape (named_by (kinds_in l.named))) (map proc_of l.qs);
    }
