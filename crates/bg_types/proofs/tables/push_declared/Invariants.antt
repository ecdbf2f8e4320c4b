use Rattle.std.proofs.Common.{◌≡◌, ◌++◌, map, drop}
use Rattle.bg_ast.specs.Views.{declared_of}
use Rattle.bg_kinds.specs.Faults.{first_of}
use Rattle.bg_kinds.specs.Kinds.{named_by}
use Rattle.bg_types.specs.Programs.{declared_kinds, declared_faults}
use Rattle.bg_kinds.specs.FaultViews.{best_of}
use Rattle.bg_kinds.specs.KindViews.{kinds_in}
use Rattle.bg_types.proofs.tables.push_declared.Given as goal

abbrev pub invariant-loop-d : goal.invariant-loop-d
invariant-loop-d l =
    record {
      best : first_of (best_of l.best) (declared_faults (named_by (kinds_in l.named)) (map declared_of (drop l.d-index l.ds))) ≡ first_of (best_of l.fn.best) (declared_faults (named_by (kinds_in l.named)) (map declared_of l.ds));
      kinds : (kinds_in l.out.items ++ declared_kinds (named_by (kinds_in l.named)) (map declared_of (drop l.d-index l.ds))) ≡ (kinds_in l.fn.out.items ++ declared_kinds (named_by (kinds_in l.named)) (map declared_of l.ds));
    }
