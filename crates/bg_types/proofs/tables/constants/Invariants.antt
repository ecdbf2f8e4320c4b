use Rattle.std.proofs.Common.{◌≡◌, ◌++◌, map, drop}
use Rattle.bg_ast.specs.Views.{const_of}
use Rattle.bg_kinds.specs.Faults.{first_of}
use Rattle.bg_kinds.specs.Kinds.{named_by}
use Rattle.bg_types.specs.Programs.{consts_faults, const_kind}
use Rattle.bg_kinds.specs.FaultViews.{best_of}
use Rattle.bg_kinds.specs.KindViews.{kinds_in}
use Rattle.bg_types.proofs.tables.constants.Given as goal

abbrev pub invariant-loop-c : goal.invariant-loop-c
invariant-loop-c l =
    record {
      best : first_of (best_of l.best) (consts_faults (named_by (kinds_in l.named)) (map const_of (drop l.c-index l.cs))) ≡ first_of (best_of l.fn.best) (consts_faults (named_by (kinds_in l.named)) (map const_of l.cs));
      kinds : (kinds_in l.made.items ++ map (const_kind (named_by (kinds_in l.named))) (map const_of (drop l.c-index l.cs))) ≡ map (const_kind (named_by (kinds_in l.named))) (map const_of l.cs);
    }
