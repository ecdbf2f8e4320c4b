use Rattle.std.proofs.Common.{◌≡◌, ◌++◌, map, drop}
use Rattle.bg_ast.specs.Views.{type_of}
use Rattle.bg_kinds.specs.Faults.{first_of}
use Rattle.bg_kinds.specs.Kinds.{kind_in, named_by}
use Rattle.bg_types.specs.Programs.{written_faults}
use Rattle.bg_kinds.specs.FaultViews.{best_of}
use Rattle.bg_kinds.specs.KindViews.{kinds_in}
use Rattle.bg_types.proofs.tables.written.Given as goal

abbrev pub invariant-loop-t : goal.invariant-loop-t
invariant-loop-t l =
    record {
      best : first_of (best_of l.best) (written_faults (named_by (kinds_in l.named)) (map type_of (drop l.t-index l.ts))) ≡ first_of (best_of l.fn.best) (written_faults (named_by (kinds_in l.named)) (map type_of l.ts));
      kinds : (kinds_in l.made.items ++ map (kind_in (named_by (kinds_in l.named))) (map type_of (drop l.t-index l.ts))) ≡ map (kind_in (named_by (kinds_in l.named))) (map type_of l.ts);
    }
