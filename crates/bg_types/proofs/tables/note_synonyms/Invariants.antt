use Rattle.std.proofs.Common.{◌≡◌, map, drop}
use Rattle.bg_ast.specs.Views.{type_name_of}
use Rattle.bg_kinds.specs.Faults.{first_of}
use Rattle.bg_kinds.specs.Kinds.{named_by}
use Rattle.bg_types.specs.Programs.{synonyms_faults}
use Rattle.bg_kinds.specs.FaultViews.{best_of}
use Rattle.bg_kinds.specs.KindViews.{kinds_in}
use Rattle.bg_types.proofs.tables.note_synonyms.Given as goal

abbrev pub invariant-loop-d : goal.invariant-loop-d
invariant-loop-d l =
    record {
      best : first_of (best_of l.best) (synonyms_faults (named_by (kinds_in l.named)) (map type_name_of (drop l.d-index l.ds))) ≡ first_of (best_of l.fn.best) (synonyms_faults (named_by (kinds_in l.named)) (map type_name_of l.ds));
    }
