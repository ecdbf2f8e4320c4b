use Rattle.std.proofs.Common.{◌≡◌, map, drop}
use Rattle.bg_ast.specs.Views.{type_of, tys_of, indexed_of, index_view}
use Rattle.bg_kinds.specs.Faults.{first_of}
use Rattle.bg_kinds.specs.Kinds.{keys_in, types_faults, indices_faults, named_by}
use Rattle.bg_kinds.specs.Rows.{rows_in, in_front, keys_read, rows_read}
use Rattle.bg_kinds.specs.FaultViews.{best_of}
use Rattle.bg_kinds.specs.KindViews.{kinds_in}
use Rattle.bg_kinds.proofs.written.+written.Given as goal

abbrev pub invariant-judge_indices-loop-t : goal.invariant-judge_indices-loop-t
invariant-judge_indices-loop-t l =
    record {
      best : first_of (best_of l.best) (types_faults (named_by (kinds_in l.fn.named)) (tys_of (map type_of (drop l.t-index l.ts)))) ≡ first_of (best_of l.fn.best) (types_faults (named_by (kinds_in l.fn.named)) (tys_of (map type_of l.ts)));
      keys : in_front (keys_read l.keys) (keys_in (named_by (kinds_in l.fn.named)) (tys_of (map type_of (drop l.t-index l.ts)))) ≡ keys_in (named_by (kinds_in l.fn.named)) (tys_of (map type_of l.ts));
    }

abbrev pub invariant-judge_brackets-loop-bracket : goal.invariant-judge_brackets-loop-bracket
invariant-judge_brackets-loop-bracket l =
    record {
      best : first_of (best_of l.best) (indices_faults (named_by (kinds_in l.fn.named)) (indexed_of (map index_view (drop l.bracket-index l.brackets)))) ≡ first_of (best_of l.fn.best) (indices_faults (named_by (kinds_in l.fn.named)) (indexed_of (map index_view l.brackets)));
      maps : in_front (rows_read l.maps) (rows_in (keys_in (named_by (kinds_in l.fn.named))) (indexed_of (map index_view (drop l.bracket-index l.brackets)))) ≡ rows_in (keys_in (named_by (kinds_in l.fn.named))) (indexed_of (map index_view l.brackets));
    }
