use Rattle.std.proofs.Common.{◌+◌, ◌++◌, map, drop, ap, refl, ◌∙◌, sym}
use Rattle.std.proofs.lemmas.List.{at_drop_all}
use Rattle.bg_ast.specs.Views.{type_of, tys_of, indexed_of, index_view}
use Rattle.bg_kinds.specs.Faults.{first_of}
use Rattle.bg_kinds.specs.Kinds.{key_in, keys_in, kind_in, types_faults, indices_faults, type_faults, index_fault, start_of, named_by}
use Rattle.bg_kinds.specs.Rows.{rows_in, keys_read, rows_read, both_keys, in_front}
use Rattle.bg_kinds.specs.FaultViews.{best_of}
use Rattle.bg_kinds.specs.KindViews.{kinds_in, kind_in_of}
use Rattle.bg_kinds.proofs.Loops.{dropped, step_best, both}
use Rattle.bg_kinds.proofs.Gathered.{map_best, map_kind_of, types_step, gather_step, front_end}
use Rattle.bg_kinds.proofs.written.+written.Goals as goal

pub judge_type-returns-in_ok-made-in-Map-clause-best : goal.judge_type-returns-in_ok-made-in-Map-clause-best
judge_type-returns-in_ok-made-in-Map-clause-best t c =
    map_best (named_by (kinds_in c.args.named.now)) _ _ _ _ _ _ _ _ c.in-Map.is c.deref-in-Map.ensures.value c.deref-in-Map-2.ensures c.in_ok-maps-in-Map.ensures.best c.in_ok-kind-in-Map.ensures.best

pub judge_type-returns-in_ok-made-in-Map-clause-kind : goal.judge_type-returns-in_ok-made-in-Map-clause-kind
judge_type-returns-in_ok-made-in-Map-clause-kind t c =
    c.in_ok-made-in-Map.ensures
    ∙ map_kind_of (named_by (kinds_in c.args.named.now)) _ _ _ _ _ _ _ c.in-Map.is c.deref-in-Map.ensures.value c.deref-in-Map-2.ensures c.in_ok-maps-in-Map.ensures.maps c.in_ok-kind-in-Map.ensures.kind

pub judge_indices-loop-t-preserved : goal.judge_indices-loop-t-preserved
judge_indices-loop-t-preserved t c =
    let named = named_by (kinds_in c.args.named.now) in
    let x = c.t-item.result in
    let rest = drop (c.loop-t.t-index + 1) c.args.ts.now in
    let at = dropped c.args.ts.now c.loop-t.t-index x c.loop-t-test.true c.t-item.is in
    let inner = type_faults named (type_of x) in
    let own = index_fault (start_of (type_of x)) (kind_in named (type_of x)) in
    let middle = best_of c.judge_type.new.best in
    let last =
    c.index_of-key.ensures.best
    ∙ (ap (λ p. first_of middle (index_fault p (kind_in_of c.in_ok-kind.kind))) c.start.ensures
    ∙ ap (λ k. first_of middle (index_fault (start_of (type_of x)) k)) c.in_ok-kind.ensures.kind)
    in
    record {
      best =
          step_best (λ l. types_faults named (tys_of (map type_of l))) (inner ++ own) _ rest x (best_of c.loop-t.best) _ at (types_step named x rest) (both (best_of c.loop-t.best) middle _ inner own c.in_ok-kind.ensures.best last)
          ∙ c.loop-t.invariant.best;
      keys =
          gather_step (λ l. keys_in named (tys_of (map type_of l))) (keys_read c.loop-t.keys) (keys_read c.in_ok-keys.keys) (key_in (kind_in named (type_of x))) _ rest x at refl (c.in_ok-keys.ensures ∙ ap (both_keys (keys_read c.loop-t.keys)) (c.index_of-key.ensures.key ∙ ap key_in c.in_ok-kind.ensures.kind))
          ∙ c.loop-t.invariant.keys;
    }

pub judge_brackets-loop-bracket-preserved : goal.judge_brackets-loop-bracket-preserved
judge_brackets-loop-bracket-preserved t c =
    let named = named_by (kinds_in c.args.named.now) in
    let x = c.bracket-item.result in
    let rest = drop (c.loop-bracket.bracket-index + 1) c.args.brackets.now in
    let at = dropped c.args.brackets.now c.loop-bracket.bracket-index x c.loop-bracket-test.true c.bracket-item.is in
    let inner = types_faults named (tys_of (map type_of x.indices.items)) in
    let keys = keys_in named (tys_of (map type_of x.indices.items)) in
    record {
      best =
          step_best (λ l. indices_faults named (indexed_of (map index_view l))) inner _ rest x (best_of c.loop-bracket.best) _ at refl (c.in_ok-keys.ensures.best ∙ ap (λ l. first_of (best_of c.loop-bracket.best) (types_faults named (tys_of (map type_of l)))) c.deref.ensures.value)
          ∙ c.loop-bracket.invariant.best;
      maps =
          gather_step (λ l. rows_in (keys_in named) (indexed_of (map index_view l))) (rows_read c.loop-bracket.maps) (rows_read c.in_ok-maps.maps) keys _ rest x at refl (c.in_ok-maps.ensures ∙ ap (both_keys (rows_read c.loop-bracket.maps)) (c.in_ok-keys.ensures.keys ∙ ap (λ l. keys_in named (tys_of (map type_of l))) c.deref.ensures.value))
          ∙ c.loop-bracket.invariant.maps;
    }

pub judge_brackets-returns-clause-best : goal.judge_brackets-returns-clause-best
judge_brackets-returns-clause-best t c =
    sym (at_drop_all (λ l. first_of (best_of c.loop-bracket.best) (indices_faults (named_by (kinds_in c.args.named.now)) (indexed_of (map index_view l)))) c.args.brackets.now c.loop-bracket.bracket-index c.loop-bracket-test.false) ∙ c.loop-bracket.invariant.best

pub judge_brackets-returns-clause-maps : goal.judge_brackets-returns-clause-maps
judge_brackets-returns-clause-maps t c =
    let maps = rows_read c.loop-bracket.maps in
    sym (front_end maps)
    ∙ sym (at_drop_all (λ l. in_front maps (rows_in (keys_in (named_by (kinds_in c.args.named.now))) (indexed_of (map index_view l)))) c.args.brackets.now c.loop-bracket.bracket-index c.loop-bracket-test.false)
    ∙ c.loop-bracket.invariant.maps

pub judge_indices-returns-in-None-clause-best : goal.judge_indices-returns-in-None-clause-best
judge_indices-returns-in-None-clause-best t c =
    sym (at_drop_all (λ l. first_of (best_of c.loop-t.best) (types_faults (named_by (kinds_in c.args.named.now)) (tys_of (map type_of l)))) c.args.ts.now c.loop-t.t-index c.loop-t-test.false) ∙ c.loop-t.invariant.best

pub judge_indices-returns-in-None-clause-keys : goal.judge_indices-returns-in-None-clause-keys
judge_indices-returns-in-None-clause-keys t c =
    let keys = keys_read c.loop-t.keys in
    ap keys_read (sym c.in-None.is)
    ∙ sym (front_end keys)
    ∙ sym (at_drop_all (λ l. in_front keys (keys_in (named_by (kinds_in c.args.named.now)) (tys_of (map type_of l)))) c.args.ts.now c.loop-t.t-index c.loop-t-test.false)
    ∙ c.loop-t.invariant.keys

pub judge_indices-returns-in-Some-clause-best : goal.judge_indices-returns-in-Some-clause-best
judge_indices-returns-in-Some-clause-best t c =
    sym (at_drop_all (λ l. first_of (best_of c.loop-t.best) (types_faults (named_by (kinds_in c.args.named.now)) (tys_of (map type_of l)))) c.args.ts.now c.loop-t.t-index c.loop-t-test.false) ∙ c.loop-t.invariant.best

pub judge_indices-returns-in-Some-clause-keys : goal.judge_indices-returns-in-Some-clause-keys
judge_indices-returns-in-Some-clause-keys t c =
    let keys = keys_read c.loop-t.keys in
    ap keys_read (sym c.in-Some.is)
    ∙ sym (front_end keys)
    ∙ sym (at_drop_all (λ l. in_front keys (keys_in (named_by (kinds_in c.args.named.now)) (tys_of (map type_of l)))) c.args.ts.now c.loop-t.t-index c.loop-t-test.false)
    ∙ c.loop-t.invariant.keys
