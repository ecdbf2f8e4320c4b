use Rattle.std.proofs.Common.{sym, ◌∙◌, ap, refl, append-nil, map, drop, ◌++◌, ◌+◌}
use Rattle.std.proofs.lemmas.List.{at_drop_all}
use Rattle.bg_kinds.specs.Synonyms.{mentions, mentioned_in, all_mentions}
use Rattle.bg_ast.specs.Views.{type_of, tys_of, indexed_of, index_view}
use Rattle.bg_kinds.proofs.Loops.{dropped, step_more}
use Rattle.bg_kinds.proofs.Gathered.{mentions_map}
use Rattle.bg_kinds.proofs.synonyms.+mentions.Goals as goal

pub push_mentions-returns-in_ok-push_mentions-in-Map : goal.push_mentions-returns-in_ok-push_mentions-in-Map
push_mentions-returns-in_ok-push_mentions-in-Map t c =
    mentions_map _ _ _ _ _ _ _ _ c.in-Map.is c.deref-in-Map.ensures.value c.deref-in-Map-2.ensures c.in_ok-push_brackets-in-Map.ensures c.in_ok-push_mentions-in-Map.ensures

pub push_list-returns : goal.push_list-returns
push_list-returns t c =
    let made = c.loop-t.out.items in
    sym (append-nil made) ∙ sym (at_drop_all (λ l. made ++ all_mentions (tys_of (map type_of l))) c.args.ts.now c.loop-t.t-index c.loop-t-test.false) ∙ c.loop-t.invariant

pub push_brackets-returns : goal.push_brackets-returns
push_brackets-returns t c =
    let made = c.loop-bracket.out.items in
    sym (append-nil made) ∙ sym (at_drop_all (λ l. made ++ mentioned_in (indexed_of (map index_view l))) c.args.brackets.now c.loop-bracket.bracket-index c.loop-bracket-test.false) ∙ c.loop-bracket.invariant

pub push_list-loop-t-preserved : goal.push_list-loop-t-preserved
push_list-loop-t-preserved t c =
    let x = c.t-item.result in
    let rest = drop (c.loop-t.t-index + 1) c.args.ts.now in
    let at = dropped c.args.ts.now c.loop-t.t-index x c.loop-t-test.true c.t-item.is in
    step_more (λ l. all_mentions (tys_of (map type_of l))) (λ l. all_mentions (tys_of (map type_of l))) (mentions (type_of x)) _ rest x c.loop-t.out.items _ at refl c.in_ok-push_mentions.ensures ∙ c.loop-t.invariant

pub push_brackets-loop-bracket-preserved : goal.push_brackets-loop-bracket-preserved
push_brackets-loop-bracket-preserved t c =
    let x = c.bracket-item.result in
    let rest = drop (c.loop-bracket.bracket-index + 1) c.args.brackets.now in
    let at = dropped c.args.brackets.now c.loop-bracket.bracket-index x c.loop-bracket-test.true c.bracket-item.is in
    step_more (λ l. mentioned_in (indexed_of (map index_view l))) (λ l. mentioned_in (indexed_of (map index_view l))) (all_mentions (tys_of (map type_of x.indices.items))) _ rest x c.loop-bracket.out.items _ at refl (c.in_ok-push_list.ensures ∙ ap (λ l. c.loop-bracket.out.items ++ all_mentions (tys_of (map type_of l))) c.deref.ensures.value) ∙ c.loop-bracket.invariant
