use Rattle.std.proofs.Common.{◌≡◌, ◌++◌, map, drop}
use Rattle.bg_ast.specs.Views.{type_of, tys_of, indexed_of, index_view}
use Rattle.bg_kinds.specs.Synonyms.{mentioned_in, all_mentions}
use Rattle.bg_kinds.proofs.synonyms.+mentions.Given as goal

abbrev pub invariant-push_list-loop-t : goal.invariant-push_list-loop-t
invariant-push_list-loop-t l = (l.out.items ++ all_mentions (tys_of (map type_of (drop l.t-index l.ts)))) ≡ l.fn.out.items ++ all_mentions (tys_of (map type_of l.ts))

abbrev pub invariant-push_brackets-loop-bracket : goal.invariant-push_brackets-loop-bracket
invariant-push_brackets-loop-bracket l = (l.out.items ++ mentioned_in (indexed_of (map index_view (drop l.bracket-index l.brackets)))) ≡ l.fn.out.items ++ mentioned_in (indexed_of (map index_view l.brackets))
