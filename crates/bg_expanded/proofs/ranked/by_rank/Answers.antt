use Rattle.std.proofs.Common.{rules, subst, List}
use Rattle.std.specs.List.Sorted.{IsPermutation}
use Rattle.std.proofs.lemmas.List.Sorted.{IsNonDecreasingBy-from_sort_by_key}
use Rattle.bg_expanded.specs.declared.ranked.Ranked.{Ranked}
use Rattle.bg_expanded.proofs.ranked.by_rank.Goals as goal

pub returns-clause-same : goal.returns-clause-same
returns-clause-same c =
    subst (λ (rs : List Ranked). IsPermutation rs c.sort_by_key.new.self.items) c.in_ok-made.ensures c.in_ok-sort_by_key.ensures.permutation

pub returns-clause-rising : goal.returns-clause-rising
returns-clause-rising c = IsNonDecreasingBy-from_sort_by_key (λ r. r.rank) _ c.in_ok-sort_by_key.ensures.sorted (λ a r q k. search rules)
