use Rattle.std.proofs.Common.{rules, List, map, subst}
use Rattle.std.specs.List.Sorted.{IsPermutation}
use Rattle.std.proofs.lemmas.List.Sorted.{IsPermutation-map, IsNonDecreasingBy-from_sort_by_key}
use Rattle.bg_rounds.specs.declared.keeper.Removal.{Removal}
use Rattle.bg_houdini.specs.declared.reason.Reason.{Reason}
use Rattle.bg_told.proofs.history.by_number.Goals as goal

pub returns-clause-same : goal.returns-clause-same
returns-clause-same c =
    subst (λ (ds : List (Removal Reason)). IsPermutation ds (map (λ d. d.now) c.sort_by_key.new.self.items)) c.in_ok-made.ensures
    (IsPermutation-map (λ d. d.now) c.in_ok-made.made.items c.sort_by_key.new.self.items c.in_ok-sort_by_key.ensures.permutation)

pub returns-clause-rising : goal.returns-clause-rising
returns-clause-rising c = IsNonDecreasingBy-from_sort_by_key (λ d. d.now.number) _ c.in_ok-sort_by_key.ensures.sorted (λ a r q k. search rules)
