use Rattle.std.proofs.Common.{ℕ, ◌<◌, sym, ◌∙◌, subst}
use Rattle.bg_words.specs.Sets.{has}
use Rattle.bg_rounds.proofs.Lists.{has_below}
use Rattle.bg_rounds.proofs.Laws.{greatest, both_ways}
use Rattle.bg_rounds.proofs.law.outcomes_agree.Goals as goal

pub returns : goal.returns
returns g c s o q stands truth known other known' = let k = g.C.Checker in let met = g.met.C.Checker in
    let a = greatest (k.cands s) (k.targets s) (k.cand s) (k.passes s) (k.finds s) (k.fails s) o truth (met.shrinks s stands) (met.passing s stands) (met.failing s stands) known in
    let b = greatest (k.cands s) (k.targets s) (k.cand s) (k.passes s) (k.finds s) (k.fails s) q other (met.shrinks s stands) (met.passing s stands) (met.failing s stands) known' in
    both_ways o.retained q.retained (truth.count ∙ sym other.count)
    (b.1 (has o.retained) (λ x there. subst (λ (m : ℕ). x < m) truth.count (has_below o.retained x there)) a.0)
    (a.1 (has q.retained) (λ x there. subst (λ (m : ℕ). x < m) other.count (has_below q.retained x there)) b.0)
