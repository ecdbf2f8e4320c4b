use Rattle.std.proofs.Common.{◌<◌, Some, length, ap, ◌∙◌, rules}
use Rattle.bg_elim.proofs.Begins.{given_at}
use Rattle.bg_elim.proofs.keep.keep_tight.Goals as goal

pub returns-then-are_same-clause-place : goal.returns-then-are_same-clause-place
returns-then-are_same-clause-place c =
    let rows = c.args.work.now.rows.items in
    let lt : c.args.n < length rows = search rules in
    given_at rows c.args.n c.index.result.now lt c.index.ensures ∙ ap (λ r. Some r) (c.are_same.ensures c.if-are_same.true)
