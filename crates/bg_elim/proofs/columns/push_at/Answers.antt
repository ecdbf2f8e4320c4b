use Rattle.bg_elim.proofs.Lists.{pushed, kept}
use Rattle.bg_elim.proofs.columns.push_at.Goals as goal

pub returns-clause-keeps : goal.returns-clause-keeps
returns-clause-keeps c = λ q m h.
    kept c.extend.new.lists.items c.args.p q c.push.new.self c.index_mut.result.now c.args.n m c.index_mut.ensures.value c.in_ok-push.ensures.items
    (c.in_ok-extend.ensures.keeps q m h)

pub returns-clause-there : goal.returns-clause-there
returns-clause-there c =
    pushed c.extend.new.lists.items c.args.p c.push.new.self c.index_mut.result.now c.args.n c.in_ok-extend.ensures.there c.in_ok-push.ensures.items
