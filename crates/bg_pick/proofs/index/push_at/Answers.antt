use Rattle.bg_pick.proofs.Indexes.{pushed, kept}
use Rattle.bg_pick.proofs.index.push_at.Goals as goal

pub returns-clause-grows : goal.returns-clause-grows
returns-clause-grows c =
    λ b y h. kept c.args.lists.now.items c.args.a b c.push.new.self c.index_mut.result.now c.args.x y c.index_mut.ensures.value c.in_ok-push.ensures.items h

pub returns-clause-has : goal.returns-clause-has
returns-clause-has c =
    pushed c.args.lists.now.items c.args.a c.push.new.self c.index_mut.result.now c.args.x c.requires c.in_ok-push.ensures.items
