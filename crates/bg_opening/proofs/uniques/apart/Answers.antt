use Rattle.bg_opening.proofs.OpenedWhole.{apart_is}
use Rattle.bg_opening.proofs.uniques.apart.Goals as goal

pub returns : goal.returns
returns c =
    apart_is c.in_ok-first.first c.push.new.self c.new-links.result.items c.args.k c.args.j c.in_ok-first.ensures.ok c.new-links.ensures.items c.in_ok-push.ensures.items
