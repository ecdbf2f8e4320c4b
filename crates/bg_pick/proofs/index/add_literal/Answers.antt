use Rattle.std.proofs.Common.{refl}
use Rattle.bg_pick.proofs.Indexes.{grows_yes, grows_no}
use Rattle.bg_pick.proofs.index.add_literal.Goals as goal

pub returns-in_ok-push_at-clause-grows : goal.returns-in_ok-push_at-clause-grows
returns-in_ok-push_at-clause-grows c =
    grows_yes c.args.i.now (record { start = c.args.i.now.start; yes = c.push_at.new.lists; no = c.args.i.now.no }) refl refl c.in_ok-push_at.ensures.grows

pub returns-in_ok-push_at-2-clause-grows : goal.returns-in_ok-push_at-2-clause-grows
returns-in_ok-push_at-2-clause-grows c =
    grows_no c.args.i.now (record { start = c.args.i.now.start; yes = c.args.i.now.yes; no = c.push_at-else-l.new.lists }) refl refl c.in_ok-push_at-2.ensures.grows
