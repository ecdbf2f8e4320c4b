use Rattle.bg_ahead.proofs.Copying.{one_stays}
use Rattle.bg_ahead.proofs.rows.stays.Goals as goal

pub loop-atom-preserved : goal.loop-atom-preserved
loop-atom-preserved c = one_stays c.loop-atom.atom c.loop-atom.made.items c.push.new.self.items c.loop-atom.invariant c.in_ok-push.ensures.items
