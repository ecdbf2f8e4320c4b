use Rattle.std.proofs.Common.{◌≡◌, take, length}
use Rattle.bg_cert.proofs.trail.undo_to.Given as goal

abbrev pub invariant-loop-trail : goal.invariant-loop-trail
invariant-loop-trail l =
    record {
      front : take l.depth l.trail.decisions.items ≡ take l.depth l.fn.trail.decisions.items;
      sized : length l.trail.counts.items ≡ length l.fn.trail.counts.items;
    }

abbrev pub decreases-loop-trail : goal.decreases-loop-trail
decreases-loop-trail l = length l.trail.decisions.items
