use Rattle.std.proofs.Common.{◌≡◌, [], map, vec_len}
use Rattle.bg_kinds.specs.Faults.{first_of}
use Rattle.bg_typing.specs.Exprs.{made}
use Rattle.bg_typing.specs.Chains.{unwound}
use Rattle.bg_kinds.specs.FaultViews.{best_of}
use Rattle.bg_typing.specs.SideViews.{side_of, waiting_of}
use Rattle.bg_typing.proofs.exprs.unwind.Given as goal

abbrev pub invariant-loop-x : goal.invariant-loop-x
invariant-loop-x l =
    record {
      best : first_of (best_of l.best) (unwound (map waiting_of l.waiting.items) (made (side_of l.side) [])).faults ≡ first_of (best_of l.fn.best) (unwound (map waiting_of l.fn.waiting.items) (made (side_of l.fn.last) [])).faults;
      side : (unwound (map waiting_of l.waiting.items) (made (side_of l.side) [])).side ≡ (unwound (map waiting_of l.fn.waiting.items) (made (side_of l.fn.last) [])).side;
    }

abbrev pub decreases-loop-x : goal.decreases-loop-x
decreases-loop-x l = vec_len l.waiting
