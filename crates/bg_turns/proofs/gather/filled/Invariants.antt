use Rattle.std.proofs.Common.{◌≡◌, ℕ, ◌<◌, ◌≤◌, length, drop, get_or}
use Rattle.std.specs.Fn.{FnReturns}
use Rattle.bg_turns.proofs.gather.filled.Given as goal

abbrev pub invariant-loop-slot : goal.invariant-loop-slot
invariant-loop-slot g l =
    (length l.made.items ≤ length l.fn.slots.items)
    × ((l.slot-iterator.rest.items ≡ drop (length l.made.items) l.fn.slots.items)
    × ((k : ℕ) (d : _) → k < length l.made.items → FnReturns g.F.Fn l.fn.f (k, tt) (get_or l.made.items k d)))
