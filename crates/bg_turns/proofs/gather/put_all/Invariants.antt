use Rattle.std.proofs.Common.{◌≡◌, All, length}
use Rattle.bg_turns.specs.Turns.{IsOf, Fits}
use Rattle.bg_turns.proofs.gather.put_all.Given as goal

abbrev pub invariant-loop-k : goal.invariant-loop-k
invariant-loop-k g l =
    (length l.slots.items ≡ length l.fn.slots.items)
    × (All (IsOf g.F.Fn l.fn.f (length l.fn.slots.items)) l.k-iterator.rest.items × Fits g.F.Fn l.fn.f l.slots.items)
