use Rattle.std.proofs.Common.{◌≡◌, All, length}
use Rattle.bg_turns.specs.Turns.{AreOf, Fits}
use Rattle.bg_turns.proofs.gather.placed.Given as goal

abbrev pub invariant-loop-part : goal.invariant-loop-part
invariant-loop-part g l =
    (length l.slots.items ≡ l.fn.n) × (All (AreOf g.F.Fn l.fn.f l.fn.n) l.part-iterator.rest.items × Fits g.F.Fn l.fn.f l.slots.items)
