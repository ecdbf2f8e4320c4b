use Rattle.std.proofs.Common.{◌≡◌, ◌++◌, map, drop}
use Rattle.bg_told.proofs.history.listed.Given as goal

abbrev pub invariant-loop-removal : goal.invariant-loop-removal
invariant-loop-removal l = map (λ d. d.now) l.made.items ++ drop l.removal-index l.removals ≡ l.removals
