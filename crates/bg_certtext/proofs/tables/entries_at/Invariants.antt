use Rattle.std.proofs.Common.{◌≡◌, length}
use Rattle.bg_certtext.specs.Got.{entries_at, prefix, pairs_of}
use Rattle.bg_certtext.proofs.tables.entries_at.Given as goal

abbrev pub invariant-loop-last : goal.invariant-loop-last
invariant-loop-last l = prefix (pairs_of l.entries.items) (entries_at l.rest) ≡ entries_at l.bytes

abbrev pub decreases-loop-last : goal.decreases-loop-last
decreases-loop-last l = length l.rest
