use Rattle.std.proofs.Common.{◌≡◌, ◌++◌, drop}
use Rattle.bg_rows.specs.Keys.{pairs_of}
use Rattle.bg_rows.proofs.row_key.pairs.Given as goal

abbrev pub invariant-loop-t : goal.invariant-loop-t
invariant-loop-t l = l.made.items ++ pairs_of (drop l.t-index l.entries) ≡ pairs_of l.entries
