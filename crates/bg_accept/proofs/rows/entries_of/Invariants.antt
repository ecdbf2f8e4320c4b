use Rattle.std.proofs.Common.{◌≡◌, ◌++◌, map, drop}
use Rattle.bg_accept.specs.Made.{entry_of}
use Rattle.bg_accept.proofs.rows.entries_of.Given as goal

abbrev pub invariant-loop-t : goal.invariant-loop-t
invariant-loop-t l = l.made.items ++ map entry_of (drop l.t-index l.row) ≡ map entry_of l.row
