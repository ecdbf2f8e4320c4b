use Rattle.std.proofs.Common.{◌≡◌, take, map}
use Rattle.bg_finish.specs.Filled.{all_held}
use Rattle.bg_finish.proofs.Held.{blank_of}
use Rattle.bg_finish.proofs.tables.blank_tables.Given as goal

abbrev pub invariant-loop-t : goal.invariant-loop-t
invariant-loop-t l = all_held l.made.items ≡ map blank_of (take l.t-index l.results)
