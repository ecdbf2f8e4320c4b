use Rattle.std.proofs.Common.{◌≡◌, drop, map}
use Rattle.bg_kinds.specs.Views.{ref_of}
use Rattle.bg_scalar.specs.Values.{value_of}
use Rattle.bg_scalar.specs.Maps.{entry_in}
use Rattle.bg_replay.specs.Holds.{are_entries}
use Rattle.bg_replay.proofs.holds.+is_of.Given as goal

abbrev pub invariant-are_entries-loop-i : goal.invariant-are_entries-loop-i
invariant-are_entries-loop-i l =
    are_entries l.parts (ref_of l.t) (value_of l.default) (map entry_in (drop l.i l.entries)) ≡ are_entries l.parts (ref_of l.t) (value_of l.default) (map entry_in l.entries)
