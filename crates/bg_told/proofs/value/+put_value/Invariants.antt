use Rattle.std.proofs.Common.{◌≡◌, ◌++◌, drop, flat_map}
use Rattle.bg_kinds.specs.Views.{ref_of}
use Rattle.bg_told.specs.Entries.{types_in, entry_front}
use Rattle.bg_told.proofs.value.+put_value.Given as goal

abbrev pub invariant-put_entries-loop-entry : goal.invariant-put_entries-loop-entry
invariant-put_entries-loop-entry l =
    l.out.items ++ flat_map (entry_front (types_in l.types) (ref_of l.t)) (drop l.entry-index l.entries)
    ≡ l.initial.out.items ++ flat_map (entry_front (types_in l.types) (ref_of l.t)) l.entries
