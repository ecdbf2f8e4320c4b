use Rattle.std.proofs.Common.{◌≡◌, ◌++◌, map, drop, flat_map}
use Rattle.bg_certtext.specs.Views.{entry_of}
use Rattle.bg_certtext.specs.Rows.{row_front, entry_rows}
use Rattle.bg_certtext.proofs.functions.put_entries.Given as goal

abbrev pub invariant-loop-entry : goal.invariant-loop-entry
invariant-loop-entry l =
    l.out.items ++ flat_map row_front (entry_rows (map entry_of (drop l.entry-index l.entries)))
    ≡ l.initial.out.items ++ flat_map row_front (entry_rows (map entry_of l.entries))
