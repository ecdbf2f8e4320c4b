use Rattle.std.proofs.Common.{◌≡◌, None, map, drop}
use Rattle.bg_text.specs.Views.{option_of}
use Rattle.bg_certtext.specs.Views.{value_of, entry_of}
use Rattle.bg_certtext.specs.Spellable.{are_entries}
use Rattle.bg_certtext.proofs.sorted.are_entries.Given as goal

abbrev pub invariant-loop-entry : goal.invariant-loop-entry
invariant-loop-entry l = are_entries (option_of (λ e. (entry_of e.now).key) l.before) (value_of l.default) (map entry_of (drop l.entry-index l.entries)) ≡ are_entries None (value_of l.default) (map entry_of l.entries)
