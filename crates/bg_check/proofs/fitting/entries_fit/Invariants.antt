use Rattle.std.proofs.Common.{◌≡◌, map}
use Rattle.bg_kinds.specs.Views.{ref_in}
use Rattle.bg_scalar.specs.Values.{value_of}
use Rattle.bg_scalar.specs.Views.{entry_in}
use Rattle.bg_check.specs.Fitting.{entries_fit}
use Rattle.bg_check.proofs.fitting.entries_fit.Given as goal

abbrev pub invariant-loop-key : goal.invariant-loop-key
invariant-loop-key l =
    entries_fit (map ref_in l.params) (ref_in l.gives) (value_of l.table.default) (map entry_in l.key-iterator)
    ≡ entries_fit (map ref_in l.params) (ref_in l.gives) (value_of l.table.default) (map entry_in l.table.entries.entries)
