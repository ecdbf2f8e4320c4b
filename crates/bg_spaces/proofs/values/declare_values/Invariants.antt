use Rattle.std.proofs.Common.{◌≡◌, ◌++◌, [], map, drop}
use Rattle.bg_names.specs.Faults.{better}
use Rattle.bg_names.specs.Spaces.{with_names, repeats}
use Rattle.bg_spaces.specs.Declarations.{meanings_from, entry_id}
use Rattle.bg_spaces.specs.Views.{entry_of}
use Rattle.bg_names.specs.Views.{listed, first_of}
use Rattle.bg_spaces.proofs.values.declare_values.Given as goal

abbrev pub invariant-loop-e : goal.invariant-loop-e
invariant-loop-e l =
    let rest = map entry_of (drop l.e-index l.entries) in
    (with_names (listed l.names) (map entry_id rest) ≡ with_names [] (map entry_id (map entry_of l.entries)))
    × (l.meanings.items ++ meanings_from (listed l.names) rest ≡ meanings_from [] (map entry_of l.entries))
    × (better (first_of l.notes) (repeats (listed l.names) (map entry_id rest)) ≡ better (first_of l.fn.notes) (repeats [] (map entry_id (map entry_of l.entries))))
